use Rattle.cm_records.proofs.laws.show_laws.Goals as goal

pub returns : goal.returns
returns c = record {
  looks_same = c.the_log_and_its_texts_decide.ensures;
  goes_on = c.a_topology_more_is_read.ensures;
  numbered = c.named_are_numbered.ensures;
  own = c.numbers_have_their_own_places.ensures.own;
  no_ready = c.numbers_have_their_own_places.ensures.ready;
  no_log = c.numbers_have_their_own_places.ensures.log;
}
