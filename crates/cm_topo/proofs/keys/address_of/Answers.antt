use Rattle.cm_topo.proofs.keys.address_of.Goals as goal

pub returns : goal.returns
returns c = (c.each_text_is_read.ensures.address c.args.text.now _).0 c.address_read.ensures
