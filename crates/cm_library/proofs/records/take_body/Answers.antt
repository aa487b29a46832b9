use Rattle.cm_state.proofs.Soundness.{names_of}
use Rattle.cm_library.proofs.records.take_body.Goals as goal

pub apply_change-requires-clause-names : goal.apply_change-requires-clause-names
apply_change-requires-clause-names c = names_of c.in-Some.change c.in-Some.ensures.found.ranges
