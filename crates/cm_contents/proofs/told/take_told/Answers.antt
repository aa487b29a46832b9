use Rattle.std.proofs.Common.{◌==◌, rules}
use Rattle.std.specs.Prelude.{not}
use Rattle.std.proofs.lemmas.Fn.{filter_same}
use Rattle.cm_state.specs.declared.row.JobRow.{JobRow}
use Rattle.cm_contents.proofs.told.take_told.Goals as goal

pub returns-clause-rest : goal.returns-clause-rest
returns-clause-rest c = filter_same _ (λ (row : JobRow). not (row.job == c.args.job)) _ (λ x b f r. search rules) _ _ c.retain.ensures.filtered
