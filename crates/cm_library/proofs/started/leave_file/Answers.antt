use Rattle.std.proofs.Common.{◌==◌, ℕ, rules}
use Rattle.std.specs.Prelude.{not}
use Rattle.std.proofs.lemmas.Fn.{filter_same}
use Rattle.cm_filelib.specs.declared.writing.Writing.{Writing}
use Rattle.cm_library.proofs.started.leave_file.Goals as goal

pub returns-clause-rest : goal.returns-clause-rest
returns-clause-rest c = filter_same _ (λ (file : ℕ × Writing). not (file.0 == c.args.job)) _ (λ x b f r. search rules) _ _ c.retain.ensures.filtered
