use Rattle.std.proofs.Common.{◌==◌, ℕ, rules}
use Rattle.std.specs.Prelude.{not, ◌&&◌}
use Rattle.std.specs.Str.{bytes_eq}
use Rattle.std.proofs.lemmas.Fn.{filter_same}
use Rattle.cm_filelib.specs.declared.writing.Writing.{Writing}
use Rattle.cm_filelib.specs.Writings.{hash_of}
use Rattle.cm_library.proofs.started.leave_own.Goals as goal

pub returns-clause-rest : goal.returns-clause-rest
returns-clause-rest c =
    filter_same _ (λ (file : ℕ × Writing). not (file.0 == c.args.job && bytes_eq (hash_of file.1).0 c.args.hash.0)) _ (λ x b f r. search rules) _ _ c.retain.ensures.filtered
