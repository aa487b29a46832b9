use Rattle.std.proofs.Common.{◌≡◌, ◌==◌, ℕ, false, rules}
use Rattle.cm_filelib.specs.declared.writing.Writing.{Writing}
use Rattle.cm_state.proofs.Lists.{all_next}
use Rattle.cm_library.proofs.FileAt.{found_at}
use Rattle.cm_library.proofs.started.find_file.Goals as goal

pub returns-then-eq : goal.returns-then-eq
returns-then-eq c =
    record { there = (c.index-started-i.result.1, found_at c.args.job c.args.started.now c.loop-i.i c.index-started-i.result (search rules) (search rules) (search rules), c.loop-i.invariant) }

pub loop-i-preserved : goal.loop-i-preserved
loop-i-preserved c =
    all_next (λ (file : ℕ × Writing). (file.0 == c.args.job) ≡ false) c.args.started.now c.loop-i.i c.index-started-i.result (search rules) (search rules) c.loop-i.invariant (search rules)
