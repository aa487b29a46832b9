use Rattle.std.proofs.Common.{◌≡◌, ◌==◌, ℕ, false, take}
use Rattle.std.specs.List.{AllByRecursion}
use Rattle.cm_filelib.specs.declared.writing.Writing.{Writing}
use Rattle.cm_library.proofs.started.find_file.Given as goal

abbrev pub invariant-loop-i : goal.invariant-loop-i
invariant-loop-i l = AllByRecursion (λ (file : ℕ × Writing). (file.0 == l.job) ≡ false) (take l.i l.started)
