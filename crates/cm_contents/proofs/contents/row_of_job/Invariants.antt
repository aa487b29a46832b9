use Rattle.std.proofs.Common.{◌≡◌, ◌==◌, ℕ, drop}
use Rattle.std.specs.Prelude.{find}
use Rattle.cm_pkglib.specs.declared.row.PkgRow.{PkgRow}
use Rattle.cm_contents.proofs.contents.row_of_job.Given as goal

abbrev pub invariant-loop-unfinished : goal.invariant-loop-unfinished
invariant-loop-unfinished l = find (λ (u : ℕ × PkgRow). u.0 == l.job) l.jobs ≡ find (λ (u : ℕ × PkgRow). u.0 == l.job) (drop l.unfinished-index l.jobs)
