use Rattle.std.proofs.Common.{◌≡◌, ◌==◌, drop}
use Rattle.std.specs.Prelude.{find}
use Rattle.cm_state.specs.declared.row.JobRow.{JobRow}
use Rattle.cm_contents.proofs.told.told_job.Given as goal

abbrev pub invariant-loop-row : goal.invariant-loop-row
invariant-loop-row l = find (λ (row : JobRow). row.job == l.job) l.jobs ≡ find (λ (row : JobRow). row.job == l.job) (drop l.row-index l.jobs)
