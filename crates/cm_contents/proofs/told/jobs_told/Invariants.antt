use Rattle.std.proofs.Common.{◌≡◌, take}
use Rattle.std.specs.Prelude.{map}
use Rattle.cm_state.specs.State.{job_row}
use Rattle.cm_contents.specs.Contents.{job_held_with, manifest_in_map}
use Rattle.cm_contents.proofs.told.jobs_told.Given as goal

abbrev pub invariant-loop-job : goal.invariant-loop-job
invariant-loop-job l = l.told.items ≡ map (λ job. job_row (job_held_with (manifest_in_map l.manifests) job)) (take l.job-index l.jobs)
