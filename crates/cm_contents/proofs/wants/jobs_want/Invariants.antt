use Rattle.std.proofs.Common.{ℕ, take}
use Rattle.std.specs.List.{AllByRecursion}
use Rattle.std.specs.BTreeMap.{get}
use Rattle.std.specs.Ordering.{nat_cmp}
use Rattle.cm_pkglib.specs.declared.row.PkgRow.{PkgRow}
use Rattle.cm_contents.specs.Contents.{manifest_in_map}
use Rattle.cm_contents.specs.Wants.{HasHashes}
use Rattle.cm_contents.proofs.wants.jobs_want.Given as goal

abbrev pub invariant-loop-job : goal.invariant-loop-job
invariant-loop-job l = AllByRecursion (λ (job : ℕ × PkgRow). HasHashes (get nat_cmp l.wants job.0) (manifest_in_map l.manifests job.1.package job.1.version)) (take l.job-index l.jobs)
