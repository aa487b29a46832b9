use Rattle.std.proofs.Common.{◌≡◌, ◌+◌, ◌≤◌, ℕ, length, take}
use Rattle.std.specs.Prelude.{sum_by}
use Rattle.std.specs.List.{AllByRecursion}
use Rattle.cm_base.specs.declared.hash.Hash.{Hash}
use Rattle.cm_pkglib.specs.declared.row.PkgRow.{PkgRow}
use Rattle.cm_pkglib.specs.Counts.{count_of, sealed_of, times}
use Rattle.cm_contents.specs.Contents.{manifest_in_map}
use Rattle.cm_contents.proofs.counting.count_jobs.Given as goal

abbrev pub invariant-loop-job : goal.invariant-loop-job
invariant-loop-job l = record {
  counts : (hash : Hash) → count_of l.counts hash ≡ count_of l.fn.counts hash + sum_by (λ (job : ℕ × PkgRow). times hash (manifest_in_map l.manifests job.1.package job.1.version)) (take l.job-index l.jobs);
  small : AllByRecursion (λ (job : ℕ × PkgRow). length (manifest_in_map l.manifests job.1.package job.1.version) ≤ 20000) (take l.job-index l.jobs);
  seals : (hash : Hash) → sealed_of l.counts hash ≡ sealed_of l.fn.counts hash;
}
