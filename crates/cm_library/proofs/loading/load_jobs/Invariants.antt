use Rattle.std.proofs.Common.{ℕ, take}
use Rattle.std.specs.Option.{ForSome}
use Rattle.std.specs.List.{AllByRecursion}
use Rattle.cm_log.specs.Frames.{OnlyReads}
use Rattle.cm_pkglib.specs.declared.row.PkgRow.{PkgRow}
use Rattle.cm_library.specs.Loads.{IsKept, IsDurable, StaysKept}
use Rattle.cm_library.proofs.loading.load_jobs.Given as goal

abbrev pub invariant-loop-job : goal.invariant-loop-job
invariant-loop-job g l = record {
  kept : ForSome (g.D.Disk.reads l.fn.disk) (λ files. AllByRecursion (λ (job : ℕ × PkgRow). IsKept files l.manifests job.1) (take l.job-index l.jobs));
  durable : ForSome (g.D.Disk.reads l.fn.disk) (λ files. AllByRecursion (λ (job : ℕ × PkgRow). IsDurable files (g.D.Disk.may_leave l.disk) job.1) (take l.job-index l.jobs));
  stays : ForSome (g.D.Disk.reads l.fn.disk) (λ files. StaysKept files l.fn.manifests l.manifests);
  only : OnlyReads g.D.Disk.reads g.D.Disk.may_leave g.D.Disk.moment g.D.Disk.left_since g.D.Disk.faults l.fn.disk l.disk;
}
