use Rattle.std.proofs.Common.{take}
use Rattle.std.specs.Option.{ForSome}
use Rattle.std.specs.List.{AllByRecursion}
use Rattle.cm_log.specs.Frames.{OnlyReads}
use Rattle.cm_library.specs.Loads.{IsKept, IsDurable, StaysKept}
use Rattle.cm_library.proofs.loading.load_versions.Given as goal

abbrev pub invariant-loop-row : goal.invariant-loop-row
invariant-loop-row g l = record {
  kept : ForSome (g.D.Disk.reads l.fn.disk) (λ files. AllByRecursion (IsKept files l.manifests) (take l.row-index l.rows));
  durable : ForSome (g.D.Disk.reads l.fn.disk) (λ files. AllByRecursion (IsDurable files (g.D.Disk.may_leave l.disk)) (take l.row-index l.rows));
  stays : ForSome (g.D.Disk.reads l.fn.disk) (λ files. StaysKept files l.fn.manifests l.manifests);
  only : OnlyReads g.D.Disk.reads g.D.Disk.may_leave g.D.Disk.moment g.D.Disk.left_since g.D.Disk.faults l.fn.disk l.disk;
}
