use Rattle.std.specs.Option.{ForSome}
use Rattle.cm_disk.specs.Disk.{Files}
use Rattle.cm_disk.specs.Ranks.{ahead}
use Rattle.cm_log.specs.Frames.{LeavesAlone}
use Rattle.cm_state.specs.Adding.{Told}
use Rattle.cm_state.specs.Purged.{Clears}
use Rattle.cm_library.specs.Purging.{IsFirm, KeepsAll}
use Rattle.cm_library.proofs.Walked.{SoFar}
use Rattle.cm_library.proofs.library.Library.purge_settled.Given as goal

abbrev pub invariant-steps : goal.invariant-steps
invariant-steps g l = record {
  all : KeepsAll l.fn.self l.self;
  alone : LeavesAlone (IsFirm l.fn.self.state) g.D.Disk.reads g.D.Disk.may_leave g.D.Disk.moment g.D.Disk.left_since g.D.Disk.faults l.fn.self.disk l.self.disk;
  clears : Told (Clears l.fn.self.state) (g.D.Disk.reads l.fn.self.disk) (g.D.Disk.reads l.self.disk);
  so_far : ForSome (g.D.Disk.reads l.fn.self.disk) (λ (files : Files). SoFar l.fn.self.state files (g.D.Disk.reads l.self.disk) (g.D.Disk.may_leave l.self.disk) l.after l.purged.files l.purged.manifests);
}

abbrev pub decreases-steps : goal.decreases-steps
decreases-steps g l = ahead l.after
