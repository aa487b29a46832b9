use Rattle.std.proofs.Common.{◌≡◌, ℕ, ◌≤◌, List}
use Rattle.std.specs.Prelude.{true}
use Rattle.std.specs.Option.{ForSome}
use Rattle.cm_disk.specs.Disk.{Files, is_above}
use Rattle.cm_disk.specs.Ranks.{ahead}
use Rattle.cm_log.specs.Frames.{OnlyReads}
use Rattle.cm_library.specs.Purging.{KeepsAll}
use Rattle.cm_library.proofs.Walked.{Reached}
use Rattle.cm_library.proofs.library.Library.next_loose_settled.Given as goal

abbrev pub invariant-places : goal.invariant-places
invariant-places g l = record {
  all : KeepsAll l.fn.self l.self;
  only : OnlyReads g.D.Disk.reads g.D.Disk.may_leave g.D.Disk.moment g.D.Disk.left_since g.D.Disk.faults l.fn.self.disk l.self.disk;
  near : ahead l.from ≤ ahead l.fn.after;
  above : (q : List ℕ) → is_above l.from q ≡ true → is_above l.fn.after q ≡ true;
  reached : ForSome (g.D.Disk.reads l.fn.self.disk) (λ (files : Files). Reached l.fn.self.state files l.fn.after l.from);
}

abbrev pub decreases-places : goal.decreases-places
decreases-places g l = ahead l.from
