use Rattle.std.proofs.Common.{◌≤◌}
use Rattle.std.specs.Option.{ForSome}
use Rattle.cm_disk.specs.Disk.{LeavesOnly}
use Rattle.cm_disk.specs.Ranks.{ahead}
use Rattle.cm_state.specs.Opens.{Opens, EachOpensSome}
use Rattle.cm_state.specs.Purged.{loose}
use Rattle.cm_check.specs.Looks.{Looks}
use Rattle.cm_check.proofs.Listed.{ListedTo}
use Rattle.cm_check.proofs.listing.what_if.Given as goal

abbrev pub invariant-places : goal.invariant-places
invariant-places g l =
    let d = g.D.Disk in
    record {
      looks : Looks d.reads l.fn.library l.library;
      later : d.faults l.fn.library.disk ≤ d.faults l.library.disk;
      opens : EachOpensSome (d.may_leave l.fn.library.start) → ForSome (d.reads l.fn.library.disk) (λ _. LeavesOnly d.moment d.left_since l.fn.library.disk l.library.disk (λ image. Opens image l.fn.library.state));
      listed : ForSome (d.reads l.fn.library.disk) (λ files. ListedTo (loose l.fn.library.state files) l.after l.list.items);
    }

abbrev pub decreases-places : goal.decreases-places
decreases-places g l = ahead l.after
