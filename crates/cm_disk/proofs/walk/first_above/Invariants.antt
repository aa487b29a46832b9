use Rattle.std.proofs.Common.{◌≡◌, ℕ, ◌≤◌, List}
use Rattle.std.specs.Prelude.{Some, true}
use Rattle.std.specs.Option.{ForSome}
use Rattle.cm_disk.specs.Disk.{Files, is_above}
use Rattle.cm_disk.specs.Ranks.{ahead, IsText}
use Rattle.cm_disk.proofs.Quiet.{Quiet}
use Rattle.cm_disk.proofs.Walks.{Reached}
use Rattle.cm_disk.proofs.walk.first_above.Given as goal

abbrev pub invariant-loop-place : goal.invariant-loop-place
invariant-loop-place g l = record {
  quiet : Quiet g.D.Disk.may_leave g.D.Disk.moment g.D.Disk.left_since l.fn.disk l.disk;
  same : g.D.Disk.reads l.disk ≡ g.D.Disk.reads l.fn.disk;
  later : g.D.Disk.faults l.fn.disk ≤ g.D.Disk.faults l.disk;
  text : IsText l.at;
  near : ahead (Some l.at) ≤ ahead (Some l.fn.from);
  above : (q : List ℕ) → is_above (Some l.at) q ≡ true → is_above (Some l.fn.from) q ≡ true;
  reached : ForSome (g.D.Disk.reads l.fn.disk) (λ (files : Files). Reached g.F.Form.is_form files l.fn.from l.at);
}

abbrev pub decreases-loop-place : goal.decreases-loop-place
decreases-loop-place g l = ahead (Some l.at)
