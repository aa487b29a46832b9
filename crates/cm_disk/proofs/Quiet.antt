-- Calls that change nothing, one after another.
use Rattle.std.proofs.Common.{ℕ, List}
use Rattle.cm_disk.specs.Disk.{File, Files, IsImage, LeavesNoMore, Elapses, LeavesOnly}
use Rattle.cm_disk.proofs.Moments.{started, goes_on, joins}

module _ {D : Type 0} (may_leave : D → List ℕ → File → Type 0) (moment : D → ℕ) (left_since : D → ℕ → Files → Type 0) where
  -- a stop at any moment left what it might have left before
  pub record Quiet (old new : D) : Type 0 where
    pub run : LeavesOnly moment left_since old new (IsImage (may_leave old))
    pub stop : LeavesNoMore (may_leave old) (may_leave new)

  pub quiet_start : (old : D) → ((files : Files) → left_since old (moment old) files → IsImage (may_leave old) files) → Quiet old old
  quiet_start old only_now = record { run = started moment left_since old (IsImage (may_leave old)) only_now; stop = λ q file left. left }

  pub quiet_next : (old mid new : D) → Quiet old mid → Elapses (moment mid) (moment new) (left_since mid) (left_since new) (may_leave new) → LeavesNoMore (may_leave mid) (may_leave new) → Quiet old new
  quiet_next old mid new so_far time stop = record {
    run = goes_on moment left_since old mid new (IsImage (may_leave old)) (may_leave new) so_far.run time (λ files image q. so_far.stop q (files q) (stop q (files q) (image q)));
    stop = λ q file left. so_far.stop q file (stop q file left);
  }

  pub quiet_join : (old mid new : D) → Quiet old mid → LeavesOnly moment left_since mid new (IsImage (may_leave mid)) → LeavesNoMore (may_leave mid) (may_leave new) → Quiet old new
  quiet_join old mid new so_far run stop = record {
    run = joins moment left_since old mid new (IsImage (may_leave old)) (IsImage (may_leave mid)) so_far.run run (λ files image q. so_far.stop q (files q) (image q));
    stop = λ q file left. so_far.stop q file (stop q file left);
  }
