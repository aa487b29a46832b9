-- The steps of adding a record, whatever the disk.
use Rattle.std.proofs.Common.{ℕ, List}
use Rattle.cm_disk.specs.Disk.{File, Files, IsImage, LeavesNoMore, Only, Elapses, LeavesOnly}
use Rattle.cm_disk.proofs.Moments.{started, goes_on}
use Rattle.cm_log.specs.Fronts.{IsShut, IsGated}
use Rattle.cm_log.proofs.Images.{AllAre, at_rest, fewer}

module _ {D : Type 0} (may_leave : D → List ℕ → File → Type 0) (moment : D → ℕ) (left_since : D → ℕ → Files → Type 0) (place : List ℕ) (front body : List ℕ) (first : D) where
  abbrev pub P : Files → Type 0
  P = IsGated place (may_leave first) front body

  -- so far a stop leaves the gate closed, or open before the record
  pub record Along (now : D) : Type 0 where
    pub so_far : LeavesOnly moment left_since first now P
    pub here : AllAre place front body (may_leave first) (may_leave now)

  pub begun : (file : File) → IsShut front file → Only file (may_leave first place) → ((files : Files) → left_since first (moment first) files → IsImage (may_leave first) files) → Along first
  begun file h only only_now =
      let all = at_rest place front body (may_leave first) file h only in
      record { so_far = started moment left_since first P (λ files left. all files (only_now files left)); here = all }

  pub next : (mid new : D) → Along mid → Elapses (moment mid) (moment new) (left_since mid) (left_since new) (may_leave new) → AllAre place front body (may_leave first) (may_leave new) → Along new
  next mid new a time all = record { so_far = goes_on moment left_since first mid new P (may_leave new) a.so_far time all; here = all }

  pub quiet : (mid new : D) → Along mid → Elapses (moment mid) (moment new) (left_since mid) (left_since new) (may_leave new) → LeavesNoMore (may_leave mid) (may_leave new) → Along new
  quiet mid new a time no_more = next mid new a time (fewer place front body (may_leave first) (may_leave mid) (may_leave new) no_more a.here)
