-- What a call leaves alone of a disk.
use Rattle.std.specs.Prelude.{◌≡◌, ℕ, ◌≤◌, true, List, Option, None, Some, is_some}
use Rattle.std.specs.Option.{ForSome}
use Rattle.cm_disk.specs.Disk.{File, Files, IsImage, LeavesNoMore, LeavesOnly}

-- at each place that has P a read gives what it gave before
abbrev pub KeepsReads : (List ℕ → Type 0) → Option Files → Option Files → Type 0
KeepsReads P old new = ForSome old (λ files. (now : Files) × (new ≡ Some now) × ((q : List ℕ) → P q → now q ≡ files q))

-- each file that was there is there
abbrev pub NoneGone : Option Files → Option Files → Type 0
NoneGone old new = ForSome old (λ files. (now : Files) × (new ≡ Some now) × ((q : List ℕ) → is_some (files q) ≡ true → is_some (now q) ≡ true))

-- A call that writes nothing: reads give what they gave, and a crash during it or after it leaves no more than one before it.
pub record OnlyReads {D : Type 0} (reads : D → Option Files) (may_leave : D → List ℕ → File → Type 0) (moment : D → ℕ) (left_since : D → ℕ → Files → Type 0) (faults : D → ℕ) (old new : D) : Type 0 where
  pub same : reads new ≡ reads old
  pub stop : LeavesNoMore (may_leave old) (may_leave new)
  pub run : LeavesOnly moment left_since old new (IsImage (may_leave old))
  pub later : faults old ≤ faults new

-- A call that changes no place that has P: a read gives there what it gave, and a crash during the call or after it leaves there no
-- more than one before it. This holds after a failure too.
pub record LeavesAlone {D : Type 0} (P : List ℕ → Type 0) (reads : D → Option Files) (may_leave : D → List ℕ → File → Type 0) (moment : D → ℕ) (left_since : D → ℕ → Files → Type 0) (faults : D → ℕ) (old new : D) : Type 0 where
  -- a disk that does not tell what reads give does not tell it afterwards
  pub silent : reads old ≡ None → reads new ≡ None
  pub kept : KeepsReads P (reads old) (reads new)
  pub others : (q : List ℕ) (file : File) → P q → may_leave new q file → may_leave old q file
  pub run : LeavesOnly moment left_since old new (λ (left : Files). (q : List ℕ) → P q → may_leave old q (left q))
  pub later : faults old ≤ faults new
