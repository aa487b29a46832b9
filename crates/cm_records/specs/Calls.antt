-- How the calls on records end.
use Rattle.std.specs.Prelude.{◌≡◌, ◌⊎◌, ℕ, Bool, true, false, Option, None, Some}
use Rattle.std.specs.Option.{ForSome}
use Rattle.cm_disk.specs.Disk.{Files}
use Rattle.cm_register.specs.Opens.{Noted, OpensOr}
use Rattle.cm_register.specs.Records.{Records}
use Rattle.cm_records.specs.Seen.{Seen, Reads, HasNoted, MayHave}

-- Settling has found which: the records are settled, with the record of the failed call or as they were. Where the disk tells what reads
-- give, they are those of the files.
pub record Finds {D : Type 0} (reads : D → Option Files) (old new : Seen D) : Type 0 where
  pub idle : new.pending ≡ None
  pub start : new.start ≡ old.start
  pub same : reads new.disk ≡ reads old.disk
  pub may : MayHave old.pending old.kept old.end new.kept new.end
  pub files : ForSome (reads old.disk) (λ files. Reads files new.kept new.end)

-- settling tells whether the record of a failed call is there; where none had failed it is not
abbrev pub Tells : Option Noted → Records → ℕ → Records → ℕ → Bool → Type 0
Tells None kept end then gate there = (there ≡ false) × (then ≡ kept) × (gate ≡ end)
Tells (Some one) kept end then gate true = HasNoted one kept end then gate
Tells (Some one) kept end then gate false = (then ≡ kept) × (gate ≡ end)

-- the records are as they were, but for their disk
pub record StaysUnsettled {D : Type 0} (old new : Seen D) : Type 0 where
  pub start : new.start ≡ old.start
  pub kept : new.kept ≡ old.kept
  pub end : new.end ≡ old.end
  pub pending : new.pending ≡ old.pending

-- The record was committed: the records have it, and where the disk tells what reads give, they are those of the files.
pub record Commits {D : Type 0} (reads : D → Option Files) (one : Noted) (old new : Seen D) : Type 0 where
  pub idle : new.pending ≡ None
  pub noted : HasNoted one old.kept old.end new.kept new.end
  pub files : ForSome (reads old.disk) (λ _. (now : Files) × (reads new.disk ≡ Some now) × Reads now new.kept new.end)

-- the commit failed: the records are as they were, and the record may be pending
pub record FailsWith {D : Type 0} (one : Noted) (old new : Seen D) : Type 0 where
  pub kept : new.kept ≡ old.kept
  pub end : new.end ≡ old.end
  pub pending : (new.pending ≡ None) ⊎ (new.pending ≡ Some one)
