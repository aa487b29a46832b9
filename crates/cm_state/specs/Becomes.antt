-- How what a disk reads as changes, as a library, where the disk tells it.
use Rattle.std.specs.Prelude.{◌≡◌, ◌⊎◌, ℕ, List, Option, Some}
use Rattle.std.specs.Option.{ForSome}
use Rattle.cm_disk.specs.Disk.{File, Files, IsImage}
use Rattle.cm_state.specs.State.{empty}
use Rattle.cm_state.specs.Look.{Library, Missing, Opened, look}

-- the disk reads as this library
abbrev pub IsLibrary : Option Files → Library → Type 0
IsLibrary reads library = ForSome reads (λ files. look files ≡ library)

-- the disk read as some files, and now it reads as this library
abbrev pub Becomes : Option Files → Option Files → Library → Type 0
Becomes old new library = ForSome old (λ files. (now : Files) × (new ≡ Some now) × (look now ≡ library))

-- there was no library, and now there is an empty one
abbrev pub Makes : Option Files → Option Files → Type 0
Makes old new = IsLibrary old Missing × Becomes old new (Opened empty)

-- a stop leaves an empty library
abbrev pub IsMade : Files → Type 0
IsMade left = look left ≡ Opened empty

-- A crash while a library is made leaves what it might have left before; or, only if there was no library, none or an empty one.
abbrev pub IsMadeOrNot : Files → (List ℕ → File → Type 0) → Files → Type 0
IsMadeOrNot files may_leave left = IsImage may_leave left ⊎ ((look files ≡ Missing) × ((look left ≡ Missing) ⊎ IsMade left))

-- The making of a library failed: the disk reads as before; or, only if there was no library, as none or as an empty one.
abbrev pub MakesOrNot : Option Files → Option Files → Type 0
MakesOrNot old new = ForSome old (λ files. (now : Files) × (new ≡ Some now) × ((new ≡ old) ⊎ ((look files ≡ Missing) × ((look now ≡ Missing) ⊎ IsMade now))))
