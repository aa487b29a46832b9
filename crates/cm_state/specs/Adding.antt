-- How what a disk reads as changes, where it tells that.
use Rattle.std.specs.Prelude.{◌≡◌, ℕ, List, Option, Some}
use Rattle.std.specs.Option.{ForSome}
use Rattle.cm_disk.specs.Disk.{Files}
use Rattle.cm_filelib.specs.Places.{file_place}

-- where the disk tells what it reads as, it does so afterwards, and the two are so related
abbrev pub Told : (Files → Files → Type 0) → Option Files → Option Files → Type 0
Told relation old new = ForSome old (λ files. (now : Files) × (new ≡ Some now) × relation files now)

-- no stored file has changed
abbrev pub KeepsStore : Files → Files → Type 0
KeepsStore files now = (hash : List ℕ) → now (file_place hash) ≡ files (file_place hash)
