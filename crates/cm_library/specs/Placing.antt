-- The places that a library writes.
use Rattle.std.specs.Prelude.{◌≡◌, ◌⊎◌, ℕ, true, List, length, is_some}
use Rattle.hex.specs.Hex.{IsBytes}
use Rattle.cm_disk.specs.Disk.{Files}
use Rattle.cm_log.specs.declared.shelf.Shelf.TheVariants.{PkgLib}
use Rattle.cm_log.specs.declared.shelf.Side.{Side}
use Rattle.cm_log.specs.Shelves.{ready_place, log_place}
use Rattle.cm_datalib.specs.Places.{is_version, manifest_place}
use Rattle.cm_filelib.specs.Places.{file_place}

-- one of the three of its log
abbrev pub IsLogPlace : List ℕ → Type 0
IsLogPlace q = (q ≡ ready_place PkgLib) ⊎ ((side : Side) × (q ≡ log_place PkgLib side))

-- that of the manifest of a version
abbrev pub IsManifestPlace : List ℕ → Type 0
IsManifestPlace q = (id : List ℕ) × (version : ℕ) × (is_version id version ≡ true) × (q ≡ manifest_place id version)

-- that of the file of a hash
abbrev pub IsFilePlace : List ℕ → Type 0
IsFilePlace q = (hash : List ℕ) × IsBytes hash × (length hash ≡ 32) × (q ≡ file_place hash)

-- a place of a library
abbrev pub IsLibraryPlace : List ℕ → Type 0
IsLibraryPlace q = IsLogPlace q ⊎ (IsManifestPlace q ⊎ IsFilePlace q)

-- what reads give has changed at places of a library alone, and what was there is there
pub record KeepsPlaces (files now : Files) : Type 0 where
  pub others : (q : List ℕ) → (IsLibraryPlace q → ⊥) → now q ≡ files q
  pub kept : (q : List ℕ) → is_some (files q) ≡ true → is_some (now q) ≡ true
