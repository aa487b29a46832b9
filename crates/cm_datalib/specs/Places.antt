-- The places of stored manifests: `DataLib/`, the package, `.` and the version in decimal.
use Rattle.std.specs.Prelude.{ℕ, ◌^◌, ◌&&◌, nat_le, nat_lt, Bool, List, ◌∷◌, ◌++◌, take, drop, codes, Option, None, Some, is_some, option_map, cond}
use Rattle.std.specs.Str.{bytes_eq}
use Rattle.std.specs.Str.Parse.{digits_value}
use Rattle.std.specs.Fmt.{decimal}
use Rattle.cm_base.specs.Names.{is_package_id}
use Rattle.cm_disk.specs.Disk.{Files}
use Rattle.cm_disk.specs.Walks.{only_at}

-- the folder of all manifests
abbrev pub folder : List ℕ
folder = codes "DataLib/"

-- above the places of all manifests
abbrev pub folder_end : List ℕ
folder_end = codes "DataLib0"

-- the place of the manifest of a version
abbrev pub manifest_place : List ℕ → ℕ → List ℕ
manifest_place id version = folder ++ id ++ 46 ∷ decimal version

abbrev pub place_or_none : Option (List ℕ × ℕ) → Option (List ℕ)
place_or_none named = option_map (λ (named : List ℕ × ℕ). manifest_place named.0 named.1) named

-- a package id, and a version from 1 to 2^32 - 1
abbrev pub is_version : List ℕ → ℕ → Bool
is_version id version = is_package_id id && nat_le 1 version && nat_lt version (2 ^ 32)

-- these, where they are a version and this is its place
abbrev pub named_if : List ℕ → ℕ → List ℕ → Option (List ℕ × ℕ)
named_if id version place = cond (is_version id version && bytes_eq (manifest_place id version) place) (Some (id, version)) None

-- the version whose manifest has this place: its parts are the eight bytes behind the folder and the number behind the point
abbrev pub version_named : List ℕ → Option (List ℕ × ℕ)
version_named place = named_if (take 8 (drop 8 place)) (digits_value 10 (drop 17 place)) place

-- a place of this form
abbrev pub is_manifest_place : List ℕ → Bool
is_manifest_place place = is_some (version_named place)

-- the files at such places alone
abbrev pub stored : Files → Files
stored files place = only_at is_manifest_place files place
