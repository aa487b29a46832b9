-- The places of files: `FileLib/` and the 64 digits of the hash.
use Rattle.std.specs.Prelude.{ℕ, Bool, List, ◌++◌, take, drop, codes, Option, None, is_some, option_map, cond}
use Rattle.std.specs.Str.{bytes_eq}
use Rattle.hex.specs.Hex.{encode_lower}
use Rattle.cm_base.specs.declared.hash.Hash.{Hash}
use Rattle.cm_base.specs.Hashes.{hash_of_text}
use Rattle.cm_disk.specs.Disk.{Files}
use Rattle.cm_disk.specs.Walks.{only_at}

-- the folder of all files
abbrev pub folder : List ℕ
folder = codes "FileLib/"

-- above the places of all files
abbrev pub folder_end : List ℕ
folder_end = codes "FileLib0"

-- the place of the file of a hash
abbrev pub file_place : List ℕ → List ℕ
file_place hash = folder ++ encode_lower hash

abbrev pub place_or_none : Option Hash → Option (List ℕ)
place_or_none named = option_map (λ (hash : Hash). file_place hash.0) named

-- the hash whose file has this place
abbrev pub hash_named : List ℕ → Option (List ℕ)
hash_named place = cond (bytes_eq (take 8 place) folder) (hash_of_text (drop 8 place)) None

-- a place of this form
abbrev pub is_file_place : List ℕ → Bool
is_file_place place = is_some (hash_named place)

-- the files at such places alone
abbrev pub stored : Files → Files
stored files place = only_at is_file_place files place
