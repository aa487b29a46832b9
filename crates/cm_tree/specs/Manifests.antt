-- Manifests: what they are, and the one spelling of each.
use Rattle.std.specs.Prelude.{◌≡◌, ℕ, ◌<◌, ◌≤◌, ◌^◌, true, List, [], ◌∷◌, ◌++◌, length, map}
use Rattle.std.specs.List.{flat_map, AllByRecursion}
use Rattle.std.specs.Int.{w32, to_le_bytes}
use Rattle.cm_tree.specs.declared.entry.Entry.{Entry}
use Rattle.cm_tree.specs.Paths.{is_file_path, is_rising, is_apart}

-- the paths of entries, in order
abbrev pub paths_of : List Entry → List (List ℕ)
paths_of entries = map (λ entry. entry.path) entries

-- a path of its form, a size below 2^32, a hash of 32 bytes
pub record IsEntry (entry : Entry) : Type 0 where
  pub path : is_file_path entry.path ≡ true
  pub size : entry.size < 2 ^ 32
  pub hash : length entry.hash.0 ≡ 32

-- at most 20,000 entries, strictly rising by the bytes of their paths, no two paths the same after folding A to Z
pub record IsManifest (entries : List Entry) : Type 0 where
  pub few : length entries ≤ 20000
  pub each : AllByRecursion IsEntry entries
  pub rising : is_rising (paths_of entries) ≡ true
  pub apart : is_apart (paths_of entries) ≡ true

-- `CMDL`
abbrev pub magic : List ℕ
magic = 67 ∷ 77 ∷ 68 ∷ 76 ∷ []

-- the length of the path in a byte, the path, the size in four bytes, the hash
abbrev pub entry_bytes : Entry → List ℕ
entry_bytes entry = length entry.path ∷ entry.path ++ to_le_bytes w32 entry.size ++ entry.hash.0

-- `CMDL`, the form 1, the number of entries in four bytes, and the entries; numbers have the least byte first
abbrev pub spelling : List Entry → List ℕ
spelling entries = magic ++ (1 ∷ []) ++ to_le_bytes w32 (length entries) ++ flat_map entry_bytes entries

-- the grammar: bytes that spell a manifest
pub record Spells (bytes : List ℕ) (entries : List Entry) : Type 0 where
  pub manifest : IsManifest entries
  pub spelled : bytes ≡ spelling entries
