-- Trees of files, and their manifests.
use Rattle.std.specs.Prelude.{◌≡◌, ℕ, ◌<◌, ◌≤◌, ◌^◌, true, List, length, map, Contains}
use Rattle.std.specs.List.{AllByRecursion}
use Rattle.sha2.specs.Sha256.{sha256}
use Rattle.cm_tree.specs.declared.entry.Entry.{Entry}
use Rattle.cm_tree.specs.Paths.{is_file_path, is_rising, is_apart}

-- a file of a tree: its path and its bytes
pub record File : Type 0 where
  pub path : List ℕ
  pub bytes : List ℕ

-- the paths of files, in order
abbrev pub file_paths : List File → List (List ℕ)
file_paths files = map (λ file. file.path) files

-- a path of its form, and at most 4,294,967,295 bytes
pub record IsFile (file : File) : Type 0 where
  pub path : is_file_path file.path ≡ true
  pub size : length file.bytes < 2 ^ 32

-- at most 20,000 files, strictly rising by the bytes of their paths, no two paths the same after folding A to Z
pub record IsTree (files : List File) : Type 0 where
  pub few : length files ≤ 20000
  pub each : AllByRecursion IsFile files
  pub rising : is_rising (file_paths files) ≡ true
  pub apart : is_apart (file_paths files) ≡ true

-- the size and the SHA-256 in place of the bytes
abbrev pub entry_of : File → Entry
entry_of file = record { path = file.path; size = length file.bytes; hash = record { 0 = sha256 file.bytes } }

-- the manifest of a tree
abbrev pub manifest_of : List File → List Entry
manifest_of files = map entry_of files

-- any two byte strings of the list that have one SHA-256 are equal
abbrev pub Apart : List (List ℕ) → Type 0
Apart texts = (a b : List ℕ) → Contains texts a → Contains texts b → sha256 a ≡ sha256 b → a ≡ b
