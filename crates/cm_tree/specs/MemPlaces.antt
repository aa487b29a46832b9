-- The place of a path among files in the order of their paths.
use Rattle.std.specs.Prelude.{◌≡◌, ◌⊎◌, ℕ, ◌≤◌, true, false, List, length, take, insert, Some, option_map, slice_get}
use Rattle.cm_tree.specs.declared.mem_file.MemFile.{MemFile}
use Rattle.cm_tree.specs.Paths.{is_before}
use Rattle.cm_tree.specs.Reading.{is_behind}
use Rattle.cm_tree.specs.MemFolders.{Pair, bytes_named, is_kept_path, kept_paths}

-- the last of so many files stands before the path, and the next does not
pub record IsPlaceOf (files : List MemFile) (path : List ℕ) (at : ℕ) : Type 0 where
  pub within : at ≤ length files
  pub behind : is_behind (take at (kept_paths files)) path ≡ true
  pub next : (other : List ℕ) → slice_get (kept_paths files) at ≡ Some other → is_before other path ≡ false

-- the file that a pair gives
pub record IsFileOf (later : List Pair) (pair : Pair) (file : MemFile) : Type 0 where
  pub path : file.path.items ≡ pair.0.items
  pub bytes : file.bytes.items ≡ pair.1.items
  pub later_is : option_map (λ bytes. bytes.items) file.later ≡ bytes_named later pair.0.items

-- it stands among the others
pub record IsPut (file : MemFile) (old new : List MemFile) : Type 0 where
  pub at : ℕ
  pub within : at ≤ length old
  pub items : new ≡ insert old at file

-- the file of a pair joins, unless its path is there
abbrev pub IsJoinedBy : List Pair → Pair → List MemFile → List MemFile → Type 0
IsJoinedBy later pair old new = ((is_kept_path old pair.0.items ≡ true) × (new ≡ old)) ⊎ ((is_kept_path old pair.0.items ≡ false) × ((file : MemFile) × IsFileOf later pair file × IsPut file old new))
