-- A folder in memory.
use Rattle.std.specs.Prelude.{◌≡◌, ℕ, List, map, Option, None, Some, is_some, option_map, Bool, slice_get, Vec}
use Rattle.std.specs.List.{find, list_any}
use Rattle.std.specs.Str.{bytes_eq}
use Rattle.std.specs.declared.alloc.Global.{Global}
use Rattle.cm_tree.specs.declared.mem_file.MemFile.{MemFile}
use Rattle.cm_tree.specs.Folders.{Shown}

-- a path and bytes, as they are handed in
abbrev pub Pair : Type 0
Pair = Vec ℕ Global × Vec ℕ Global

-- the bytes of the first of these that has this path
abbrev pub bytes_named : List Pair → List ℕ → Option (List ℕ)
bytes_named pairs path = option_map (λ pair. pair.1.items) (find (λ pair. bytes_eq path pair.0.items) pairs)

-- the path is one of these
abbrev pub is_listed_in : List (List ℕ) → List ℕ → Bool
is_listed_in paths path = list_any (λ other. bytes_eq path other) paths

-- one where it is there, and else another
abbrev pub or_else : Option (List ℕ) → Option (List ℕ) → Option (List ℕ)
or_else None other = other
or_else (Some bytes) other = Some bytes

-- what is shown of a kept file
abbrev pub kept_path : MemFile → List ℕ
kept_path file = file.path.items

abbrev pub kept_now : MemFile → List ℕ
kept_now file = file.bytes.items

abbrev pub later_or : Option (Vec ℕ Global) → List ℕ → List ℕ
later_or None now = now
later_or (Some later) now = later.items

abbrev pub kept_later : MemFile → List ℕ
kept_later file = later_or file.later file.bytes.items

abbrev pub kept_paths : List MemFile → List (List ℕ)
kept_paths files = map kept_path files

-- a kept file has this path
abbrev pub is_kept_path : List MemFile → List ℕ → Bool
is_kept_path files path = list_any (λ file. bytes_eq path file.path.items) files

-- what a folder in memory shows
abbrev pub kept_shown : List MemFile → Shown
kept_shown files = record {
  paths = kept_paths files;
  now = λ n. option_map kept_now (slice_get files n);
  later = λ n. option_map kept_later (slice_get files n);
}

-- it shows the files that were handed in, each path once, and their later bytes where such were handed in
pub record IsMadeOf (files later : List Pair) (shown : Shown) : Type 0 where
  pub all : (path : List ℕ) → is_listed_in shown.paths path ≡ is_some (bytes_named files path)
  pub now_is : (n : ℕ) (path : List ℕ) → slice_get shown.paths n ≡ Some path → shown.now n ≡ bytes_named files path
  pub later_is : (n : ℕ) (path : List ℕ) → slice_get shown.paths n ≡ Some path → shown.later n ≡ or_else (bytes_named later path) (bytes_named files path)
