-- What a folder shows, and what a reading of one of its files gives.
use Rattle.std.specs.Prelude.{◌≡◌, ◌≢◌, ◌⊎◌, ℕ, ◌+◌, ◌<◌, ◌≤◌, ◌&&◌, ◌==◌, nat_lt, Bool, false, List, length, take, drop, Option, Some, slice_get, option_map, Result, Ok, Err, if◌then◌else◌}
use Rattle.std.specs.Option.{ForSome}
use Rattle.cm_tree.specs.declared.folder.FolderFault.{FolderFault}
use Rattle.cm_tree.specs.Trees.{File, file_paths}

-- the paths in order, and by the number of a file, from 0, the bytes that reads give now, and those that they give once the
-- file was read to its end; each where the folder tells them
pub record Shown : Type 0 where
  pub paths : List (List ℕ)
  pub now : ℕ → Option (List ℕ)
  pub later : ℕ → Option (List ℕ)

-- path number n, its first 241 bytes
abbrev pub raw_path : Shown → ℕ → Option (List ℕ)
raw_path shown n = option_map (λ (path : List ℕ). take 241 path) (slice_get shown.paths n)

-- nothing that is shown changes
pub record Stays (old new : Shown) : Type 0 where
  pub paths : new.paths ≡ old.paths
  pub now : (k : ℕ) → new.now k ≡ old.now k
  pub later : (k : ℕ) → new.later k ≡ old.later k

-- a reading with some room gave nothing: the file was read to its end
abbrev pub is_end : Result ℕ FolderFault → ℕ → Bool
is_end (Ok count) room = count == 0 && nat_lt 0 room
is_end (Err fault) room = false

-- after a reading of file number n the bytes now are the later ones if it was read to its end, and nothing else changes
pub record Turns (n : ℕ) (ended : Bool) (old new : Shown) : Type 0 where
  pub paths : new.paths ≡ old.paths
  pub now : new.now n ≡ (if ended then old.later n else old.now n)
  pub others : (k : ℕ) → k ≢ n → new.now k ≡ old.now k
  pub later : (k : ℕ) → new.later k ≡ old.later k

-- what a reading of these bytes from an offset on gives into a buffer: some where there are some, and room
pub record GivesPart (bytes : List ℕ) (offset : ℕ) (buffer : List ℕ) (count : ℕ) : Type 0 where
  pub part : take count buffer ≡ take count (drop offset bytes)
  pub within : 0 < count → offset + count ≤ length bytes
  pub some : 0 < length buffer → offset < length bytes → 0 < count

-- files that agree with all that is shown now
pub record Agrees (shown : Shown) (files : List File) : Type 0 where
  pub paths : file_paths files ≡ shown.paths
  pub bytes : (k : ℕ) (file : File) → slice_get files k ≡ Some file → ForSome (shown.now k) (λ bytes. file.bytes ≡ bytes)

-- the folder shows all of its files, and these are they
pub record Tells (shown : Shown) (files : List File) : Type 0 where
  pub paths : file_paths files ≡ shown.paths
  pub bytes : (k : ℕ) (file : File) → slice_get files k ≡ Some file → shown.now k ≡ Some file.bytes

-- each file was read to its end: the bytes now are the later ones
pub record WasRead (old new : Shown) : Type 0 where
  pub paths : new.paths ≡ old.paths
  pub now : (k : ℕ) → k < length old.paths → new.now k ≡ old.later k
  pub later : (k : ℕ) → new.later k ≡ old.later k

-- some of the files may have been read to their ends
pub record MayBeRead (old new : Shown) : Type 0 where
  pub paths : new.paths ≡ old.paths
  pub now : (k : ℕ) → (new.now k ≡ old.now k) ⊎ (new.now k ≡ old.later k)
  pub later : (k : ℕ) → new.later k ≡ old.later k
