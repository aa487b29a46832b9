-- Steps of a walk over a folder.
use Rattle.std.specs.Prelude.{◌≡◌, ◌≢◌, ◌⊎◌, ℕ, ◌≤◌, ◌<◌, List, length, Option, Some, None, slice_get, Result, Ok, Err}
use Rattle.std.specs.Option.{ForSome}
use Rattle.sha2.specs.Sha256.{sha256}
use Rattle.cm_tree.specs.declared.scan_fault.ScanFault.{ScanFault}
use Rattle.cm_tree.specs.declared.scan_fault.ScanFault.TheVariants.{Folder, TooManyFiles, BadPath, SamePath, FileTooLong, Memory}
use Rattle.cm_tree.specs.declared.taken.Taken.{Taken}
use Rattle.cm_tree.specs.Folders.{Shown}
use Rattle.cm_tree.specs.Scans.{path_fault}
use Rattle.cm_tree.specs.Taking.{HasTaken}

-- file number n may have been read to its end, and nothing else changes
pub record MayTurn (n : ℕ) (old new : Shown) : Type 0 where
  pub paths : new.paths ≡ old.paths
  pub now : (new.now n ≡ old.now n) ⊎ (new.now n ≡ old.later n)
  pub others : (k : ℕ) → k ≢ n → new.now k ≡ old.now k
  pub later : (k : ℕ) → new.later k ≡ old.later k

-- what is answered of a path behind those before it
abbrev pub IsJoined : List (List ℕ) → List ℕ → Result (List ℕ) ScanFault → Type 0
IsJoined before text (Ok path) = (path_fault before text ≡ None) × (path ≡ text)
IsJoined before text (Err Folder) = ⊥
IsJoined before text (Err TooManyFiles) = ⊥
IsJoined before text (Err (BadPath k)) = path_fault before text ≡ Some (BadPath k)
IsJoined before text (Err (SamePath k)) = path_fault before text ≡ Some (SamePath k)
IsJoined before text (Err (FileTooLong k)) = ⊥
IsJoined before text (Err Memory) = Unit {0}

-- a path behind so many that are taken
pub record JoinsTaken (taken : Taken) (n : ℕ) (text : List ℕ) (result : Result (List ℕ) ScanFault) : Type 0 where
  pub is : (before : List (List ℕ)) → HasTaken taken before → length before ≡ n → IsJoined before text result

-- a fault of a path
abbrev pub IsPathFault : ScanFault → Type 0
IsPathFault Folder = ⊥
IsPathFault TooManyFiles = ⊥
IsPathFault (BadPath k) = Unit {0}
IsPathFault (SamePath k) = Unit {0}
IsPathFault (FileTooLong k) = ⊥
IsPathFault Memory = Unit {0}

-- what is answered of path number n: there is none, it joins those taken, or it has a fault
abbrev pub IsNextPath : Shown → Taken → ℕ → Result (Option (List ℕ)) ScanFault → Type 0
IsNextPath shown taken n (Ok None) = length shown.paths ≤ n
IsNextPath shown taken n (Ok (Some path)) = (slice_get shown.paths n ≡ Some path) × JoinsTaken taken n path (Ok path)
IsNextPath shown taken n (Err Folder) = Unit {0}
IsNextPath shown taken n (Err TooManyFiles) = ⊥
IsNextPath shown taken n (Err (BadPath k)) = (path : List ℕ) × (slice_get shown.paths n ≡ Some path) × JoinsTaken taken n path (Err (BadPath k))
IsNextPath shown taken n (Err (SamePath k)) = (path : List ℕ) × (slice_get shown.paths n ≡ Some path) × JoinsTaken taken n path (Err (SamePath k))
IsNextPath shown taken n (Err (FileTooLong k)) = ⊥
IsNextPath shown taken n (Err Memory) = Unit {0}

-- bytes that agree with what is told of a file
abbrev pub AreBytes : Option (List ℕ) → List ℕ → Type 0
AreBytes told bytes = ForSome told (λ all. bytes ≡ all)

-- the size and the SHA-256 of bytes that agree with what is told of a file
pub record IsHashOf (told : Option (List ℕ)) (most_bytes size : ℕ) (hash : List ℕ) : Type 0 where
  pub bytes : List ℕ
  pub told_so : AreBytes told bytes
  pub few : length bytes ≤ most_bytes
  pub size_is : size ≡ length bytes
  pub hash_is : hash ≡ sha256 bytes

-- a fault of reading file number n
abbrev pub IsReadFault : ℕ → ℕ → Option (List ℕ) → ScanFault → Type 0
IsReadFault most_bytes n told Folder = Unit {0}
IsReadFault most_bytes n told TooManyFiles = ⊥
IsReadFault most_bytes n told (BadPath k) = ⊥
IsReadFault most_bytes n told (SamePath k) = ⊥
IsReadFault most_bytes n told (FileTooLong k) = (k ≡ n) × (bytes : List ℕ) × (most_bytes < length bytes) × AreBytes told bytes
IsReadFault most_bytes n told Memory = Unit {0}

-- a fault of asking for the file past the last that is taken
abbrev pub IsRoomFault : ℕ → ℕ → ScanFault → Type 0
IsRoomFault most_files count Folder = Unit {0}
IsRoomFault most_files count TooManyFiles = most_files < count
IsRoomFault most_files count (BadPath k) = ⊥
IsRoomFault most_files count (SamePath k) = ⊥
IsRoomFault most_files count (FileTooLong k) = ⊥
IsRoomFault most_files count Memory = ⊥
