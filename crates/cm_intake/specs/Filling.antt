-- How the files of a job are read again into a library.
use Rattle.std.specs.Prelude.{◌≡◌, ◌≢◌, ◌⊎◌, ℕ, ◌+◌, ◌<◌, ◌≤◌, true, false, List, [], ◌++◌, length, take, Option, None, Some, IfSome, Result, IfOk}
use Rattle.std.specs.Option.{ForSome}
use Rattle.std.specs.List.{AllByRecursion}
use Rattle.sha2.specs.Sha256.{sha256}
use Rattle.cm_base.specs.Causes.{Rose}
use Rattle.cm_base.specs.declared.hash.Hash.{Hash}
use Rattle.cm_disk.specs.Disk.{File as Bytes, Files, LeavesOnly}
use Rattle.cm_disk.specs.declared.disk.DiskFault.{DiskFault}
use Rattle.cm_filelib.specs.declared.writing.Writing.{Writing}
use Rattle.cm_filelib.specs.Stored.{is_named as is_file_named}
use Rattle.cm_filelib.specs.Writings.{hash_of, size_of, next_of, WasPut}
use Rattle.cm_library.specs.Filing.{KeepsRows, AreRight, SealsIt}
use Rattle.cm_library.specs.Kept.{Seen}
use Rattle.cm_library.specs.Placing.{KeepsPlaces}
use Rattle.cm_library.specs.Started.{started_by, holder_of}
use Rattle.cm_contents.specs.Wants.{size_in}
use Rattle.cm_pkglib.specs.Counts.{seal_at}
use Rattle.cm_pkglib.specs.declared.counts.Seal.{Seal}
use Rattle.cm_state.specs.Adding.{Told}
use Rattle.cm_state.specs.Opens.{Opens, EachOpensSome}
use Rattle.cm_state.specs.State.{State}
use Rattle.cm_tree.specs.Folders.{Shown}
use Rattle.cm_tree.specs.declared.entry.Entry.{Entry}
use Rattle.cm_intake.specs.Readings.{first_with, first_change}
use Rattle.cm_intake.specs.declared.fault.IntakeFault.{IntakeFault}
use Rattle.cm_intake.specs.declared.fault.IntakeFault.TheVariants.{Folder, Changed}
use Rattle.cm_intake.specs.declared.rereading.Unread.{Unread}
use Rattle.cm_intake.specs.declared.rereading.Unread.TheVariants.{Folder as FolderUnread, Disk as DiskUnread}

-- a job's started file has this hash and this size, and these bytes were put so far
pub record HasPut (job : ℕ) (hash : Hash) (size : ℕ) (bytes : List ℕ) (started : List (ℕ × Writing)) : Type 0 where
  pub writing : Writing
  pub is : started_by job started ≡ Some writing
  pub hash_is : hash_of writing ≡ hash
  pub size_is : size_of writing ≡ size
  pub put : WasPut writing bytes

-- the other jobs hold the same hashes
abbrev pub HoldsSame : ℕ → List (ℕ × Writing) → List (ℕ × Writing) → Type 0
HoldsSame job old new = (hash : Hash) → holder_of job hash new ≡ holder_of job hash old

-- a hash that was not sealed is sealed with the size that is wanted
pub record SealsOne (manifest : List Entry) (old new : Option Seal) (hash : Hash) : Type 0 where
  pub seal : Seal
  pub unsealed : old ≡ None
  pub is : new ≡ Some seal
  pub wanted : size_in hash manifest ≡ Some seal.size

-- each hash keeps its seal, or gets the one that is wanted
abbrev pub SealsWanted : List Entry → (Hash → Option Seal) → (Hash → Option Seal) → Type 0
SealsWanted manifest old new = (hash : Hash) → (new hash ≡ old hash) ⊎ SealsOne manifest (old hash) (new hash) hash

-- A settled library works on the file of a job: its rows and its log stay as they are, the other jobs hold what they held, and whatever
-- a crash leaves meanwhile opens to its state.
pub record KeepsState {D : Type 0} (reads : D → Option Files) (may_leave : D → List ℕ → Bytes → Type 0) (moment : D → ℕ) (left_since : D → ℕ → Files → Type 0) (job : ℕ) (old new : Seen D) : Type 0 where
  pub rows : KeepsRows old new
  pub held : HoldsSame job old.started new.started
  pub places : Told KeepsPlaces (reads old.disk) (reads new.disk)
  pub opens : EachOpensSome (may_leave old.start) → ForSome (reads old.disk) (λ _. LeavesOnly moment left_since old.disk new.disk (λ image. Opens image old.state))

-- a started file is sealed; or other bytes were put than it is to have, of this hash and so many
abbrev pub SealsOr : Writing → (Hash → Option Seal) → (Hash → Option Seal) → Option (Hash × ℕ) → Type 0
SealsOr was old new None = AreRight was × SealsIt (hash_of was) (size_of was) old new
SealsOr was old new (Some got) = (bytes : List ℕ) → WasPut was bytes → (is_file_named (hash_of was).0 (size_of was) bytes ≡ false) × (got.0.0 ≡ sha256 bytes) × (got.1 ≡ length bytes)

-- The folder shows the same files, and those that were read to their ends give the same bytes.
pub record StaysRead (old new : Shown) : Type 0 where
  pub paths : new.paths ≡ old.paths
  pub now : (k : ℕ) → old.now k ≡ old.later k → new.now k ≡ old.later k
  pub later : (k : ℕ) → new.later k ≡ old.later k

-- a file is not read again only where the folder or the disk failed
abbrev pub IsUnread : ℕ → ℕ → ℕ → ℕ → Unread → Type 0
IsUnread folder_from folder_to disk_from disk_to FolderUnread = Rose folder_from folder_to
IsUnread folder_from folder_to disk_from disk_to DiskUnread = Rose disk_from disk_to

-- a job has started a file, of which so many bytes were put, and which has room for so many more
pub record HasRoom (job at room : ℕ) (started : List (ℕ × Writing)) : Type 0 where
  pub writing : Writing
  pub is : started_by job started ≡ Some writing
  pub next : next_of writing ≡ at
  pub fits : at + room ≤ size_of writing

-- these bytes are put behind those of the job's file
abbrev pub PutsMore : ℕ → List ℕ → List (ℕ × Writing) → List (ℕ × Writing) → Type 0
PutsMore job piece old new = (hash : Hash) (size : ℕ) (before : List ℕ) → HasPut job hash size before old → HasPut job hash size (before ++ piece) new

-- The bytes of a file as it is read again, of which as many were put as the size allows.
pub record PutsAgain (told : Option (List ℕ)) (job size : ℕ) (old new : List (ℕ × Writing)) : Type 0 where
  pub bytes : List ℕ
  pub told_so : ForSome told (λ all. bytes ≡ all)
  pub put : (hash : Hash) → HasPut job hash size [] old → HasPut job hash size (take size bytes) new

-- A hash is sealed whose file has the same bytes; or the file has others, of this hash and so many.
abbrev pub SealsSame : Hash → ℕ → List ℕ → (Hash → Option Seal) → (Hash → Option Seal) → Option (Hash × ℕ) → Type 0
SealsSame hash size bytes old new None = (is_file_named hash.0 size bytes ≡ true) × SealsIt hash size old new
SealsSame hash size bytes old new (Some got) = (is_file_named hash.0 size bytes ≡ false) × (got.0.0 ≡ sha256 bytes) × (got.1 ≡ length bytes)

-- The bytes of a file as it is read again, and what comes of them, up to its size.
pub record ReadsAgain (told : Option (List ℕ)) (hash : Hash) (size : ℕ) (old new : Hash → Option Seal) (got : Option (Hash × ℕ)) : Type 0 where
  pub bytes : List ℕ
  pub told_so : ForSome told (λ all. bytes ≡ all)
  pub same : SealsSame hash size (take size bytes) old new got

-- the hash of an entry is sealed whose file has the same bytes; or the entry has changed
abbrev pub SealsOrChanges : Entry → List ℕ → (Hash → Option Seal) → (Hash → Option Seal) → Option IntakeFault → Type 0
SealsOrChanges entry bytes old new None = (is_file_named entry.hash.0 entry.size bytes ≡ true) × SealsIt entry.hash entry.size old new
SealsOrChanges entry bytes old new (Some fault) = (is_file_named entry.hash.0 entry.size bytes ≡ false) × (fault ≡ Changed entry.path entry.hash entry.size (record { 0 = sha256 bytes }) (length bytes))

-- A hash is read again from its first entry.
pub record ReadsFirst (shown : Shown) (manifest : List Entry) (hash : Hash) (old new : Hash → Option Seal) (change : Option IntakeFault) : Type 0 where
  pub numbered : ℕ × Entry
  pub is_first : first_with hash 0 manifest ≡ Some numbered
  pub bytes : List ℕ
  pub told_so : ForSome (shown.later numbered.0) (λ all. bytes ≡ all)
  pub same : SealsOrChanges numbered.1 (take numbered.1.size bytes) old new change

-- why the job is dropped whose files have these bytes when they are read again: the folder fails, or a file has changed
abbrev pub drop_cause : State → List Entry → Option (ℕ → List ℕ) → Option IntakeFault
drop_cause state manifest None = Some Folder
drop_cause state manifest (Some second) = first_change state manifest second

-- A second reading agrees with what the folder shows once each file was read to its end.
pub record IsSecond (shown : Shown) (from to : ℕ) (second : Option (ℕ → List ℕ)) : Type 0 where
  pub agrees : IfSome second (λ again. (k : ℕ) → k < length shown.paths → ForSome (shown.later k) (λ bytes. again k ≡ bytes))
  pub failed : second ≡ None → Rose from to

-- How the filling of a job ends: filled, with each entry sealed; or with what it is to be dropped for; or by a fault of the disk. Each hash keeps its
-- seal, or gets the one that is wanted.
pub record Fills {D : Type 0} (shown : Shown) (from to : ℕ) (manifest : List Entry) (old new : Seen D) (result : Result (Option IntakeFault) DiskFault) : Type 0 where
  pub second : Option (ℕ → List ℕ)
  pub is_second : IsSecond shown from to second
  pub cause : IfOk result (λ cause. cause ≡ drop_cause old.state manifest second)
  pub filled : IfOk result (λ cause. cause ≡ None → SealsWanted manifest (seal_at old.seals) (seal_at new.seals) × AllByRecursion (λ (entry : Entry). seal_at new.seals entry.hash ≢ None) manifest)
