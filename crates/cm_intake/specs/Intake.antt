-- How a folder is taken in as a version, by its two readings.
use Rattle.std.specs.Prelude.{◌≡◌, ◌⊎◌, ℕ, ◌≤◌, ◌<◌, List, [], ◌∷◌, length, take, slice_get, Option, None, Some, IfSome, Result, Ok, Err}
use Rattle.std.specs.Option.{ForSome}
use Rattle.cm_disk.specs.Disk.{File as Bytes, Files, LeavesOnly}
use Rattle.cm_pkglib.specs.Counts.{seal_at}
use Rattle.cm_library.specs.Kept.{Seen}
use Rattle.cm_contents.specs.Wants.{HaveOneSize}
use Rattle.cm_state.specs.Changes.{StateChange, Begun, Finished, Dropped, replayed}
use Rattle.cm_state.specs.Faults.{limit_fault}
use Rattle.cm_state.specs.Opens.{Opens, EachOpensSome}
use Rattle.cm_state.specs.State.{State, bytes_of}
use Rattle.cm_state.specs.declared.fault.LibFault.{LibFault}
use Rattle.cm_state.specs.declared.fault.LibFault.TheVariants.{TooManyVersions as ManyVersions, TooManyEntries as ManyEntries, TooManyJobs as ManyJobs, Spent as NoneLeft, Disk as LibDisk}
use Rattle.cm_tree.specs.Folders.{Shown}
use Rattle.cm_tree.specs.Scans.{first_fault}
use Rattle.cm_tree.specs.Trees.{File, manifest_of}
use Rattle.cm_tree.specs.declared.entry.Entry.{Entry}
use Rattle.cm_tree.specs.declared.scan_fault.ScanFault.{ScanFault}
use Rattle.cm_tree.specs.declared.scan_fault.ScanFault.TheVariants.{Folder as FolderFails, TooManyFiles as ManyFiles, BadPath as PathOff, SamePath as PathTwice, FileTooLong as LongFile, Memory as ScanMemory}
use Rattle.cm_intake.specs.Readings.{Readings, AreReadings, first_change}
use Rattle.cm_intake.specs.declared.fault.IntakeFault.{IntakeFault}
use Rattle.cm_intake.specs.declared.fault.IntakeFault.TheVariants.{Folder, TooManyFiles, BadPath, SamePath, FileTooLong, TooManyVersions, TooManyEntries, TooManyJobs, Spent, Disk, Memory}
use Rattle.cm_intake.specs.declared.taken.Taken.{Taken}

-- why the first reading gives no manifest
abbrev pub of_scan : ScanFault → IntakeFault
of_scan FolderFails = Folder
of_scan ManyFiles = TooManyFiles
of_scan (PathOff entry) = BadPath entry
of_scan (PathTwice entry) = SamePath entry
of_scan (LongFile entry) = FileTooLong entry
of_scan ScanMemory = Memory

-- which limit keeps a job from its beginning; the other faults are no limits
abbrev pub of_limit : LibFault → IntakeFault
of_limit ManyVersions = TooManyVersions
of_limit ManyEntries = TooManyEntries
of_limit ManyJobs = TooManyJobs
of_limit NoneLeft = Spent
of_limit LibDisk = Disk
of_limit fault = Memory

-- an answer, and the changes that are committed in their order
pub record Intake : Type 0 where
  pub answer : Result Taken IntakeFault
  pub changes : List StateChange

-- refused before a job begins
abbrev pub refused : IntakeFault → Intake
refused fault = record { answer = Err fault; changes = [] }

-- a job begins, and ends as the version
abbrev pub finished : List ℕ → ℕ → List Entry → State → Intake
finished id version manifest state = record {
  answer = Ok (record { files = length manifest; bytes = bytes_of manifest });
  changes = Begun state.next id version manifest ∷ Finished state.next ∷ [];
}

-- a job begins, and is dropped
abbrev pub dropped : List ℕ → ℕ → List Entry → State → IntakeFault → Intake
dropped id version manifest state fault = record {
  answer = Err fault;
  changes = Begun state.next id version manifest ∷ Dropped state.next ∷ [];
}

abbrev pub finished_or : List ℕ → ℕ → List Entry → State → Option IntakeFault → Intake
finished_or id version manifest state None = finished id version manifest state
finished_or id version manifest state (Some fault) = dropped id version manifest state fault

-- the files are read again
abbrev pub read_again : List ℕ → ℕ → List Entry → State → Option (ℕ → List ℕ) → Intake
read_again id version manifest state None = dropped id version manifest state Folder
read_again id version manifest state (Some second) = finished_or id version manifest state (first_change state manifest second)

abbrev pub within_limits : List ℕ → ℕ → List Entry → State → Option (ℕ → List ℕ) → Option LibFault → Intake
within_limits id version manifest state second None = read_again id version manifest state second
within_limits id version manifest state second (Some fault) = refused (of_limit fault)

abbrev pub scanned : List ℕ → ℕ → ℕ → List File → State → Option (ℕ → List ℕ) → Option ScanFault → Intake
scanned id version end files state second (Some fault) = refused (of_scan fault)
scanned id version end files state second None = within_limits id version (manifest_of files) state second (limit_fault state end (length files))

abbrev pub first_read : List ℕ → ℕ → ℕ → State → Option (ℕ → List ℕ) → Option (List File) → Intake
first_read id version end state second None = refused Folder
first_read id version end state second (Some files) = scanned id version end files state second (first_fault 20000 4294967295 files)

-- How a folder with these readings is taken in as a version that was never opened, into a library in a state, whose log ends there.
-- The first reading is refused by its first fault, then the library by the first limit that is reached. Else a job begins; it ends as
-- the version if each file that is read again has the same bytes, and is dropped if one has others or the folder fails.
abbrev pub intake : List ℕ → ℕ → ℕ → Readings → State → Intake
intake id version end readings state = first_read id version end state readings.second readings.first

-- a limit of a library, for which no job begins
abbrev pub IsLimit : LibFault → Type 0
IsLimit ManyVersions = Unit {0}
IsLimit ManyEntries = Unit {0}
IsLimit ManyJobs = Unit {0}
IsLimit NoneLeft = Unit {0}
IsLimit fault = ⊥

-- the version is above all that were opened of its package
abbrev pub IsAbove : ℕ → Option ℕ → Type 0
IsAbove version None = 1 ≤ version
IsAbove version (Some last) = last < version

-- files open to the state after some of these changes, from the first on
abbrev pub OpensAmong : List StateChange → State → Files → Type 0
OpensAmong changes state files = (n : ℕ) × (n ≤ length changes) × Opens files (replayed (take n changes) state)

-- The library has gone through the first n of these changes. Where each image opened to some state at the opening, each image at each
-- moment opens to the state after some of them.
pub record Goes {D : Type 0} (reads : D → Option Files) (may_leave : D → List ℕ → Bytes → Type 0) (moment : D → ℕ) (left_since : D → ℕ → Files → Type 0) (n : ℕ) (changes : List StateChange) (old new : Seen D) : Type 0 where
  pub within : n ≤ length changes
  pub state : new.state ≡ replayed (take n changes) old.state
  pub start : new.start ≡ old.start
  pub moments : EachOpensSome (may_leave old.start) → ForSome (reads old.disk) (λ _. LeavesOnly moment left_since old.disk new.disk (OpensAmong changes old.state))

-- So it has, and it is settled. Where it has gone through none, reads give what they gave.
pub record Rests {D : Type 0} (reads : D → Option Files) (may_leave : D → List ℕ → Bytes → Type 0) (moment : D → ℕ) (left_since : D → ℕ → Files → Type 0) (n : ℕ) (changes : List StateChange) (old new : Seen D) : Type 0 where
  pub goes : Goes reads may_leave moment left_since n changes old new
  pub idle : new.pending ≡ None
  pub same : n ≡ 0 → reads new.disk ≡ reads old.disk

-- So it has, and the next of them may be in flight.
pub record Stops {D : Type 0} (reads : D → Option Files) (may_leave : D → List ℕ → Bytes → Type 0) (moment : D → ℕ) (left_since : D → ℕ → Files → Type 0) (n : ℕ) (changes : List StateChange) (old new : Seen D) : Type 0 where
  pub goes : Goes reads may_leave moment left_since n changes old new
  pub flight : (new.pending ≡ None) ⊎ ((n < length changes) × (new.pending ≡ slice_get changes n))
  -- where there is no change at all, reads give what they gave
  pub same : length changes ≡ 0 → reads new.disk ≡ reads old.disk

-- How it ends: as its readings give; or by a fault of the disk after some of the changes; or for want of memory before them, and after
-- the first only if one hash has two sizes.
abbrev pub EndsAs : {D : Type 0} → (D → Option Files) → (D → List ℕ → Bytes → Type 0) → (D → ℕ) → (D → ℕ → Files → Type 0) → Readings → Intake → Seen D → Seen D → Result Taken IntakeFault → Type 0
EndsAs reads may_leave moment left_since readings intake old new (Err Disk) = (n : ℕ) × Stops reads may_leave moment left_since n intake.changes old new
EndsAs reads may_leave moment left_since readings intake old new (Err Memory) =
    (n : ℕ) × Rests reads may_leave moment left_since n intake.changes old new
    × ((n ≡ 0) ⊎ ((n ≡ 1) × IfSome readings.first (λ files. HaveOneSize (seal_at old.seals) (manifest_of files) → ⊥)))
EndsAs reads may_leave moment left_since readings intake old new result =
    (result ≡ intake.answer) × Rests reads may_leave moment left_since (length intake.changes) intake.changes old new

-- A folder is taken in as a version. Its readings are those of a folder that tells its content, and else some.
pub record TakesIn {D : Type 0} (reads : D → Option Files) (may_leave : D → List ℕ → Bytes → Type 0) (moment : D → ℕ) (left_since : D → ℕ → Files → Type 0) (id : List ℕ) (version : ℕ) (shown : Shown) (from to : ℕ) (old new : Seen D) (result : Result Taken IntakeFault) : Type 0 where
  pub readings : Readings
  pub are : AreReadings shown from to readings
  pub ends : EndsAs reads may_leave moment left_since readings (intake id version old.end readings old.state) old new result
