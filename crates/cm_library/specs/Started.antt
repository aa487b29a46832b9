-- The files that jobs have started.
use Rattle.std.specs.Prelude.{◌≡◌, ◌≢◌, ℕ, ◌+◌, ◌==◌, ◌&&◌, not, false, is_some, if◌then◌else◌, nat_lt, List, [], ◌∷◌, ◌++◌, length, take, drop, find, filter, Option, None, Some, IfSome, option_map}
use Rattle.std.specs.Option.{ForSome}
use Rattle.std.specs.List.{AllByRecursion}
use Rattle.std.specs.Str.{bytes_eq}
use Rattle.hex.specs.Hex.{IsBytes}
use Rattle.cm_base.specs.declared.hash.Hash.{Hash}
use Rattle.cm_disk.specs.Disk.{Files}
use Rattle.cm_pkglib.specs.declared.counts.Seal.{Seal}
use Rattle.cm_filelib.specs.declared.writing.Writing.{Writing}
use Rattle.cm_filelib.specs.Writings.{hash_of, size_of, next_of, is_spent, IsWriting}
use Rattle.cm_state.specs.declared.fault.LibFault.{LibFault}
use Rattle.cm_state.specs.declared.fault.LibFault.TheVariants.{NoJob, Unwanted, Stored, HeldBy, NotStarted, WrongOffset, TooLong}
use Rattle.cm_state.specs.State.{State, held_by_job}
use Rattle.cm_state.specs.Changes.{StateChange, Begun, Finished, Dropped, Removed}
use Rattle.cm_contents.specs.Seals.{job_manifest, first_fault}
use Rattle.cm_contents.specs.Wants.{size_in}

-- the file that a job has started
abbrev pub started_by : ℕ → List (ℕ × Writing) → Option Writing
started_by job started = option_map (λ (file : ℕ × Writing). file.1) (find (λ (file : ℕ × Writing). file.0 == job) started)

-- the started files but that of a job
abbrev pub without_file : ℕ → List (ℕ × Writing) → List (ℕ × Writing)
without_file job started = filter (λ (file : ℕ × Writing). not (file.0 == job)) started

-- this is the file that a job has started
abbrev pub with_file : ℕ → Writing → List (ℕ × Writing) → List (ℕ × Writing)
with_file job writing started = without_file job started ++ (job, writing) ∷ []

-- the started files but that of a job, if it is of this hash
abbrev pub without_own : ℕ → Hash → List (ℕ × Writing) → List (ℕ × Writing)
without_own job hash started = filter (λ (file : ℕ × Writing). not (file.0 == job && bytes_eq (hash_of file.1).0 hash.0)) started

-- the other job that has started a hash
abbrev pub holder_of : ℕ → Hash → List (ℕ × Writing) → Option ℕ
holder_of job hash started = option_map (λ (file : ℕ × Writing). file.0) (find (λ (file : ℕ × Writing). not (file.0 == job) && bytes_eq (hash_of file.1).0 hash.0) started)

-- the files that a change leaves started: a job that is dropped gives its own up
abbrev pub left_by : StateChange → List (ℕ × Writing) → List (ℕ × Writing)
left_by (Begun job id version manifest) started = started
left_by (Finished job) started = started
left_by (Dropped job) started = without_file job started
left_by (Removed id version) started = started

-- a change ends no job that has a started file
abbrev pub EndsNone : StateChange → List (ℕ × Writing) → Type 0
EndsNone (Begun job id version manifest) started = Unit {0}
EndsNone (Finished job) started = started_by job started ≡ None
EndsNone (Dropped job) started = started_by job started ≡ None
EndsNone (Removed id version) started = Unit {0}

-- A started file is one that its unfinished job wants, named by 32 bytes, with the size of the first entry of its hash; it is not sealed, and no write to it
-- has failed.
pub record IsStarted (state : State) (seals : Hash → Option Seal) (file : ℕ × Writing) : Type 0 where
  pub bytes : IsBytes (hash_of file.1).0
  pub long : length (hash_of file.1).0 ≡ 32
  pub wanted : size_in (hash_of file.1) (job_manifest file.0 state) ≡ Some (size_of file.1)
  pub unsealed : seals (hash_of file.1) ≡ None
  pub idle : is_spent file.1 ≡ false

-- two started files are of two jobs, and of two hashes
pub record AreApart (a b : ℕ × Writing) : Type 0 where
  pub jobs : a.0 ≢ b.0
  pub hashes : (hash_of a.1).0 ≢ (hash_of b.1).0

abbrev pub AreAllApart : List (ℕ × Writing) → Type 0
AreAllApart [] = Unit {0}
AreAllApart (file ∷ rest) = AllByRecursion (AreApart file) rest × AreAllApart rest

-- the place of each started file has the bytes that were put so far
abbrev pub AreWritten : Files → List (ℕ × Writing) → Type 0
AreWritten files started = AllByRecursion (λ (file : ℕ × Writing). IsWriting files file.1) started

-- The started files of a library.
pub record AreStarted (reads : Option Files) (state : State) (seals : Hash → Option Seal) (pending : Option StateChange) (started : List (ℕ × Writing)) : Type 0 where
  pub each : AllByRecursion (IsStarted state seals) started
  pub apart : AreAllApart started
  pub written : ForSome reads (λ files. AreWritten files started)
  -- nor has the job one whose end is pending
  pub ending : IfSome pending (λ change. EndsNone change started)

-- the job is not unfinished
abbrev pub no_job : ℕ → State → Option LibFault
no_job job state = if is_some (held_by_job job state.jobs) then None else Some NoJob

-- its manifest does not name the hash
abbrev pub unwanted : Hash → Option ℕ → Option LibFault
unwanted hash None = Some (Unwanted hash)
unwanted hash (Some size) = None

-- the hash is sealed
abbrev pub stored : Hash → Option Seal → Option LibFault
stored hash None = None
stored hash (Some seal) = Some (Stored hash)

-- another job has started it
abbrev pub held : Hash → Option ℕ → Option LibFault
held hash None = None
held hash (Some job) = Some (HeldBy hash job)

-- why a job may not look at a file: the first cause that holds
abbrev pub salvage_fault : State → List (ℕ × Writing) → ℕ → Hash → Option LibFault
salvage_fault state started job hash = first_fault (no_job job state) (first_fault (unwanted hash (size_in hash (job_manifest job state))) (held hash (holder_of job hash started)))

-- why it may not start it
abbrev pub start_fault : (Hash → Option Seal) → State → List (ℕ × Writing) → ℕ → Hash → Option LibFault
start_fault seals state started job hash =
    first_fault (no_job job state) (first_fault (unwanted hash (size_in hash (job_manifest job state))) (first_fault (stored hash (seals hash)) (held hash (holder_of job hash started))))

-- why it may not go on with its file
abbrev pub unstarted : Option Writing → Option LibFault
unstarted None = Some NotStarted
unstarted (Some writing) = None

abbrev pub file_fault : State → List (ℕ × Writing) → ℕ → Option LibFault
file_fault state started job = first_fault (no_job job state) (unstarted (started_by job started))

-- why so many bytes may not be put there
abbrev pub misplaced : Writing → ℕ → ℕ → Option LibFault
misplaced writing offset count =
    if not (offset == next_of writing) then Some (WrongOffset (next_of writing))
    else (if nat_lt (size_of writing) (offset + count) then Some (TooLong (size_of writing)) else None)

abbrev pub misplaced_in : Option Writing → ℕ → ℕ → Option LibFault
misplaced_in None offset count = None
misplaced_in (Some writing) offset count = misplaced writing offset count

abbrev pub put_fault : State → List (ℕ × Writing) → ℕ → ℕ → ℕ → Option LibFault
put_fault state started job offset count = first_fault (file_fault state started job) (misplaced_in (started_by job started) offset count)

-- where the file of a job stands among the started ones
abbrev pub IsFileAt : ℕ → List (ℕ × Writing) → Option ℕ → Type 0
IsFileAt job started None = AllByRecursion (λ (file : ℕ × Writing). (file.0 == job) ≡ false) started
IsFileAt job started (Some at) =
    (writing : Writing) × (started ≡ take at started ++ (job, writing) ∷ drop (at + 1) started) × AllByRecursion (λ (file : ℕ × Writing). (file.0 == job) ≡ false) (take at started)
