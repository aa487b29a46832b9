-- What the calls on files do on a settled library.
use Rattle.std.specs.Prelude.{◌≡◌, ◌≢◌, ◌⊎◌, ℕ, ◌+◌, Bool, true, false, if◌then◌else◌, List, [], ◌++◌, length, Option, None, Some, IfSome, Result, Ok, IfOk, IfErr, OnOk}
use Rattle.std.specs.Option.{ForSome}
use Rattle.std.specs.Result.{result_err}
use Rattle.std.specs.Str.{bytes_eq}
use Rattle.sha2.specs.Sha256.{sha256}
use Rattle.cm_base.specs.declared.hash.Hash.{Hash}
use Rattle.cm_disk.specs.Disk.{Files, put as put_at}
use Rattle.cm_pkglib.specs.declared.counts.Seal.{Seal}
use Rattle.cm_pkglib.specs.Counts.{seal_at}
use Rattle.cm_filelib.specs.declared.writing.Writing.{Writing}
use Rattle.cm_filelib.specs.Places.{file_place}
use Rattle.cm_filelib.specs.Stored.{is_named, is_file_of, emptied, appended}
use Rattle.cm_filelib.specs.Writings.{hash_of, size_of, place_of, next_of, WasPut}
use Rattle.cm_state.specs.declared.fault.LibFault.{LibFault}
use Rattle.cm_state.specs.declared.fault.LibFault.TheVariants.{Disk, WrongBytes}
use Rattle.cm_state.specs.Adding.{Told}
use Rattle.cm_state.specs.Faults.{RefusesOr}
use Rattle.cm_contents.specs.Seals.{job_manifest}
use Rattle.cm_contents.specs.Wants.{size_in, IsNextWanted}
use Rattle.cm_library.specs.Kept.{Seen}
use Rattle.cm_library.specs.Started.{started_by, without_file, with_file, without_own, no_job, salvage_fault, start_fault, file_fault, put_fault}

-- neither the rows have changed nor the log
pub record KeepsRows {D : Type 0} (old new : Seen D) : Type 0 where
  pub start : new.start ≡ old.start
  pub state : new.state ≡ old.state
  pub end : new.end ≡ old.end
  pub pending : new.pending ≡ old.pending

-- no other place has changed
abbrev pub SameBut : List ℕ → Files → Files → Type 0
SameBut place files now = (q : List ℕ) → q ≢ place → now q ≡ files q

-- a hash is sealed with a size, and no other seal has changed
abbrev pub SealsIt : Hash → ℕ → (Hash → Option Seal) → (Hash → Option Seal) → Type 0
SealsIt hash size old new = (other : Hash) → new other ≡ (if bytes_eq hash.0 other.0 then Some (record { size = size; since = true }) else old other)

-- a job has started a file of a hash with the size that it wants, and put nothing yet
pub record StartsFile (job : ℕ) (hash : Hash) (wanted : Option ℕ) (old new : List (ℕ × Writing)) : Type 0 where
  pub writing : Writing
  pub started : new ≡ with_file job writing old
  pub hash_is : hash_of writing ≡ hash
  pub size_is : wanted ≡ Some (size_of writing)
  pub none_yet : WasPut writing []

-- A file is started: its place is made, empty. An earlier file of the job is given up, and after a fault of the disk it has none.
pub record Starts {D T : Type 0} (reads : D → Option Files) (job : ℕ) (hash : Hash) (old new : Seen D) (result : Result T LibFault) : Type 0 where
  pub refused : RefusesOr (start_fault (seal_at old.seals) old.state old.started job hash) result
  pub unchanged : IfErr result (λ fault. fault ≢ Disk → new ≡ old)
  pub rows : KeepsRows old new
  pub seals : new.seals ≡ old.seals
  pub started : OnOk result (StartsFile job hash (size_in hash (job_manifest job old.state)) old.started new.started)
  pub failed : IfErr result (λ fault. fault ≡ Disk → new.started ≡ without_file job old.started)
  pub made : OnOk result (Told (λ files now. now ≡ put_at files (file_place hash.0) (emptied (files (file_place hash.0)))) (reads old.disk) (reads new.disk))
  pub others : Told (SameBut (file_place hash.0)) (reads old.disk) (reads new.disk)

-- a job goes on with its file: these bytes are put behind those that were
pub record GoesOn (job : ℕ) (was : Writing) (bytes : List ℕ) (old new : List (ℕ × Writing)) : Type 0 where
  pub writing : Writing
  pub started : new ≡ with_file job writing old
  pub hash_is : hash_of writing ≡ hash_of was
  pub size_is : size_of writing ≡ size_of was
  pub next : next_of writing ≡ next_of was + length bytes
  pub put : (before : List ℕ) → WasPut was before → WasPut writing (before ++ bytes)

-- A piece is put. After a fault of the disk the file is given up.
pub record Puts {D T : Type 0} (reads : D → Option Files) (job offset : ℕ) (bytes : List ℕ) (old new : Seen D) (result : Result T LibFault) : Type 0 where
  pub refused : RefusesOr (put_fault old.state old.started job offset (length bytes)) result
  pub unchanged : IfErr result (λ fault. fault ≢ Disk → new ≡ old)
  pub rows : KeepsRows old new
  pub seals : new.seals ≡ old.seals
  pub goes_on : OnOk result (ForSome (started_by job old.started) (λ was. GoesOn job was bytes old.started new.started))
  pub failed : IfErr result (λ fault. fault ≡ Disk → new.started ≡ without_file job old.started)
  pub written : OnOk result (ForSome (started_by job old.started) (λ was. Told (λ files now. now ≡ put_at files (place_of was) (appended bytes (files (place_of was)))) (reads old.disk) (reads new.disk)))
  pub others : ForSome (started_by job old.started) (λ was. Told (SameBut (place_of was)) (reads old.disk) (reads new.disk))

-- so many bytes were put, whose SHA-256 is this one, and they are not those of the file
pub record AreWrong (was : Writing) (fault : LibFault) : Type 0 where
  pub got : Hash
  pub many : ℕ
  pub named : fault ≡ WrongBytes (hash_of was) (size_of was) got many
  pub bytes : (bytes : List ℕ) → WasPut was bytes → (is_named (hash_of was).0 (size_of was) bytes ≡ false) × (got.0 ≡ sha256 bytes) × (many ≡ length bytes)

-- the bytes that were put are those of the file
abbrev pub AreRight : Writing → Type 0
AreRight was = (bytes : List ℕ) → WasPut was bytes → is_named (hash_of was).0 (size_of was) bytes ≡ true

-- A file is sealed, if its bytes are right. In any case the job has no started file then.
pub record Seals {D T : Type 0} (reads : D → Option Files) (job : ℕ) (old new : Seen D) (result : Result T LibFault) : Type 0 where
  pub refused : IfSome (file_fault old.state old.started job) (λ fault. RefusesOr (Some fault) result × (new ≡ old))
  pub rows : KeepsRows old new
  pub sealed : OnOk result (ForSome (started_by job old.started) (λ was. AreRight was × SealsIt (hash_of was) (size_of was) (seal_at old.seals) (seal_at new.seals)))
  pub failed : IfErr result (λ fault. (new.seals ≡ old.seals) × (file_fault old.state old.started job ≡ None → ForSome (started_by job old.started) (λ was. ((fault ≡ Disk) × AreRight was) ⊎ AreWrong was fault)))
  pub started : file_fault old.state old.started job ≡ None → new.started ≡ without_file job old.started
  pub same : reads new.disk ≡ reads old.disk

-- what a look at a file's place tells
abbrev pub TellsPlace : Option Files → Hash → Option ℕ → Bool → Type 0
TellsPlace reads hash wanted is = ForSome wanted (λ size. ForSome reads (λ files. is ≡ is_file_of hash.0 size (files (file_place hash.0))))

-- A file that is there is looked at, and sealed if it is right. A file of this hash that the job has started is given up. Where the hash
-- is sealed the answer is true, and nothing has changed, the disk neither.
pub record Salvages {D : Type 0} (reads : D → Option Files) (job : ℕ) (hash : Hash) (old new : Seen D) (result : Result Bool LibFault) : Type 0 where
  pub refused : RefusesOr (salvage_fault old.state old.started job hash) result
  pub unchanged : IfErr result (λ fault. fault ≢ Disk → new ≡ old)
  pub rows : KeepsRows old new
  pub was_sealed : salvage_fault old.state old.started job hash ≡ None → seal_at old.seals hash ≢ None → (result ≡ Ok true) × (new ≡ old)
  pub value : IfOk result (λ is. seal_at old.seals hash ≡ None → TellsPlace (reads old.disk) hash (size_in hash (job_manifest job old.state)) is)
  pub sealed : IfOk result (λ is. is ≡ true → seal_at old.seals hash ≡ None → ForSome (size_in hash (job_manifest job old.state)) (λ size. SealsIt hash size (seal_at old.seals) (seal_at new.seals)))
  pub not_sealed : IfOk result (λ is. is ≡ false → new.seals ≡ old.seals)
  pub failed : IfErr result (λ fault. new.seals ≡ old.seals)
  pub started : salvage_fault old.state old.started job hash ≡ None → seal_at old.seals hash ≡ None → new.started ≡ without_own job hash old.started
  pub same : reads new.disk ≡ reads old.disk

-- The next hash that a job wants is told, and nothing is done.
pub record Wants {D : Type 0} (job : ℕ) (after : Option Hash) (old new : Seen D) (result : Result (Option (Hash × ℕ)) LibFault) : Type 0 where
  pub refused : result_err result ≡ no_job job old.state
  pub next : IfOk result (λ next. IsNextWanted (seal_at old.seals) (job_manifest job old.state) after next)
  pub unchanged : new ≡ old
