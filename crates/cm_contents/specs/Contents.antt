-- What a library keeps in memory, as a state.
use Rattle.std.specs.Prelude.{◌≡◌, ℕ, ◌+◌, ◌<◌, ◌≤◌, ◌==◌, ◌&&◌, not, Bool, true, false, is_some, if◌then◌else◌, List, [], ◌∷◌, length, map, filter, Option, Some, None, IfSome, option_map, unwrap_or}
use Rattle.std.specs.Str.{bytes_eq}
use Rattle.std.specs.declared.cmp.Ordering.{Ordering}
use Rattle.std.specs.Ordering.{nat_cmp, is_lt, ordering_then}
use Rattle.std.specs.Cmp.Lexicographic.{slice_cmp}
use Rattle.std.specs.BTreeMap.{BTreeMap, get}
use Rattle.std.specs.List.{AllByRecursion}
use Rattle.cm_pkglib.specs.declared.row.PkgRow.{PkgRow}
use Rattle.cm_pkglib.specs.declared.change.Change.{Change}
use Rattle.cm_pkglib.specs.declared.change.Change.TheVariants.{Opened, Done, Dropped as DroppedRecord, Removed as RemovedRecord}
use Rattle.cm_pkglib.specs.declared.fault.RowFault.{RowFault}
use Rattle.cm_pkglib.specs.declared.fault.RowFault.TheVariants.{NoJob, NoVersion, VersionThere, JobThere, TooManyVersions, TooManyEntries, TooManyJobs, WrongJob}
use Rattle.cm_pkglib.specs.Rows.{Rows, is_of}
use Rattle.cm_tree.specs.declared.entry.Entry.{Entry}
use Rattle.cm_state.specs.declared.row.VersionRow.{VersionRow}
use Rattle.cm_state.specs.declared.row.JobRow.{JobRow}
use Rattle.cm_state.specs.State.{Held, State, held_of, version_rows, job_rows}
use Rattle.cm_state.specs.Changes.{StateChange, Begun, Finished, Dropped, Removed, record_of}
use Rattle.cm_contents.specs.declared.wants.Wants.{Wants}
use Rattle.cm_contents.specs.Wants.{HasHashes}

-- a row with the manifest that is found for its package and version
abbrev pub held_with : (List ℕ → ℕ → List Entry) → PkgRow → Held
held_with find row = record { row = row; manifest = find row.package row.version }

abbrev pub job_held_with : (List ℕ → ℕ → List Entry) → ℕ × PkgRow → ℕ × Held
job_held_with find job = (job.0, held_with find job.1)

-- the state of rows with the manifests that are found
abbrev pub state_with : (List ℕ → ℕ → List Entry) → Rows → State
state_with find rows = record {
  versions = map (held_with find) rows.versions;
  jobs = map (job_held_with find) rows.jobs;
  next = rows.next;
  lasts = rows.lasts;
}

-- the order of versions: by package, then by number
abbrev pub key_cmp : List ℕ × ℕ → List ℕ × ℕ → Ordering
key_cmp a b = ordering_then (slice_cmp nat_cmp a.0 b.0) (nat_cmp a.1 b.1)

-- the manifest that a map has for a version, or the empty one
abbrev pub manifest_in_map : BTreeMap (List ℕ × ℕ) (List Entry) → List ℕ → ℕ → List Entry
manifest_in_map manifests id version = unwrap_or (get key_cmp manifests (id, version)) []

-- a manifest more in the map
pub record PutsManifest (old new : BTreeMap (List ℕ × ℕ) (List Entry)) (id : List ℕ) (version : ℕ) (manifest : List Entry) : Type 0 where
  pub here : manifest_in_map new id version ≡ manifest
  pub kept : is_some (get key_cmp new (id, version)) ≡ true
  pub others : (row : PkgRow) → is_of id version row ≡ false → manifest_in_map new row.package row.version ≡ manifest_in_map old row.package row.version

-- a told version stands before another
abbrev pub told_before : VersionRow → VersionRow → Bool
told_before a b = is_lt (ordering_then (slice_cmp nat_cmp a.package b.package) (nat_cmp a.version b.version))

-- one told version more, at its place
abbrev pub with_told : VersionRow → List VersionRow → List VersionRow
with_told row [] = row ∷ []
with_told row (first ∷ rest) = if told_before row first then row ∷ first ∷ rest else first ∷ with_told row rest

-- the version of a finished job, as it is told
abbrev pub finished_row : JobRow → VersionRow
finished_row job = record { «package» = job.package; version = job.version; entries = job.entries; bytes = job.bytes; hash = job.hash }

abbrev pub with_told_done : Option JobRow → List VersionRow → List VersionRow
with_told_done None rows = rows
with_told_done (Some job) rows = with_told (finished_row job) rows

-- the told rows are those of the state, and there is room for each job's end
pub record AreTold (state : State) (versions : List VersionRow) (jobs : List JobRow) (room : ℕ) : Type 0 where
  pub versions_told : versions ≡ version_rows state
  pub jobs_told : jobs ≡ job_rows state
  pub enough : length versions + length jobs ≤ room

-- A library in memory: its state, and what the job is to make that is to begin and for which memory is taken.
pub record InMemory : Type 0 where
  pub state : State
  pub taken : Option Held

-- a version with the manifest that is found
abbrev pub taken_with : (List ℕ → ℕ → List Entry) → List ℕ × ℕ → Held
taken_with find key = held_of key.0 key.1 (find key.0 key.1)

-- these rows with the manifests that are found
abbrev pub kept_with : (List ℕ → ℕ → List Entry) → Rows → Option (List ℕ × ℕ) → InMemory
kept_with find rows taken = record { state = state_with find rows; taken = option_map (taken_with find) taken }

-- There is room for a job that begins, and for its end: in the rows, and in those that are told.
pub record HasMemory (rows_room versions jobs versions_room jobs_room : ℕ) : Type 0 where
  pub in_rows : 1 ≤ rows_room
  pub in_versions : versions + jobs + 1 ≤ versions_room
  pub in_jobs : jobs < jobs_room

-- the map has the manifest of what is to begin
abbrev pub has_manifest : BTreeMap (List ℕ × ℕ) (List Entry) → Option (List ℕ × ℕ) → Bool
has_manifest manifests None = true
has_manifest manifests (Some key) = is_some (get key_cmp manifests key)

-- what is found for a job is what it wants
abbrev pub HasWants : (ℕ → Option Wants) → ℕ × Held → Type 0
HasWants find job = HasHashes (find job.0) job.1.manifest

-- what each unfinished job wants is found, and under the next number what the job wants that is to begin
pub record AreWanted (find : ℕ → Option Wants) (state : State) (taken : Option Held) : Type 0 where
  pub by_jobs : AllByRecursion (HasWants find) state.jobs
  pub by_next : IfSome taken (λ held. HasHashes (find state.next) held.manifest)

-- what is kept in memory: the told rows are those of the state, what jobs want is found, and there are the manifest of what is to
-- begin and room for it
pub record IsInMemory (memory : InMemory) (wants : ℕ → Option Wants) (kept : Bool) (rows_room : ℕ) (versions : List VersionRow) (jobs : List JobRow) (versions_room jobs_room : ℕ) : Type 0 where
  pub told : AreTold memory.state versions jobs versions_room
  pub wanted : AreWanted wants memory.state memory.taken
  pub manifest_kept : kept ≡ true
  pub has_memory : IfSome memory.taken (λ held. HasMemory rows_room (length versions) (length jobs) versions_room jobs_room)

-- the told versions without one
abbrev pub without_told : List ℕ → ℕ → List VersionRow → List VersionRow
without_told id version rows = filter (λ (row : VersionRow). not (bytes_eq row.package id && row.version == version)) rows

-- the manifest for which memory is taken, or the empty one
abbrev pub taken_manifest : Option Held → List Entry
taken_manifest None = []
taken_manifest (Some held) = held.manifest

-- the change that a record says: a job begins with the manifest for which memory is taken
abbrev pub change_in : Option Held → Change → StateChange
change_in taken (Opened job id version entries size hash) = Begun job id version (taken_manifest taken)
change_in taken (Done job) = Finished job
change_in taken (DroppedRecord job) = Dropped job
change_in taken (RemovedRecord id version) = Removed id version

-- the version of a job that begins is the one for which memory is taken
abbrev pub NamesTaken : Option Held → Change → Type 0
NamesTaken taken (Opened job id version entries size hash) = taken ≡ Some (held_of id version (taken_manifest taken))
NamesTaken taken (Done job) = Unit {0}
NamesTaken taken (DroppedRecord job) = Unit {0}
NamesTaken taken (RemovedRecord id version) = Unit {0}

-- why no job may begin: the version is there, or an unfinished job is to make it
abbrev pub is_of_version : RowFault → Bool
is_of_version VersionThere = true
is_of_version (JobThere job) = true
is_of_version NoJob = false
is_of_version NoVersion = false
is_of_version TooManyVersions = false
is_of_version TooManyEntries = false
is_of_version TooManyJobs = false
is_of_version WrongJob = false

-- the record is that of its change, for which memory is taken
pub record IsTakenFor (taken : Option Held) (change : Change) : Type 0 where
  pub says : record_of (change_in taken change) ≡ change
  pub names : NamesTaken taken change
