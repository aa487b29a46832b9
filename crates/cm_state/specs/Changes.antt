-- The four changes of a library's state, and where each is allowed.
use Rattle.std.specs.Prelude.{ℕ, ◌+◌, ◌&&◌, not, nat_le, cond, is_some, Bool, true, List, [], ◌∷◌, ◌++◌, length, Option, None, Some}
use Rattle.sha2.specs.Sha256.{sha256}
use Rattle.cm_pkglib.specs.declared.change.Change.{Change}
use Rattle.cm_pkglib.specs.declared.change.Change.TheVariants.{Opened as OpenedRecord, Done as DoneRecord, Dropped as DroppedRecord, Removed as RemovedRecord}
use Rattle.cm_pkglib.specs.Rows.{with_last, fault_of}
use Rattle.cm_tree.specs.declared.entry.Entry.{Entry}
use Rattle.cm_tree.specs.Manifests.{spelling}
use Rattle.cm_state.specs.State.{State, held_of, held_by_job, without_job, with_done, without_version, rows_of}

-- A job begins for a version with a manifest. The version of a job is there. A job is given up. A version is removed.
pub data StateChange : Type 0 where
  Begun : ℕ → List ℕ → ℕ → List Entry → StateChange
  Finished : ℕ → StateChange
  Dropped : ℕ → StateChange
  Removed : List ℕ → ℕ → StateChange

-- the record of a change, which names a manifest by its number of entries, its size and its SHA-256
abbrev pub record_of : StateChange → Change
record_of (Begun job id version manifest) = OpenedRecord job id version (length manifest) (length (spelling manifest)) (record { 0 = sha256 (spelling manifest) })
record_of (Finished job) = DoneRecord job
record_of (Dropped job) = DroppedRecord job
record_of (Removed id version) = RemovedRecord id version

-- the state after a change that is allowed
abbrev pub changed : StateChange → State → State
changed (Begun job id version manifest) state = record {
  versions = state.versions;
  jobs = state.jobs ++ (job, held_of id version manifest) ∷ [];
  next = state.next + 1;
  lasts = with_last id version state.lasts;
}
changed (Finished job) state = record {
  versions = with_done (held_by_job job state.jobs) state.versions;
  jobs = without_job job state.jobs;
  next = state.next;
  lasts = state.lasts;
}
changed (Dropped job) state = record {
  versions = state.versions;
  jobs = without_job job state.jobs;
  next = state.next;
  lasts = state.lasts;
}
changed (Removed id version) state = record {
  versions = without_version id version state.versions;
  jobs = state.jobs;
  next = state.next;
  lasts = state.lasts;
}

-- a version is at least 1; of the other fields the rows ask all that is asked
abbrev pub is_in_range : StateChange → Bool
is_in_range (Begun job id version manifest) = nat_le 1 version
is_in_range (Finished job) = true
is_in_range (Dropped job) = true
is_in_range (Removed id version) = true

-- the rows of a state take the change
abbrev pub is_allowed : StateChange → State → Bool
is_allowed change state = is_in_range change && not (is_some (fault_of (rows_of state) (record_of change)))

-- the state after a change, none where it is not allowed
abbrev pub apply : StateChange → State → Option State
apply change state = cond (is_allowed change state) (Some (changed change state)) None

-- a change, where it is allowed
abbrev pub if_allowed : StateChange → State → Option StateChange
if_allowed change state = cond (is_allowed change state) (Some change) None

-- the state after a change, or after none
abbrev pub after_change : Option StateChange → State → State
after_change None state = state
after_change (Some change) state = changed change state

-- the state after several changes in their order
abbrev pub replayed : List StateChange → State → State
replayed [] state = state
replayed (change ∷ changes) state = replayed changes (changed change state)
