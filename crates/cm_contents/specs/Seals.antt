-- How often the manifests of a library name each hash, and which hashes are sealed.
use Rattle.std.specs.Prelude.{◌≡◌, ◌≢◌, ℕ, ◌+◌, ◌≤◌, ◌==◌, not, Bool, true, false, cond, List, [], length, find, sum_by, Option, None, Some, option_map, unwrap_or}
use Rattle.std.specs.List.{AllByRecursion, flat_map}
use Rattle.std.specs.Str.{bytes_eq}
use Rattle.cm_base.specs.declared.hash.Hash.{Hash}
use Rattle.cm_pkglib.specs.declared.counts.Seal.{Seal}
use Rattle.cm_pkglib.specs.declared.counts.Counts.{Counts}
use Rattle.cm_pkglib.specs.Counts.{count_of, sealed_of, times}
use Rattle.cm_pkglib.specs.Rows.{is_of}
use Rattle.cm_tree.specs.declared.entry.Entry.{Entry}
use Rattle.cm_state.specs.State.{Held, State, held_by_job}
use Rattle.cm_state.specs.Changes.{StateChange, Begun, Finished, Dropped, Removed}
use Rattle.cm_state.specs.Needed.{is_named, is_needed}
use Rattle.cm_state.specs.declared.fault.LibFault.{LibFault}
use Rattle.cm_state.specs.declared.fault.LibFault.TheVariants.{NotStored}
use Rattle.cm_state.specs.Faults.{change_fault}

-- a hash is sealed with this size
abbrev pub has_size : ℕ → Option Seal → Bool
has_size size None = false
has_size size (Some seal) = seal.size == size

-- an entry's hash is sealed with the entry's size
abbrev pub is_stored : (Hash → Option Seal) → Entry → Bool
is_stored seals entry = has_size entry.size (seals entry.hash)

-- the first hash of a manifest that is not sealed with its entry's size
abbrev pub not_stored : (Hash → Option Seal) → List Entry → Option Hash
not_stored seals manifest = option_map (λ (entry : Entry). entry.hash) (find (λ (entry : Entry). not (is_stored seals entry)) manifest)

-- a seal, where its hash is still needed
abbrev pub if_needed : Bool → Option Seal → Option Seal
if_needed needed seal = cond needed seal None

-- the manifest of an unfinished job, and of a version, or the empty one
abbrev pub manifest_or_none : Option Held → List Entry
manifest_or_none found = unwrap_or (option_map (λ (held : Held). held.manifest) found) []

abbrev pub job_manifest : ℕ → State → List Entry
job_manifest job state = manifest_or_none (held_by_job job state.jobs)

abbrev pub version_manifest : List ℕ → ℕ → State → List Entry
version_manifest id version state = manifest_or_none (find (λ (held : Held). is_of id version held.row) state.versions)

-- the manifest that a change brings, and the one that it takes away, or the empty one
abbrev pub brought : Option StateChange → List Entry
brought None = []
brought (Some (Begun job id version manifest)) = manifest
brought (Some (Finished job)) = []
brought (Some (Dropped job)) = []
brought (Some (Removed id version)) = []

abbrev pub taken_away : StateChange → State → List Entry
taken_away (Begun job id version manifest) state = []
taken_away (Finished job) state = []
taken_away (Dropped job) state = job_manifest job state
taken_away (Removed id version) state = version_manifest id version state

-- how often the versions and the unfinished jobs name a hash
abbrev pub named_times : Hash → State → ℕ
named_times hash state = sum_by (λ (held : Held). times hash held.manifest) state.versions + sum_by (λ (job : ℕ × Held). times hash job.1.manifest) state.jobs

abbrev pub IsSmall : Held → Type 0
IsSmall held = length held.manifest ≤ 20000

abbrev pub IsSealedAll : Counts → Held → Type 0
IsSealedAll counts held = AllByRecursion (λ (entry : Entry). sealed_of counts entry.hash ≢ None) held.manifest

-- only hashes that a version or an unfinished job names are sealed
abbrev pub SealsNeeded : (Hash → Option Seal) → State → Type 0
SealsNeeded seals state = (hash : Hash) → seals hash ≢ None → is_needed hash.0 state ≡ true

-- each hash of a version is sealed
abbrev pub AreVersionsSealed : (Hash → Option Seal) → State → Type 0
AreVersionsSealed seals state = (hash : Hash) → is_named hash.0 state ≡ true → seals hash ≢ None

-- The counts are those of a state and of one more manifest; what is sealed is needed, and each hash of a version is sealed.
pub record IsCounted (counts : Counts) (state : State) (more : List Entry) : Type 0 where
  pub counted : (hash : Hash) → count_of counts hash ≡ times hash more + named_times hash state
  pub small_more : length more ≤ 20000
  pub small_versions : AllByRecursion IsSmall state.versions
  pub small_jobs : AllByRecursion (λ (job : ℕ × Held). IsSmall job.1) state.jobs
  pub sealed_needed : SealsNeeded (sealed_of counts) state
  pub versions_sealed : AllByRecursion (IsSealedAll counts) state.versions

-- the job that a change finishes has its entries stored
abbrev pub AreStored : (Hash → Option Seal) → StateChange → State → Type 0
AreStored seals (Begun job id version manifest) state = Unit {0}
AreStored seals (Finished job) state = AllByRecursion (λ (entry : Entry). is_stored seals entry ≡ true) (job_manifest job state)
AreStored seals (Dropped job) state = Unit {0}
AreStored seals (Removed id version) state = Unit {0}

-- why a library refuses a change other than that a job begins: the rows do, or an entry of the job that is to end is not stored
abbrev pub unstored : (Hash → Option Seal) → State → StateChange → Option LibFault
unstored seals state (Begun job id version manifest) = None
unstored seals state (Finished job) = option_map NotStored (not_stored seals (job_manifest job state))
unstored seals state (Dropped job) = None
unstored seals state (Removed id version) = None

abbrev pub first_fault : Option LibFault → Option LibFault → Option LibFault
first_fault None other = other
first_fault (Some fault) other = Some fault

abbrev pub end_fault : (Hash → Option Seal) → State → StateChange → Option LibFault
end_fault seals state change = first_fault (change_fault state change) (unstored seals state change)

-- the first that is there
abbrev pub first_there : Option Seal → Option Seal → Option Seal
first_there None other = other
first_there (Some seal) other = Some seal

-- the seal of a hash once each of these entries sealed its own that was not sealed yet, by what an earlier opening left
abbrev pub found_seal : Option Seal → Hash → List Entry → Option Seal
found_seal seal hash entries = first_there seal (option_map (λ (entry : Entry). record { size = entry.size; since = false }) (find (λ (entry : Entry). bytes_eq entry.hash.0 hash.0) entries))

-- the entries of all versions
abbrev pub version_entries : State → List Entry
version_entries state = flat_map (λ (held : Held). held.manifest) state.versions

-- only hashes of versions are sealed, as at an opening
abbrev pub SealsVersions : (Hash → Option Seal) → State → Type 0
SealsVersions seals state = (hash : Hash) → seals hash ≢ None → is_named hash.0 state ≡ true
