-- How a job begins and ends.
use Rattle.std.specs.Prelude.{◌≡◌, ◌⊎◌, ℕ, List, [], ◌∷◌, length, Option, None, Some, Result, Err, OnOk, IfErr}
use Rattle.std.specs.Option.{ForSome}
use Rattle.std.specs.List.{AllByRecursion}
use Rattle.cm_disk.specs.Disk.{File as Bytes, Files, LeavesOnly}
use Rattle.cm_library.specs.Kept.{Seen}
use Rattle.cm_library.specs.Placing.{KeepsPlaces}
use Rattle.cm_pkglib.specs.Counts.{seal_at}
use Rattle.cm_state.specs.Adding.{Told}
use Rattle.cm_state.specs.Changes.{StateChange, Begun, changed, if_allowed}
use Rattle.cm_state.specs.Faults.{limit_fault}
use Rattle.cm_state.specs.Opens.{OpensOr, EachOpensSome}
use Rattle.cm_tree.specs.Folders.{Shown}
use Rattle.cm_tree.specs.Trees.{File, manifest_of}
use Rattle.cm_tree.specs.declared.entry.Entry.{Entry}
use Rattle.cm_intake.specs.Filling.{IsSecond}
use Rattle.cm_intake.specs.Intake.{Goes, EndsAs, read_again, within_limits}
use Rattle.cm_intake.specs.Readings.{Readings}
use Rattle.cm_intake.specs.declared.fault.IntakeFault.{IntakeFault}
use Rattle.cm_intake.specs.declared.fault.IntakeFault.TheVariants.{Disk}
use Rattle.cm_intake.specs.declared.taken.Taken.{Taken}

-- A change of a settled library is committed, or it is not, and after a fault of the disk it may be in flight.
pub record Commits {D T : Type 0} (reads : D → Option Files) (may_leave : D → List ℕ → Bytes → Type 0) (moment : D → ℕ) (left_since : D → ℕ → Files → Type 0) (change : StateChange) (old new : Seen D) (result : Result T IntakeFault) : Type 0 where
  pub done : OnOk result ((new.state ≡ changed change old.state) × (new.pending ≡ None))
  pub failed : IfErr result (λ fault. (new.state ≡ old.state) × ((new.pending ≡ None) ⊎ ((fault ≡ Disk) × (new.pending ≡ Some change))))
  pub start : new.start ≡ old.start
  pub opens : EachOpensSome (may_leave old.start) → ForSome (reads old.disk) (λ _. LeavesOnly moment left_since old.disk new.disk (OpensOr old.state (if_allowed change old.state)))

-- A job has begun for a version with a manifest, on a library that was so.
pub record HasBegun {D : Type 0} (reads : D → Option Files) (may_leave : D → List ℕ → Bytes → Type 0) (moment : D → ℕ) (left_since : D → ℕ → Files → Type 0) (id : List ℕ) (version : ℕ) (manifest : List Entry) (job : ℕ) (old now : Seen D) : Type 0 where
  pub job_is : job ≡ old.state.next
  pub state : now.state ≡ changed (Begun old.state.next id version manifest) old.state
  pub goes : (last : StateChange) → Goes reads may_leave moment left_since 1 (Begun old.state.next id version manifest ∷ last ∷ []) old now
  pub places : Told KeepsPlaces (reads old.disk) (reads now.disk)
  pub seals : AllByRecursion (λ (entry : Entry). seal_at now.seals entry.hash ≡ seal_at old.seals entry.hash) manifest

-- The library refuses to begin the job, whatever the second reading.
abbrev pub EndsRefused : {D : Type 0} → (D → Option Files) → (D → List ℕ → Bytes → Type 0) → (D → ℕ) → (D → ℕ → Files → Type 0) → List ℕ → ℕ → List Entry → Seen D → Seen D → IntakeFault → Type 0
EndsRefused reads may_leave moment left_since id version manifest old new fault =
    (readings : Readings) → EndsAs reads may_leave moment left_since readings (within_limits id version manifest old.state readings.second (limit_fault old.state old.end (length manifest))) old new (Err fault)

-- A job that has begun is filled from the second reading of a folder, and ends.
pub record EndsJob {D : Type 0} (reads : D → Option Files) (may_leave : D → List ℕ → Bytes → Type 0) (moment : D → ℕ) (left_since : D → ℕ → Files → Type 0) (shown : Shown) (from to : ℕ) (manifest : List Entry) (job : ℕ) (old new : Seen D) (result : Result Taken IntakeFault) : Type 0 where
  pub second : Option (ℕ → List ℕ)
  pub is_second : IsSecond shown from to second
  pub ends : (id : List ℕ) (version : ℕ) (files : List File) (first : Seen D) → manifest ≡ manifest_of files → HasBegun reads may_leave moment left_since id version manifest job first old
      → EndsAs reads may_leave moment left_since (record { first = Some files; second = second }) (read_again id version manifest first.state second) first new result

-- A folder whose first reading gave these files is taken in by its second one.
pub record TakesScanned {D : Type 0} (reads : D → Option Files) (may_leave : D → List ℕ → Bytes → Type 0) (moment : D → ℕ) (left_since : D → ℕ → Files → Type 0) (id : List ℕ) (version : ℕ) (shown : Shown) (from to : ℕ) (files : List File) (old new : Seen D) (result : Result Taken IntakeFault) : Type 0 where
  pub second : Option (ℕ → List ℕ)
  pub is_second : IsSecond shown from to second
  pub ends : EndsAs reads may_leave moment left_since (record { first = Some files; second = second }) (within_limits id version (manifest_of files) old.state second (limit_fault old.state old.end (length files))) old new result
