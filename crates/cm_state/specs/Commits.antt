-- A change of a library while its record is added to the log.
use Rattle.std.specs.Prelude.{◌≡◌, ℕ, ◌+◌, true, List, length, None, Some, IfSome}
use Rattle.cm_disk.specs.Disk.{File, Files, Only}
use Rattle.cm_log.specs.declared.shelf.Shelf.TheVariants.{PkgLib}
use Rattle.cm_log.specs.declared.state.Log.{Log}
use Rattle.cm_log.specs.Logs.{shelved}
use Rattle.cm_log.specs.Settled.{IsUnsettled}
use Rattle.cm_pkglib.specs.Changes.{spelled, IsChange}
use Rattle.cm_pkglib.specs.Rows.{fault_of}
use Rattle.cm_tree.specs.Manifests.{spelling, IsManifest}
use Rattle.cm_datalib.specs.Places.{manifest_place}
use Rattle.cm_state.specs.State.{State, rows_of, held_by_job}
use Rattle.cm_state.specs.Changes.{StateChange, Begun, Finished, Dropped, Removed, record_of, changed}
use Rattle.cm_state.specs.Look.{Opened, look, has_room}
use Rattle.cm_state.specs.Sure.{AreFilesSure}

-- A change may be committed to a log that ends there: the rows take it, its record is read again, and behind the record there is room.
pub record MayCommit (end : ℕ) (state : State) (change : StateChange) : Type 0 where
  pub allowed : fault_of (rows_of state) (record_of change) ≡ None
  pub form : IsChange (record_of change)
  pub room : has_room (end + 5 + length (spelled (record_of change))) (rows_of (changed change state)) ≡ true

-- the manifest that a change brings is stored, whatever a crash leaves
abbrev pub BringsManifest : (List ℕ → File → Type 0) → StateChange → Type 0
BringsManifest may_leave (Begun job id version manifest) = IsManifest manifest × Only (Some (spelling manifest)) (may_leave (manifest_place id version))
BringsManifest may_leave (Finished job) = Unit {0}
BringsManifest may_leave (Dropped job) = Unit {0}
BringsManifest may_leave (Removed id version) = Unit {0}

-- the files of the version that a change brings are there, whatever a crash leaves
abbrev pub BringsFiles : (List ℕ → File → Type 0) → State → StateChange → Type 0
BringsFiles may_leave state (Begun job id version manifest) = Unit {0}
BringsFiles may_leave state (Finished job) = IfSome (held_by_job job state.jobs) (AreFilesSure may_leave)
BringsFiles may_leave state (Dropped job) = Unit {0}
BringsFiles may_leave state (Removed id version) = Unit {0}

-- The append of a change's record has failed: the library was in this state, and its log has the record or not.
pub record StandsUnsettled (files : Files) (may_leave : List ℕ → File → Type 0) (log : Log) (state : State) (change : StateChange) : Type 0 where
  pub before : Files
  pub was : look before ≡ Opened state
  pub either : IsUnsettled files may_leave log (shelved PkgLib before) (spelled (record_of change))
  pub brings : BringsManifest may_leave change
