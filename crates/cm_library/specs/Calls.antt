-- How the calls of a library end.
use Rattle.std.specs.Prelude.{◌≡◌, ◌≢◌, ◌⊎◌, ℕ, ◌+◌, List, length, Option, None, Some, Result, Err, OnOk, IfErr}
use Rattle.std.specs.Option.{ForSome}
use Rattle.cm_base.specs.declared.hash.Hash.{Hash}
use Rattle.cm_disk.specs.Disk.{Files, LeavesOnly}
use Rattle.cm_filelib.specs.declared.writing.Writing.{Writing}
use Rattle.cm_pkglib.specs.declared.change.Change.{Change}
use Rattle.cm_pkglib.specs.declared.counts.Seal.{Seal}
use Rattle.cm_pkglib.specs.Changes.{spelled}
use Rattle.cm_pkglib.specs.Counts.{seal_at}
use Rattle.cm_state.specs.declared.fault.LibFault.{LibFault}
use Rattle.cm_state.specs.declared.fault.LibFault.TheVariants.{Disk}
use Rattle.cm_state.specs.State.{State}
use Rattle.cm_state.specs.Changes.{StateChange, record_of, changed}
use Rattle.cm_state.specs.Look.{Opened, look}
use Rattle.cm_state.specs.Needed.{is_needed}
use Rattle.cm_contents.specs.Seals.{if_needed}
use Rattle.cm_library.specs.Kept.{Seen}
use Rattle.cm_library.specs.Started.{left_by}

-- the state and the end of the log that settling may find
abbrev pub MayFind : Option StateChange → State → ℕ → State → ℕ → Type 0
MayFind None state end found gate = (found ≡ state) × (gate ≡ end)
MayFind (Some change) state end found gate =
    ((found ≡ state) × (gate ≡ end)) ⊎ ((found ≡ changed change state) × (gate ≡ end + 5 + length (spelled (record_of change))))

-- hashes keep their seals
abbrev pub KeepsSeals : (Hash → Option Seal) → (Hash → Option Seal) → Type 0
KeepsSeals old new = (hash : Hash) → new hash ≡ old hash

-- those that a state needs keep them, and the others lose them
abbrev pub KeepsNeeded : State → (Hash → Option Seal) → (Hash → Option Seal) → Type 0
KeepsNeeded state old new = (hash : Hash) → new hash ≡ if_needed (is_needed hash.0 state) (old hash)

-- Settling has found a state. Where the disk tells what reads give, it is that of the files.
pub record Finds {D : Type 0} (reads : D → Option Files) (old mid : Seen D) : Type 0 where
  pub may : MayFind old.pending old.state old.end mid.state mid.end
  pub told : ForSome (reads old.disk) (λ files. look files ≡ Opened mid.state)
  pub idle : mid.pending ≡ None
  pub start : mid.start ≡ old.start
  pub seals : KeepsNeeded mid.state (seal_at old.seals) (seal_at mid.seals)
  pub started : mid.started ≡ old.started

-- the library is as it was, but for its disk, and for the started files, of which these are left
pub record StaysUnsettled {D : Type 0} (left : List (ℕ × Writing) → List (ℕ × Writing)) (old new : Seen D) : Type 0 where
  pub start : new.start ≡ old.start
  pub state : new.state ≡ old.state
  pub seals : new.seals ≡ old.seals
  pub started : new.started ≡ left old.started
  pub end : new.end ≡ old.end
  pub pending : new.pending ≡ old.pending

-- the library is as it was, and so is its disk
pub record StaysSame {D : Type 0} (old new : Seen D) : Type 0 where
  pub disk : new.disk ≡ old.disk
  pub start : new.start ≡ old.start
  pub state : new.state ≡ old.state
  pub seals : KeepsSeals (seal_at old.seals) (seal_at new.seals)
  pub started : new.started ≡ old.started
  pub end : new.end ≡ old.end
  pub pending : new.pending ≡ old.pending

-- Settling tells the change of the failed call if it was committed.
abbrev pub Tells : Option StateChange → State → State → Option Change → Type 0
Tells pending state found None = found ≡ state
Tells pending state found (Some told) = (change : StateChange) × (pending ≡ Some change) × (record_of change ≡ told) × (found ≡ changed change state)

-- What a call with one change leaves of a settled library: after Ok the state after it; after a refusal the state; after a fault of the
-- disk the state too, and the change may be pending. A job that is dropped has given up its file, after a fault too.
pub record Ends {D T : Type 0} (mid : Seen D) (change : StateChange) (new : Seen D) (result : Result T LibFault) : Type 0 where
  pub ok : OnOk result ((new.state ≡ changed change mid.state) × (new.end ≡ mid.end + 5 + length (spelled (record_of change))) × (new.pending ≡ None) × KeepsNeeded new.state (seal_at mid.seals) (seal_at new.seals))
  pub err : IfErr result (λ fault. (new.state ≡ mid.state) × (new.end ≡ mid.end) × ((new.pending ≡ None) ⊎ (new.pending ≡ Some change)) × KeepsSeals (seal_at mid.seals) (seal_at new.seals))
  pub refused : IfErr result (λ fault. fault ≢ Disk → (new.pending ≡ None) × (new.started ≡ mid.started))
  pub left : OnOk result (new.started ≡ left_by change mid.started)
  pub left_then : IfErr result (λ fault. fault ≡ Disk → new.started ≡ left_by change mid.started)
  pub start : new.start ≡ mid.start

-- A call with one change settles first. Where that fails nothing else is tried, but a job that was to be dropped gives up its file. Else
-- it ends as on the settled library, and answers as it answers there.
abbrev pub EndsOrStays : {D T : Type 0} → (D → Option Files) → (State → StateChange) → (Seen D → Result T LibFault → Type 0) → Seen D → Seen D → Result T LibFault → Type 0
EndsOrStays {D} reads change Answers old new result =
    ((result ≡ Err Disk) × (old.pending ≢ None) × StaysUnsettled (left_by (change old.state)) old new)
    ⊎ ((mid : Seen D) × Finds reads old mid × Answers mid result × Ends mid (change mid.state) new result)

-- A call on the files of jobs settles first. Where that fails nothing else is tried, and these started files are left. Else it does its
-- work on the settled library, which is the one from before if that was settled, and reads as that.
abbrev pub WorksOrStays : {D T : Type 0} → (D → Option Files) → (List (ℕ × Writing) → List (ℕ × Writing)) → (Seen D → Seen D → Type 0) → Seen D → Seen D → Result T LibFault → Type 0
WorksOrStays {D} reads left Works old new result =
    ((result ≡ Err Disk) × (old.pending ≢ None) × StaysUnsettled left old new)
    ⊎ ((mid : Seen D) × Finds reads old mid × (old.pending ≡ None → mid ≡ old) × (reads mid.disk ≡ reads old.disk) × Works mid new)

-- a call in two parts, with the disk as it was between them
pub record InParts {D : Type 0} (moment : D → ℕ) (left_since : D → ℕ → Files → Type 0) (old new : D) (first second : Files → Type 0) : Type 0 where
  pub mid : D
  pub until : LeavesOnly moment left_since old mid first
  pub from : LeavesOnly moment left_since mid new second

-- What a crash leaves at any moment of a call with one change, on a library with this pending change. `Or` says what files are before or
-- after a change, `change` gives the call's own change of the state that was found, if it is allowed there. Where settling fails nothing
-- else was tried.
abbrev pub AnyMoment : {D : Type 0} → (D → ℕ) → (D → ℕ → Files → Type 0) → (State → Option StateChange → Files → Type 0) → (State → Option StateChange) → D → D → State → Option StateChange → State → Type 0
AnyMoment moment left_since Or change old new state None found = LeavesOnly moment left_since old new (Or found (change found))
AnyMoment moment left_since Or change old new state (Some failed) found =
    LeavesOnly moment left_since old new (Or state (Some failed)) ⊎ InParts moment left_since old new (Or state (Some failed)) (Or found (change found))
