-- What the type of a library keeps.
use Rattle.std.specs.Prelude.{◌≡◌, ℕ, ◌+◌, ◌≤◌, true, false, List, length, Option, None, Some, IfSome, option_map}
use Rattle.std.specs.Option.{ForSome}
use Rattle.cm_base.specs.declared.hash.Hash.{Hash}
use Rattle.cm_disk.specs.Disk.{File, Files}
use Rattle.cm_log.specs.declared.shelf.Shelf.TheVariants.{PkgLib}
use Rattle.cm_log.specs.declared.state.Log.{Log}
use Rattle.cm_log.specs.Settled.{shelf_of, end_of, end_with_of, is_settled}
use Rattle.cm_pkglib.specs.declared.change.Change.{Change}
use Rattle.cm_pkglib.specs.declared.counts.Seal.{Seal}
use Rattle.cm_pkglib.specs.declared.counts.Counts.{Counts}
use Rattle.cm_pkglib.specs.Changes.{spelled}
use Rattle.cm_pkglib.specs.Counts.{sealed_of}
use Rattle.cm_filelib.specs.declared.writing.Writing.{Writing}
use Rattle.cm_filelib.specs.Stored.{IsFileSure}
use Rattle.cm_state.specs.State.{Held, State}
use Rattle.cm_state.specs.Changes.{StateChange}
use Rattle.cm_state.specs.Commits.{MayCommit, StandsUnsettled}
use Rattle.cm_state.specs.Standing.{StandsIn, IsFitAt}
use Rattle.cm_state.specs.Opens.{EachOpensSome}
use Rattle.cm_state.specs.Sure.{AreManifestsSure, AreVersionsSure}
use Rattle.cm_contents.specs.Contents.{InMemory, change_in, IsTakenFor}
use Rattle.cm_contents.specs.Seals.{brought, IsCounted, AreStored}
use Rattle.cm_library.specs.Started.{AreStarted}

-- What contracts see of a library: its disk, and that disk at its opening; the state as last settled; the seals of the hashes that are
-- named; the files that unfinished jobs have started; the place of its log's closed gate; and the change of a call that the disk failed,
-- of which nobody knows yet whether it was committed.
pub record Seen (D : Type 0) : Type 0 where
  pub disk : D
  pub start : D
  pub state : State
  pub seals : List (Hash × Option Seal)
  pub started : List (ℕ × Writing)
  pub end : ℕ
  pub pending : Option StateChange

-- the change of the record that a failed call was adding
abbrev pub pending_in : Option Held → Option Change → Option StateChange
pending_in taken pending = option_map (change_in taken) pending

-- the library in its files: settled in a state, or with a change whose record is in the log or not
abbrev pub StandsAs : Files → (List ℕ → File → Type 0) → Log → State → Option StateChange → Type 0
StandsAs files may_leave log state None = StandsIn files may_leave log state
StandsAs files may_leave log state (Some change) = StandsUnsettled files may_leave log state change

-- An unsettled log ends behind the record of the pending change if that is there. The change may be committed, and memory is taken for it.
pub record IsPendingAt (log : Log) (memory : InMemory) (change : Change) : Type 0 where
  pub unsettled : is_settled log ≡ false
  pub end_with : end_with_of log ≡ end_of log + 5 + length (spelled change)
  pub may : MayCommit (end_of log) memory.state (change_in memory.taken change)
  pub taken_for : IsTakenFor memory.taken change

abbrev pub IsIdleOr : Log → InMemory → Option Change → Type 0
IsIdleOr log memory None = is_settled log ≡ true
IsIdleOr log memory (Some change) = IsPendingAt log memory change

-- The library stands on its disk.
pub record IsStanding {D : Type 0} (reads : D → Option Files) (may_leave : D → List ℕ → File → Type 0) (disk : D) (log : Log) (memory : InMemory) (pending : Option Change) : Type 0 where
  -- whatever the disk tells
  pub shelf : shelf_of log ≡ PkgLib
  pub idle_or : IsIdleOr log memory pending
  pub fit : IsFitAt (end_of log) memory.state
  -- where it tells what reads give
  pub stands : ForSome (reads disk) (λ files. StandsAs files (may_leave disk) log memory.state (pending_in memory.taken pending))
  pub manifests : ForSome (reads disk) (λ _. AreManifestsSure (may_leave disk) memory.state)

-- a sealed hash has its file, whatever a crash leaves
abbrev pub AreSealsSure : (List ℕ → File → Type 0) → (Hash → Option Seal) → Type 0
AreSealsSure may_leave seals = (hash : Hash) → IfSome (seals hash) (λ seal. IsFileSure may_leave hash.0 seal.size)

-- the same of those that were sealed since the opening
abbrev pub AreSealsSureSince : (List ℕ → File → Type 0) → (Hash → Option Seal) → Type 0
AreSealsSureSince may_leave seals = (hash : Hash) → IfSome (seals hash) (λ seal. seal.since ≡ true → IsFileSure may_leave hash.0 seal.size)

-- What is sure of the stored files, where the disk tells what reads give: those sealed since the opening; and where each image opened to
-- some state at the opening, all that are sealed and those of the versions.
pub record AreSure {D : Type 0} (reads : D → Option Files) (may_leave : D → List ℕ → File → Type 0) (start disk : D) (state : State) (counts : Counts) : Type 0 where
  pub since : ForSome (reads disk) (λ _. AreSealsSureSince (may_leave disk) (sealed_of counts))
  pub seals : EachOpensSome (may_leave start) → ForSome (reads disk) (λ _. AreSealsSure (may_leave disk) (sealed_of counts))
  pub versions : EachOpensSome (may_leave start) → ForSome (reads disk) (λ _. AreVersionsSure (may_leave disk) state)

-- What stands of versions and jobs: the library stands, each hash is counted, the entries of a job whose end is pending are stored, and
-- what is sealed is sure.
pub record IsKept {D : Type 0} (reads : D → Option Files) (may_leave : D → List ℕ → File → Type 0) (start disk : D) (log : Log) (memory : InMemory) (counts : Counts) (pending : Option Change) : Type 0 where
  pub standing : IsStanding reads may_leave disk log memory pending
  pub counted : IsCounted counts memory.state (brought (pending_in memory.taken pending))
  pub stored : IfSome (pending_in memory.taken pending) (λ change. AreStored (sealed_of counts) change memory.state)
  pub sure : AreSure reads may_leave start disk memory.state counts

-- What the type keeps: this, the started files, and room for one of each unfinished job.
pub record IsLibrary {D : Type 0} (reads : D → Option Files) (may_leave : D → List ℕ → File → Type 0) (start disk : D) (log : Log) (memory : InMemory) (counts : Counts) (pending : Option Change) (started : List (ℕ × Writing)) (room : ℕ) : Type 0 where
  pub kept : IsKept reads may_leave start disk log memory counts pending
  pub files : AreStarted (reads disk) memory.state (sealed_of counts) (pending_in memory.taken pending) started
  pub enough : 256 ≤ room
