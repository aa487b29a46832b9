-- How a command ends on one opened library.
use Rattle.std.specs.Prelude.{◌≡◌, ℕ, ◌≤◌, true, List, length, Option}
use Rattle.std.specs.Option.{ForSome}
use Rattle.cm_base.specs.Causes.{Rose}
use Rattle.cm_check.specs.Findings.{findings}
use Rattle.cm_disk.specs.Disk.{File, Files}
use Rattle.cm_disk.specs.Walks.{AreListed}
use Rattle.cm_intake.specs.Readings.{AreReadings}
use Rattle.cm_state.specs.Look.{Opened}
use Rattle.cm_state.specs.Purged.{loose}
use Rattle.cm_state.specs.State.{State}
use Rattle.cm_tree.specs.declared.entry.Entry.{Entry}
use Rattle.cm_site.specs.Contents.{OfLibrary}
use Rattle.cm_site.specs.Machine.{lifted}
use Rattle.cm_site.specs.OneLibrary.{Given, Step}
use Rattle.cm_site.specs.Runs.{Sourced, BayDone, BayGivesUp, BayStops}
use Rattle.cm_site.specs.Worlds.{Part}
use Rattle.cm_site.specs.declared.reply.Reply.{Reply}
use Rattle.cm_site.specs.declared.reply.Reply.TheVariants.{Disk, Memory}

-- the library of a bay in a state, with its log's closed gate there
abbrev pub part_with : List ℕ → State → ℕ → Part
part_with bay state gate = record { name = bay; content = OfLibrary (Opened state); gate = gate }

-- what is given agrees with the folder and with the disk
pub record StartsOne (from to : Sourced) (reads : Option Files) (given : Given) : Type 0 where
  pub readings : AreReadings from.shown from.faults to.faults given.readings
  pub amiss : ForSome reads (λ files. (manifest : List Entry) → given.amiss manifest ≡ findings files manifest)

module _ {D : Type 0} (reads : D → Option Files) (may_leave : D → List ℕ → File → Type 0) (moment : D → ℕ) (left_since : D → ℕ → Files → Type 0) (faults : D → ℕ)
    (bay : List ℕ) (state : State) (gate : ℕ) (step : Given → State → Step) (from to : Sourced) where
  -- The step was done whole.
  pub record OneSteps (old new : D) (reply : Reply) : Type 0 where
    pub given : Given
    pub starts : StartsOne from to (reads old) given
    pub gate_is : given.gate ≡ gate
    pub asked : (step given state).asks ≡ true → ForSome (reads old) (λ files. AreListed (loose state files) given.loose)
    pub replies : reply ≡ (step given state).reply
    pub done : BayDone reads may_leave moment left_since (lifted bay (step given state)) (part_with bay state gate) old new

  -- There was no memory: the library stands behind the first n changes.
  pub record OneGivesUp (old new : D) : Type 0 where
    pub given : Given
    pub starts : StartsOne from to (reads old) given
    pub gate_is : given.gate ≡ gate
    pub n : ℕ
    pub within : n ≤ length (step given state).changes
    pub stands : BayGivesUp reads may_leave moment left_since n (lifted bay (step given state)) (part_with bay state gate) old new

  -- The disk failed: the library stands behind the first n changes, the next one there or not.
  pub record OneStops (old new : D) : Type 0 where
    pub given : Given
    pub starts : StartsOne from to (reads old) given
    pub gate_is : given.gate ≡ gate
    pub n : ℕ
    pub within : n ≤ length (step given state).changes
    pub stands : BayStops reads may_leave moment left_since n (lifted bay (step given state)) (part_with bay state gate) old new

  -- How the command ends there.
  abbrev pub OneEndsOn : Reply → D → D → Type 0
  OneEndsOn (Disk name) old new = (name ≡ bay) × Rose (faults old) (faults new) × OneStops old new
  OneEndsOn Memory old new = OneGivesUp old new
  OneEndsOn reply old new = OneSteps old new reply
