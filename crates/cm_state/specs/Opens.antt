-- To which state files open, and what each image of a disk opens to.
use Rattle.std.specs.Prelude.{◌≡◌, ◌⊎◌, ℕ, true, List, Option}
use Rattle.std.specs.List.{AllByRecursion}
use Rattle.cm_disk.specs.Disk.{File, Files, IsImage}
use Rattle.cm_tree.specs.declared.entry.Entry.{Entry}
use Rattle.cm_filelib.specs.Places.{file_place}
use Rattle.cm_filelib.specs.Stored.{is_file_of}
use Rattle.cm_state.specs.State.{Held, State}
use Rattle.cm_state.specs.Changes.{StateChange, after_change}
use Rattle.cm_state.specs.Look.{Missing, Opened, look}

-- the place of an entry's hash has a file of the entry's size and SHA-256
abbrev pub HasFile : Files → Entry → Type 0
HasFile files entry = is_file_of entry.hash.0 entry.size (files (file_place entry.hash.0)) ≡ true

-- each entry of a manifest has its file
abbrev pub HasFiles : Files → Held → Type 0
HasFiles files held = AllByRecursion (HasFile files) held.manifest

-- these files are a library in this state, whatever stands at the places of files
abbrev pub Stands : Files → State → Type 0
Stands files state = look files ≡ Opened state

-- These files open to this state: they are a library in it, and each entry of each version has its file.
pub record Opens (files : Files) (state : State) : Type 0 where
  pub stands : Stands files state
  pub whole : AllByRecursion (HasFiles files) state.versions

-- files open to the state before a change or after it; where there is no change, to the state
abbrev pub OpensOr : State → Option StateChange → Files → Type 0
OpensOr state change files = Opens files state ⊎ Opens files (after_change change state)

-- the same of a library that only stands
abbrev pub StandsOr : State → Option StateChange → Files → Type 0
StandsOr state change files = Stands files state ⊎ Stands files (after_change change state)

-- whatever a crash leaves opens to this state
abbrev pub EachOpens : (List ℕ → File → Type 0) → State → Type 0
EachOpens may_leave state = (image : Files) → IsImage may_leave image → Opens image state

-- whatever a crash leaves stands in this state
abbrev pub EachStands : (List ℕ → File → Type 0) → State → Type 0
EachStands may_leave state = (image : Files) → IsImage may_leave image → Stands image state

-- whatever a crash leaves is no library, or opens to some state
abbrev pub EachOpensSome : (List ℕ → File → Type 0) → Type 0
EachOpensSome may_leave = (image : Files) → IsImage may_leave image → (look image ≡ Missing) ⊎ ((state : State) × Opens image state)

-- files open to one state at most
abbrev pub OpensToOne : Type 0
OpensToOne = (files : Files) (a b : State) → Opens files a → Opens files b → a ≡ b
