-- What a crash leaves at the places that a state needs, one by one.
use Rattle.std.specs.Prelude.{◌≡◌, ℕ, List, Option, Some, option_map}
use Rattle.std.specs.Option.{option_and_then}
use Rattle.std.specs.List.{AllByRecursion}
use Rattle.cm_disk.specs.Disk.{File}
use Rattle.cm_tree.specs.declared.entry.Entry.{Entry}
use Rattle.cm_datalib.specs.Places.{manifest_place}
use Rattle.cm_filelib.specs.Stored.{IsFileSure}
use Rattle.cm_state.specs.State.{Held, State}
use Rattle.cm_state.specs.Look.{manifest_in}

-- what is held for a row whose manifest has this file
abbrev pub held_in : Held → File → Option Held
held_in held file = option_map (λ manifest. record { row = held.row; manifest = manifest }) (option_and_then (manifest_in held.row) file)

-- whatever a crash leaves, the manifest is stored
abbrev pub IsManifestSure : (List ℕ → File → Type 0) → Held → Type 0
IsManifestSure may_leave held = (left : File) → may_leave (manifest_place held.row.package held.row.version) left → held_in held left ≡ Some held

-- whatever a crash leaves, each entry has its file
abbrev pub AreFilesSure : (List ℕ → File → Type 0) → Held → Type 0
AreFilesSure may_leave held = AllByRecursion (λ (entry : Entry). IsFileSure may_leave entry.hash.0 entry.size) held.manifest

-- the manifests of the versions and of the unfinished jobs are stored, whatever a crash leaves
pub record AreManifestsSure (may_leave : List ℕ → File → Type 0) (state : State) : Type 0 where
  pub versions : AllByRecursion (IsManifestSure may_leave) state.versions
  pub jobs : AllByRecursion (λ (job : ℕ × Held). IsManifestSure may_leave job.1) state.jobs

-- the files of the versions are there, whatever a crash leaves
abbrev pub AreVersionsSure : (List ℕ → File → Type 0) → State → Type 0
AreVersionsSure may_leave state = AllByRecursion (AreFilesSure may_leave) state.versions
