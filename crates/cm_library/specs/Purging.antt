-- What the calls do that purge a settled library.
use Rattle.std.specs.Prelude.{◌≡◌, ◌≢◌, ℕ, ◌<◌, ◌||◌, Bool, true, false, if◌then◌else◌, List, take, Option, None, Some, is_some, IfSome, Result, IfOk, OnOk}
use Rattle.std.specs.Option.{ForSome}
use Rattle.std.specs.Str.{bytes_eq}
use Rattle.cm_disk.specs.Disk.{File, Files, Only, put, is_above, IsNext}
use Rattle.cm_disk.specs.Ranks.{ahead}
use Rattle.cm_disk.specs.Walks.{only_at, AreListed}
use Rattle.cm_datalib.specs.Places.{folder as manifest_folder, manifest_place, is_manifest_place}
use Rattle.cm_filelib.specs.Places.{folder as file_folder, file_place, is_file_place}
use Rattle.cm_state.specs.declared.fault.LibFault.{LibFault}
use Rattle.cm_state.specs.Adding.{Told}
use Rattle.cm_state.specs.Faults.{RefusesOr}
use Rattle.cm_state.specs.Purged.{is_loose, loose, purged, Clears, counted}
use Rattle.cm_state.specs.State.{State}
use Rattle.cm_library.specs.declared.purging.PurgeStep.{PurgeStep}
use Rattle.cm_library.specs.declared.purging.Purged.{Purged}
use Rattle.cm_library.specs.declared.stored.Stored.{Stored}
use Rattle.cm_library.specs.declared.stored.Stored.TheVariants.{Manifest, File as FileOf}
use Rattle.cm_library.specs.Filing.{KeepsRows}
use Rattle.cm_library.specs.Kept.{Seen}

-- a place of the folder of manifests, or of that of files
abbrev pub in_folders : List ℕ → Bool
in_folders place = bytes_eq (take 8 place) manifest_folder || bytes_eq (take 8 place) file_folder

-- the files in these two folders alone
abbrev pub in_store : Files → Files
in_store files place = only_at in_folders files place

-- the place of what is stored
abbrev pub stored_place : Stored → List ℕ
stored_place (Manifest id version) = manifest_place id version
stored_place (FileOf hash) = file_place hash.0

-- a place is loose, if there is one
abbrev pub is_loose_or : State → Option (List ℕ) → Bool
is_loose_or state None = false
is_loose_or state (Some place) = is_loose state place

-- a place is another
abbrev pub IsOther : List ℕ → List ℕ → Type 0
IsOther place q = q ≢ place

-- a place is not loose
abbrev pub IsFirm : State → List ℕ → Type 0
IsFirm state q = is_loose state q ≡ false

-- nothing has changed but the disk
pub record KeepsAll {D : Type 0} (old new : Seen D) : Type 0 where
  pub rows : KeepsRows old new
  pub seals : new.seals ≡ old.seals
  pub started : new.started ≡ old.started

-- One step of a purge: the next place of the two folders is looked at, and if it is loose it is gone, durably.
pub record StepsOn {D : Type 0} (reads : D → Option Files) (may_leave : D → List ℕ → File → Type 0) (after : Option (List ℕ)) (old new : Seen D) (result : Result PurgeStep LibFault) : Type 0 where
  pub refused : RefusesOr None result
  pub rows : KeepsRows old new
  pub seals : new.seals ≡ old.seals
  pub started : new.started ≡ old.started
  pub next : IfOk result (λ step. ForSome (reads old.disk) (λ files. IsNext (in_store files) after step.at))
  pub above : IfOk result (λ step. IfSome step.at (λ at. is_above after at ≡ true))
  pub removed : IfOk result (λ step. step.removed ≡ is_loose_or old.state step.at)
  pub files : IfOk result (λ step. IfSome step.at (λ at. Told (λ files now. now ≡ (if step.removed then put files at None else files)) (reads old.disk) (reads new.disk)))
  pub durable : IfOk result (λ step. IfSome step.at (λ at. step.removed ≡ true → ForSome (reads old.disk) (λ _. Only None (may_leave new.disk at))))
  pub ended : IfOk result (λ step. step.at ≡ None → reads new.disk ≡ reads old.disk)
  pub clears : Told (Clears old.state) (reads old.disk) (reads new.disk)

-- All steps: each loose place is gone, durably, and these are counted by kind.
pub record Purges {D : Type 0} (reads : D → Option Files) (may_leave : D → List ℕ → File → Type 0) (old new : Seen D) (result : Result Purged LibFault) : Type 0 where
  pub refused : RefusesOr None result
  pub rows : KeepsRows old new
  pub seals : new.seals ≡ old.seals
  pub started : new.started ≡ old.started
  pub clears : Told (Clears old.state) (reads old.disk) (reads new.disk)
  pub all : OnOk result (Told (λ files now. (q : List ℕ) → now q ≡ purged old.state files q) (reads old.disk) (reads new.disk))
  pub durable : OnOk result (ForSome (reads old.disk) (λ files. (q : List ℕ) → is_some (loose old.state files q) ≡ true → Only None (may_leave new.disk q)))
  pub counts : IfOk result (λ purged. ForSome (reads old.disk) (λ files. (places : List (List ℕ)) × AreListed (loose old.state files) places
      × (purged.files ≡ counted is_file_place places) × (purged.manifests ≡ counted is_manifest_place places)))

-- The next loose place is told, and nothing is done.
pub record TellsLoose {D : Type 0} (reads : D → Option Files) (after : Option (List ℕ)) (old new : Seen D) (result : Result (Option (List ℕ)) LibFault) : Type 0 where
  pub refused : RefusesOr None result
  pub rows : KeepsRows old new
  pub seals : new.seals ≡ old.seals
  pub started : new.started ≡ old.started
  pub same : reads new.disk ≡ reads old.disk
  pub next : IfOk result (λ next. ForSome (reads old.disk) (λ files. IsNext (loose old.state files) after next))
  pub above : IfOk result (λ next. IfSome next (λ at. (is_above after at ≡ true) × (is_loose old.state at ≡ true)))
  -- whatever the disk, a walk over them ends
  pub nearer : IfOk result (λ next. IfSome next (λ at. ahead (Some at) < ahead after))
