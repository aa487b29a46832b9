-- A bay that is not opened, and a site that is not.
use Rattle.std.specs.Prelude.{◌≡◌, ℕ, ◌++◌, if◌then◌else◌, List, [], ◌∷◌, Option}
use Rattle.std.specs.List.{AllByRecursion}
use Rattle.std.specs.Option.{ForSome}
use Rattle.cm_base.specs.Causes.{Rose}
use Rattle.cm_disk.specs.Disk.{File, Files, IsImage, LeavesOnly}
use Rattle.cm_register.specs.Look.{Missing as NoRecords, Unreadable as UnreadableRecords}
use Rattle.cm_state.specs.Look.{Missing, Unreadable}
use Rattle.cm_site.specs.Contents.{Content, OfLibrary, OfRecords, content_in, is_records}
use Rattle.cm_site.specs.Opened.{IsOpenAs, bays_from, bays_now}
use Rattle.cm_site.specs.declared.bay.Bay.{Bay}
use Rattle.cm_site.specs.declared.fault.SiteFault.{SiteFault}
use Rattle.cm_site.specs.declared.fault.SiteFault.TheVariants as fault
use Rattle.cm_site.specs.declared.member.Member.{Member}

-- a disk reads as before, and a crash since has left what it might have left before
pub record IsLeft {D : Type 0} (reads : D → Option Files) (may_leave : D → List ℕ → File → Type 0) (moment : D → ℕ) (left_since : D → ℕ → Files → Type 0) (old new : D) : Type 0 where
  pub same : reads new ≡ reads old
  pub run : LeavesOnly moment left_since old new (IsImage (may_leave old))

-- no library or no records, and bytes that are neither, in a bay of that name
abbrev pub none_in : List ℕ → Content
none_in name = if is_records name then OfRecords NoRecords else OfLibrary Missing

abbrev pub unreadable_in : List ℕ → List ℕ → ℕ → Content
unreadable_in name place at = if is_records name then OfRecords (UnreadableRecords place at) else OfLibrary (Unreadable place at)

-- the fault is that of the bay of that name, by its disk before and afterwards
abbrev pub IsFaultOf : {D : Type 0} → (D → Option Files) → (D → ℕ) → List ℕ → D → D → SiteFault → Type 0
IsFaultOf reads faults name old new (fault.NoLibrary bay) = (bay ≡ name) × ForSome (reads old) (λ files. content_in name files ≡ none_in name)
IsFaultOf reads faults name old new (fault.Unreadable bay place at) = (bay ≡ name) × ForSome (reads old) (λ files. content_in name files ≡ unreadable_in name place at)
IsFaultOf reads faults name old new (fault.NoBayFor point) = ⊥
IsFaultOf reads faults name old new (fault.Disk bay) = (bay ≡ name) × Rose (faults old) (faults new)
IsFaultOf reads faults name old new fault.Memory = Unit {0}

-- The bays before one were opened, and this one was not.
pub record StopsAtBay {D : Type 0} (reads : D → Option Files) (may_leave : D → List ℕ → File → Type 0) (moment : D → ℕ) (left_since : D → ℕ → Files → Type 0) (faults : D → ℕ) (bays back : List (Bay D)) (cause : SiteFault) : Type 0 where
  pub members : List (Member D)
  pub each : AllByRecursion (λ (member : Member D). IsOpenAs reads may_leave moment left_since faults member.name member.hold) members
  pub bay : Bay D
  pub now : Bay D
  pub rest : List (Bay D)
  pub named : now.name ≡ bay.name
  pub left : IsLeft reads may_leave moment left_since bay.disk now.disk
  pub fault : IsFaultOf reads faults bay.name bay.disk now.disk cause
  pub before : bays ≡ bays_from members ++ bay ∷ rest
  pub after : back ≡ bays_now members ++ now ∷ rest
