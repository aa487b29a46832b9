-- How a command ends on the bays of a site.
use Rattle.std.specs.Prelude.{◌≡◌, ◌≢◌, ◌⊎◌, ℕ, ◌+◌, ◌≤◌, true, false, Bool, List, [], ◌∷◌, length, take, Option, None, Some, is_some}
use Rattle.std.specs.List.{AllByRecursion}
use Rattle.std.specs.Option.{ForSome}
use Rattle.std.specs.Str.{bytes_eq}
use Rattle.std.specs.Option.{option_map_or}
use Rattle.cm_base.specs.Causes.{Rose}
use Rattle.cm_check.specs.Findings.{findings}
use Rattle.cm_disk.specs.Disk.{File, Files, IsImage, LeavesOnly, Only}
use Rattle.cm_disk.specs.Walks.{AreListed}
use Rattle.cm_intake.specs.Readings.{AreReadings}
use Rattle.cm_library.specs.Placing.{KeepsPlaces}
use Rattle.cm_records.specs.Placing.{KeepsPlaces as KeepsRecordsPlaces}
use Rattle.cm_register.specs.Look.{Register}
use Rattle.cm_state.specs.Adding.{Told}
use Rattle.cm_state.specs.Look.{Library, Missing, Opened, Unreadable}
use Rattle.cm_state.specs.Purged.{Clears, loose, purged}
use Rattle.cm_state.specs.State.{State}
use Rattle.cm_tree.specs.Folders.{Shown}
use Rattle.cm_tree.specs.declared.entry.Entry.{Entry}
use Rattle.cm_site.specs.Contents.{Content, OfLibrary, OfRecords, Change, after_all, content_in, gate_of, is_records, ReadsAs, OpensTo, IsGood}
use Rattle.cm_site.specs.Machine.{Given, Step}
use Rattle.cm_site.specs.Worlds.{World, Part, own}
use Rattle.cm_site.specs.declared.bay.Bay.{Bay}
use Rattle.cm_site.specs.declared.reply.Reply.{Reply}
use Rattle.cm_site.specs.declared.reply.Reply.TheVariants.{Disk, Memory}

-- bays and worlds

-- the bays are those of the world, by their names in order, before and afterwards, and each part and its disk are so
abbrev pub AllBays : {D : Type 0} → (Part → D → D → Type 0) → World → List (Bay D) → List (Bay D) → Type 0
AllBays P [] [] [] = Unit {0}
AllBays P (part ∷ parts) (old ∷ olds) (new ∷ news) = (old.name ≡ part.name) × (new.name ≡ part.name) × P part old.disk new.disk × AllBays P parts olds news
AllBays P world old new = ⊥

-- the disk of the bay of that name failed
abbrev pub RoseAt : {D : Type 0} → (D → ℕ) → List ℕ → List (Bay D) → List (Bay D) → Type 0
RoseAt faults name (old ∷ olds) (new ∷ news) = ((old.name ≡ name) × Rose (faults old.disk) (faults new.disk)) ⊎ RoseAt faults name olds news
RoseAt faults name old new = ⊥

-- where a step starts

-- a folder: what it shows, and how often it failed
pub record Sourced : Type 0 where
  pub shown : Shown
  pub faults : ℕ

-- a folder as clauses see it
abbrev pub sourced : {F : Type 0} → (F → Shown) → (F → ℕ) → F → Sourced
sourced shows faults folder = record { shown = shows folder; faults = faults folder }

-- an input: the bytes that it has left, where it tells them, and how often it failed
pub record Fed : Type 0 where
  pub left : Option (List ℕ)
  pub faults : ℕ

-- an input as clauses see it
abbrev pub fed : {S : Type 0} → (S → Option (List ℕ)) → (S → ℕ) → S → Fed
fed left faults input = record { left = left input; faults = faults input }

-- what comes from outside
pub record Outside : Type 0 where
  pub folder : Sourced
  pub input : Fed

abbrev pub beside : Sourced → Fed → Outside
beside folder input = record { folder = folder; input = input }

-- the text of the input, up to one byte past the most that a topology has; none only where it failed
abbrev pub IsInput : Fed → Fed → Option (List ℕ) → Type 0
IsInput from to None = Rose from.faults to.faults
IsInput from to (Some text) = ForSome from.left (λ left. text ≡ take 4194305 left)

-- a bay is of the kind that its name says
abbrev pub HasKind : List ℕ → Content → Type 0
HasKind name (OfLibrary library) = is_records name ≡ false
HasKind name (OfRecords register) = is_records name ≡ true

-- files are this part, and these are the findings in them
pub record IsPart (given : Given) (part : Part) (files : Files) : Type 0 where
  pub content : content_in part.name files ≡ part.content
  pub gate : gate_of part.name files ≡ part.gate
  pub amiss : (manifest : List Entry) → given.amiss part.name manifest ≡ findings files manifest

-- What a step starts from: what is given agrees with the outside and with the disks, and the disks read as the world.
pub record Starts {D : Type 0} (reads : D → Option Files) (from to : Outside) (minute : ℕ) (given : Given) (world : World) (old new : List (Bay D)) : Type 0 where
  pub readings : AreReadings from.folder.shown from.folder.faults to.folder.faults given.readings
  pub text : IsInput from.input to.input given.text
  pub minute_is : given.minute ≡ minute
  pub kinds : AllByRecursion (λ (part : Part). HasKind part.name part.content) world
  pub parts : AllBays (λ part disk _. ForSome (reads disk) (IsPart given part)) world old new

-- what a step does to one bay

abbrev pub is_purged : Step → List ℕ → Bool
is_purged step name = option_map_or (λ bay. bytes_eq bay name) step.purges false

-- what it may change of what reads give, finished or not: a purge removes places that the state does not need; else bytes change at places
-- of a library, or of the records, and no file is gone
abbrev pub KeepsBy : Bool → Content → Files → Files → Type 0
KeepsBy true (OfLibrary Missing) files now = (q : List ℕ) → now q ≡ files q
KeepsBy true (OfLibrary (Opened state)) files now = Clears state files now
KeepsBy true (OfLibrary (Unreadable place at)) files now = (q : List ℕ) → now q ≡ files q
KeepsBy false (OfLibrary library) files now = KeepsPlaces files now
KeepsBy purges (OfRecords register) files now = KeepsRecordsPlaces files now

-- what the bay holds after the first n changes of the step
abbrev pub after : ℕ → Step → Part → Content
after n step part = after_all (own part.name (take n step.changes)) part.content

abbrev pub OpensAmong : Step → Part → Files → Type 0
OpensAmong step part image = (n : ℕ) × (n ≤ length step.changes) × OpensTo (after n step part) image

-- What a step does to a bay's disk, finished or not.
pub record Moves {D : Type 0} (reads : D → Option Files) (may_leave : D → List ℕ → File → Type 0) (moment : D → ℕ) (left_since : D → ℕ → Files → Type 0) (step : Step) (part : Part) (old new : D) : Type 0 where
  pub places : Told (KeepsBy (is_purged step part.name) part.content) (reads old) (reads new)
  -- a bay that is not changed reads as before
  pub same : own part.name step.changes ≡ [] → is_purged step part.name ≡ false → reads new ≡ reads old
  -- An image at any moment was one at the entry, or opens to what the bay holds after some of the changes.
  pub moments : IsGood part.content (may_leave old) → ForSome (reads old) (λ _. LeavesOnly moment left_since old new (λ image. IsImage (may_leave old) image ⊎ OpensAmong step part image))

-- the disk reads as a content
abbrev pub Becomes : Option Files → Option Files → Content → Type 0
Becomes old new content = ForSome old (λ _. (now : Files) × (new ≡ Some now) × ReadsAs content now)

-- all that a state does not need is gone, nothing else has changed, and no image has any of it
pub record HasPurged {D : Type 0} (reads : D → Option Files) (may_leave : D → List ℕ → File → Type 0) (state : State) (old new : D) : Type 0 where
  pub gone : Told (λ files now. (q : List ℕ) → now q ≡ purged state files q) (reads old) (reads new)
  pub images : ForSome (reads old) (λ files. (q : List ℕ) → is_some (loose state files q) ≡ true → Only None (may_leave new q))

abbrev pub HasRemoved : {D : Type 0} → (D → Option Files) → (D → List ℕ → File → Type 0) → Bool → Content → D → D → Type 0
HasRemoved reads may_leave true (OfLibrary (Opened state)) old new = HasPurged reads may_leave state old new
HasRemoved reads may_leave purges content old new = Unit {0}

-- each image opens to what the bay holds now; where it was neither opened nor changed, it was an image at the entry
abbrev pub Leaves : {D : Type 0} → (D → Option Files) → (D → List ℕ → File → Type 0) → Bool → Content → List Change → D → D → Type 0
Leaves reads may_leave false content [] old new = ForSome (reads old) (λ _. (image : Files) → IsImage (may_leave new) image → IsImage (may_leave old) image)
Leaves reads may_leave opens content changes old new =
    IsGood content (may_leave old) → ForSome (reads old) (λ _. (image : Files) → IsImage (may_leave new) image → OpensTo (after_all changes content) image)

-- a bay after the whole step
pub record BayDone {D : Type 0} (reads : D → Option Files) (may_leave : D → List ℕ → File → Type 0) (moment : D → ℕ) (left_since : D → ℕ → Files → Type 0) (step : Step) (part : Part) (old new : D) : Type 0 where
  pub moves : Moves reads may_leave moment left_since step part old new
  pub becomes : Becomes (reads old) (reads new) (after (length step.changes) step part)
  pub leaves : Leaves reads may_leave step.opens part.content (own part.name step.changes) old new
  pub removed : HasRemoved reads may_leave (is_purged step part.name) part.content old new

-- an image opens to what the bay holds after n changes; before its first one it may be one at the entry
abbrev pub IsAfter : (List ℕ → File → Type 0) → ℕ → Step → Part → Files → Type 0
IsAfter may_leave n step part image = OpensTo (after n step part) image ⊎ ((own part.name (take n step.changes) ≡ []) × IsImage may_leave image)

-- a bay after the first n changes of a step
pub record BayGivesUp {D : Type 0} (reads : D → Option Files) (may_leave : D → List ℕ → File → Type 0) (moment : D → ℕ) (left_since : D → ℕ → Files → Type 0) (n : ℕ) (step : Step) (part : Part) (old new : D) : Type 0 where
  pub moves : Moves reads may_leave moment left_since step part old new
  pub becomes : Becomes (reads old) (reads new) (after n step part)
  pub images : IsGood part.content (may_leave old) → ForSome (reads old) (λ _. (image : Files) → IsImage (may_leave new) image → IsAfter (may_leave old) n step part image)

-- a bay after the first n changes of a step; the next one may be there or not, in what reads give and in each image
pub record BayStops {D : Type 0} (reads : D → Option Files) (may_leave : D → List ℕ → File → Type 0) (moment : D → ℕ) (left_since : D → ℕ → Files → Type 0) (n : ℕ) (step : Step) (part : Part) (old new : D) : Type 0 where
  pub moves : Moves reads may_leave moment left_since step part old new
  pub becomes : Becomes (reads old) (reads new) (after n step part) ⊎ Becomes (reads old) (reads new) (after (n + 1) step part)
  pub images : IsGood part.content (may_leave old) → ForSome (reads old) (λ _. (image : Files) → IsImage (may_leave new) image
      → IsAfter (may_leave old) n step part image ⊎ OpensTo (after (n + 1) step part) image)

-- how a command ends

-- the places that the library of a bay does not need
abbrev pub AreLoose : Option (List ℕ) → Part → Files → List (List ℕ) → Type 0
AreLoose None part files places = Unit {0}
AreLoose (Some bay) part files places = bytes_eq bay part.name ≡ true → (state : State) → part.content ≡ OfLibrary (Opened state) → AreListed (loose state files) places

-- The step was done whole: its reply is given, and each bay stands after all changes.
pub record Steps {D : Type 0} (reads : D → Option Files) (may_leave : D → List ℕ → File → Type 0) (moment : D → ℕ) (left_since : D → ℕ → Files → Type 0) (step : Given → World → Step) (from to : Outside) (minute : ℕ) (old new : List (Bay D)) (reply : Reply) : Type 0 where
  pub given : Given
  pub world : World
  pub starts : Starts reads from to minute given world old new
  pub asked : AllBays (λ part disk _. ForSome (reads disk) (λ files. AreLoose (step given world).asks part files given.loose)) world old new
  pub replies : reply ≡ (step given world).reply
  pub bays : AllBays (BayDone reads may_leave moment left_since (step given world)) world old new

-- There was no memory: all bays together stand after one prefix of the changes.
pub record GivesUp {D : Type 0} (reads : D → Option Files) (may_leave : D → List ℕ → File → Type 0) (moment : D → ℕ) (left_since : D → ℕ → Files → Type 0) (step : Given → World → Step) (from to : Outside) (minute : ℕ) (old new : List (Bay D)) : Type 0 where
  pub given : Given
  pub world : World
  pub starts : Starts reads from to minute given world old new
  pub n : ℕ
  pub within : n ≤ length (step given world).changes
  pub bays : AllBays (BayGivesUp reads may_leave moment left_since n (step given world)) world old new

-- A disk failed: all bays together stand after one prefix of the changes, the next one there or not.
pub record Stops {D : Type 0} (reads : D → Option Files) (may_leave : D → List ℕ → File → Type 0) (moment : D → ℕ) (left_since : D → ℕ → Files → Type 0) (step : Given → World → Step) (from to : Outside) (minute : ℕ) (old new : List (Bay D)) : Type 0 where
  pub given : Given
  pub world : World
  pub starts : Starts reads from to minute given world old new
  pub n : ℕ
  pub within : n ≤ length (step given world).changes
  pub bays : AllBays (BayStops reads may_leave moment left_since n (step given world)) world old new

-- How a command ends on the bays: a disk failed, there was no memory, or the step was done.
abbrev pub EndsOn : {D : Type 0} → (D → Option Files) → (D → List ℕ → File → Type 0) → (D → ℕ) → (D → ℕ → Files → Type 0) → (D → ℕ) → (Given → World → Step) → Outside → Outside → ℕ → Reply → List (Bay D) → List (Bay D) → Type 0
EndsOn reads may_leave moment left_since faults step from to minute (Disk bay) old new =
    RoseAt faults bay old new × Stops reads may_leave moment left_since step from to minute old new
EndsOn reads may_leave moment left_since faults step from to minute Memory old new = GivesUp reads may_leave moment left_since step from to minute old new
EndsOn reads may_leave moment left_since faults step from to minute reply old new = Steps reads may_leave moment left_since step from to minute old new reply
