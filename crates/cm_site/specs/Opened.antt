-- A site that was just opened.
use Rattle.std.specs.Prelude.{◌≡◌, ℕ, ◌≤◌, true, false, List, [], map, Option, None, is_some}
use Rattle.std.specs.List.{AllByRecursion}
use Rattle.std.specs.Option.{ForSome}
use Rattle.cm_base.specs.declared.hash.Hash.{Hash}
use Rattle.cm_disk.specs.Disk.{File, Files, IsImage, LeavesOnly}
use Rattle.cm_library.specs.Kept.{Seen}
use Rattle.cm_pkglib.specs.Counts.{seal_at}
use Rattle.cm_records.specs.Seen.{Seen as SeenRecords, Reads}
use Rattle.cm_register.specs.Look.{Opened as OpenedRecords}
use Rattle.cm_register.specs.Opens.{EachOpens as EachOpensRecords}
use Rattle.cm_state.specs.Look.{Opened, look, gate_in}
use Rattle.cm_state.specs.Needed.{is_named}
use Rattle.cm_state.specs.Opens.{EachOpens, EachOpensSome}
use Rattle.cm_site.specs.Bays.{AreBays}
use Rattle.cm_site.specs.Contents.{Content, OfLibrary, OfRecords, is_records}
use Rattle.cm_site.specs.Opening.{closed_in}
use Rattle.cm_site.specs.Worlds.{World, Part}
use Rattle.cm_site.specs.declared.bay.Bay.{Bay}
use Rattle.cm_site.specs.declared.member.Hold.{Hold}
use Rattle.cm_site.specs.declared.member.Hold.TheVariants as hold
use Rattle.cm_site.specs.declared.member.Member.{Member}

-- The library was opened on its disk as that was at the entry, and has done nothing since: it is in the state of the files, no job has
-- started a file, the hashes of the versions are sealed and no others, and a crash has left what it might have left at the entry. Where each
-- image opened to some state at the entry, each opens to this one now.
pub record IsOpened {D : Type 0} (reads : D → Option Files) (may_leave : D → List ℕ → File → Type 0) (moment : D → ℕ) (left_since : D → ℕ → Files → Type 0) (faults : D → ℕ) (library : Seen D) : Type 0 where
  pub settled : library.pending ≡ None
  pub free : library.started ≡ []
  pub same : reads library.disk ≡ reads library.start
  pub stands : ForSome (reads library.start) (λ files. look files ≡ Opened library.state)
  pub gate : ForSome (reads library.start) (λ files. gate_in files ≡ library.end)
  pub sealed : (hash : Hash) → is_some (seal_at library.seals hash) ≡ is_named hash.0 library.state
  pub moments : LeavesOnly moment left_since library.start library.disk (IsImage (may_leave library.start))
  pub whole : EachOpensSome (may_leave library.start) → ForSome (reads library.start) (λ _. EachOpens (may_leave library.disk) library.state)
  pub later : faults library.start ≤ faults library.disk

-- The same of the records: they are those of the files, and each image opens to them.
pub record AreOpened {D : Type 0} (reads : D → Option Files) (may_leave : D → List ℕ → File → Type 0) (moment : D → ℕ) (left_since : D → ℕ → Files → Type 0) (faults : D → ℕ) (records : SeenRecords D) : Type 0 where
  pub settled : records.pending ≡ None
  pub same : reads records.disk ≡ reads records.start
  pub stands : ForSome (reads records.start) (λ files. Reads files records.kept records.end)
  pub moments : LeavesOnly moment left_since records.start records.disk (IsImage (may_leave records.start))
  pub whole : ForSome (reads records.start) (λ _. EachOpensRecords (may_leave records.disk) records.kept)
  pub later : faults records.start ≤ faults records.disk

-- what is open of a bay

abbrev pub start_of : {D : Type 0} → Hold D → D
start_of (hold.Library library) = library.start
start_of (hold.Records records) = records.start

abbrev pub disk_of : {D : Type 0} → Hold D → D
disk_of (hold.Library library) = library.disk
disk_of (hold.Records records) = records.disk

abbrev pub content_of : {D : Type 0} → Hold D → Content
content_of (hold.Library library) = OfLibrary (Opened library.state)
content_of (hold.Records records) = OfRecords (OpenedRecords records.kept)

abbrev pub end_of : {D : Type 0} → Hold D → ℕ
end_of (hold.Library library) = library.end
end_of (hold.Records records) = records.end

-- the bay of the records holds them, and another bay a library
abbrev pub IsOpenAs : {D : Type 0} → (D → Option Files) → (D → List ℕ → File → Type 0) → (D → ℕ) → (D → ℕ → Files → Type 0) → (D → ℕ) → List ℕ → Hold D → Type 0
IsOpenAs reads may_leave moment left_since faults name (hold.Library library) = (is_records name ≡ false) × IsOpened reads may_leave moment left_since faults library
IsOpenAs reads may_leave moment left_since faults name (hold.Records records) = (is_records name ≡ true) × AreOpened reads may_leave moment left_since faults records

-- all bays

-- the bays as they were handed in, and as they would be given back
abbrev pub bay_from : {D : Type 0} → Member D → Bay D
bay_from member = record { name = member.name; disk = start_of member.hold }

abbrev pub bays_from : {D : Type 0} → List (Member D) → List (Bay D)
bays_from {D = D} members = map (λ (member : Member D). record { name = member.name; disk = start_of member.hold }) members

abbrev pub bay_of : {D : Type 0} → Member D → Bay D
bay_of member = record { name = member.name; disk = disk_of member.hold }

abbrev pub bays_now : {D : Type 0} → List (Member D) → List (Bay D)
bays_now {D = D} members = map (λ (member : Member D). record { name = member.name; disk = disk_of member.hold }) members

abbrev pub part_of : {D : Type 0} → Member D → Part
part_of member = record { name = member.name; content = content_of member.hold; gate = end_of member.hold }

abbrev pub world_of : {D : Type 0} → List (Member D) → World
world_of members = map part_of members

-- All bays are open, each point of the topology has one, and nothing was done since.
pub record IsOpenSite {D : Type 0} (reads : D → Option Files) (may_leave : D → List ℕ → File → Type 0) (moment : D → ℕ) (left_since : D → ℕ → Files → Type 0) (faults : D → ℕ) (members : List (Member D)) : Type 0 where
  pub bays : AreBays (bays_from members)
  pub each : AllByRecursion (λ (member : Member D). IsOpenAs reads may_leave moment left_since faults member.name member.hold) members
  pub none_closed : closed_in (world_of members) ≡ None
