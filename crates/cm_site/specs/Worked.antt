-- A worked site: its own library, its records and two points; and topologies of it.
use Rattle.std.specs.Prelude.{ℕ, ◌^◌, ◌-◌, List, [], ◌∷◌, ◌++◌, map, filter, not, codes, if◌then◌else◌, Option, Some, None, Result, Ok, Err}
use Rattle.std.specs.Str.{bytes_eq}
use Rattle.cm_check.specs.declared.finding.Finding.{Finding}
use Rattle.cm_check.specs.declared.finding.FindingKind.TheVariants as kind
use Rattle.cm_datalib.specs.Places.{manifest_place}
use Rattle.cm_notes.specs.declared.to.To.TheVariants as to
use Rattle.cm_register.specs.Kept.{under_alone}
use Rattle.cm_register.specs.Look.{Register, Missing as NoRecords, Opened as OpenedRecords}
use Rattle.cm_register.specs.Records.{Records, no_records}
use Rattle.cm_register.specs.Worked.{app, france, hash_of, point_at, target}
use Rattle.cm_register.specs.declared.target.TargetState.TheVariants as state
use Rattle.cm_state.specs.Changes.{StateChange}
use Rattle.cm_state.specs.Look.{Library, Missing, Opened}
use Rattle.cm_state.specs.State.{Held, State, empty}
use Rattle.cm_topo.specs.declared.fault.TopoFault.{TopoFault}
use Rattle.cm_topo.specs.declared.topology.Topology.{Topology}
use Rattle.cm_tree.specs.declared.entry.Entry.{Entry}
use Rattle.cm_site.specs.Contents.{Change, OfLibrary, OfRecords, InLibrary, records_bay, site}
use Rattle.cm_site.specs.Machine.{Given, Step, said_step, unless}
use Rattle.cm_site.specs.Refusals.{topology_refusals}
use Rattle.cm_site.specs.Worlds.{Kept, Part, Placed, World, at, is_part}
use Rattle.cm_site.specs.declared.reply.Refusal.{Refusal}

-- worlds

abbrev pub first : List ℕ
first = codes "dp1"

abbrev pub second : List ℕ
second = codes "dp2"

abbrev pub library_part : List ℕ → Library → Part
library_part name library = record { name = name; content = OfLibrary library; gate = 10 }

abbrev pub records_part : Register → Part
records_part register = record { name = records_bay; content = OfRecords register; gate = 10 }

-- the four bays in their order
abbrev pub four : Library → Register → Library → Library → World
four own register one other = library_part site own ∷ records_part register ∷ library_part first one ∷ library_part second other ∷ []

abbrev pub nothing_there : World
nothing_there = four Missing NoRecords Missing Missing

abbrev pub new_world : World
new_world = four (Opened empty) (OpenedRecords no_records) (Opened empty) (Opened empty)

-- a world without the bays of these names
abbrev pub without : List ℕ → World → World
without name world = filter (λ (part : Part). not (is_part name part)) world

-- the gate of that bay's log stands there
abbrev pub with_gate : List ℕ → ℕ → World → World
with_gate name gate world = map (λ (part : Part). if is_part name part then record part { gate = gate } else part) world

-- topologies

-- a topology of these points, and with one point group of these members
abbrev pub topology_with : List (List ℕ) → List (List ℕ) → Topology
topology_with points members = record france {
  boundary_count = 4;
  group_count = 3;
  points = map point_at points;
  point_groups = record { name = codes "all-france"; members = members } ∷ [];
}

-- the two points, of which the topology names the second first
abbrev pub backwards : Topology
backwards = topology_with (second ∷ first ∷ []) (first ∷ [])

abbrev pub both_members : Topology
both_members = topology_with (first ∷ second ∷ []) (first ∷ second ∷ [])

-- the first point is not in it; a third one is, which has no bay
abbrev pub without_first : Topology
without_first = topology_with (second ∷ []) []

abbrev pub with_third : Topology
with_third = topology_with (codes "dp9" ∷ codes "dp8" ∷ []) []

-- the records after that topology
abbrev pub told_of : Topology → Records
told_of topology = under_alone (Some topology) 1

-- a version was sent to the group, and the first point has it
abbrev pub sent_to_group : Records
sent_to_group = record (told_of backwards) {
  sent = record { id = app; version = 1; to = to.Group (codes "all-france") } ∷ [];
  targets = target first state.Installed 1 ∷ [];
  next = 2;
}

-- both points have a target
abbrev pub both_aimed : Records
both_aimed = record (told_of backwards) { targets = target first state.Installed 2 ∷ target second state.Installed 1 ∷ []; next = 3 }

abbrev pub with_records : Records → World
with_records records = four (Opened empty) (OpenedRecords records) (Opened empty) (Opened empty)

abbrev pub kept_at : ℕ → Records → Kept
kept_at gate records = record { records = records; gate = gate }

-- why a text of so many bytes that says this is refused; what it makes of the records
abbrev pub refused_as : ℕ → Result Topology TopoFault → Kept → Option Refusal
refused_as size said kept = topology_refusals size said kept (with_records kept.records)

abbrev pub step_of : List ℕ → Result Topology TopoFault → Records → Step
step_of text said records = unless (refused_as 9 said (kept_at 10 records)) (said_step text said 5 records)

-- the records' log is full
abbrev pub full : ℕ
full = 2 ^ 40

-- libraries

abbrev pub held : ℕ → Held
held version = record {
  row = record { «package» = app; version = version; entries = 1; size = 47; hash = hash_of 0 };
  manifest = record { path = codes "k"; size = 3; hash = hash_of 7 } ∷ [];
}

-- the site has version 1, the first point an unfinished job for it, and the second both the version and a job for another
abbrev pub at_site : State
at_site = record { versions = held 1 ∷ []; jobs = []; next = 2; lasts = (app, 1) ∷ [] }

abbrev pub at_first : State
at_first = record { versions = []; jobs = (1, held 1) ∷ []; next = 2; lasts = (app, 1) ∷ [] }

abbrev pub at_second : State
at_second = record { versions = held 1 ∷ []; jobs = (3, held 2) ∷ []; next = 4; lasts = (app, 2) ∷ [] }

abbrev pub start : World
start = four (Opened at_site) (OpenedRecords no_records) (Opened at_first) (Opened at_second)

-- the last version that was opened at the site
abbrev pub with_last : ℕ → World
with_last version = four (Opened (record at_site { lasts = (app, version) ∷ [] })) (OpenedRecords no_records) (Opened at_first) (Opened at_second)

-- what is amiss has the name of the bay in whose files it is
abbrev pub amiss_at : List ℕ → List Entry → List Finding
amiss_at name manifest = map (λ (entry : Entry). record { path = name ++ entry.path; kind = kind.Missing }) manifest

-- two manifests and a place of neither form are told as not needed, and a folder without files is read
abbrev pub given : Given
given = record {
  readings = record { first = Some []; second = Some (λ k. []) };
  amiss = amiss_at;
  loose = manifest_place app 1 ∷ codes "other" ∷ manifest_place app 2 ∷ [];
  text = None;
  minute = 5;
}

abbrev pub from_text : List ℕ → Given
from_text text = record given { text = Some text }

-- a change of a library
abbrev pub in_library : List ℕ → StateChange → Placed
in_library bay change = at bay (InLibrary change)
