-- The step of a site for each command: its changes in order, bay by bay, and its reply.
use Rattle.std.specs.Prelude.{ℕ, ◌+◌, ◌-◌, ◌==◌, ◌||◌, ◌&&◌, if◌then◌else◌, Bool, true, false, List, [], ◌∷◌, map, filter, length, find, not, Option, None, Some, option_map, Result, Ok, Err}
use Rattle.std.specs.Option.{option_map_or}
use Rattle.sha2.specs.Sha256.{sha256}
use Rattle.cm_check.specs.declared.finding.Finding.{Finding}
use Rattle.cm_groups.specs.Names.{is_among}
use Rattle.cm_intake.specs.Readings.{Readings}
use Rattle.cm_notes.specs.declared.note.Note.TheVariants as note
use Rattle.cm_records.specs.Seen.{next_topology}
use Rattle.cm_register.specs.Opens.{noted}
use Rattle.cm_register.specs.Records.{Records}
use Rattle.cm_register.specs.Look.{Missing as NoRecords}
use Rattle.cm_state.specs.Look.{Missing}
use Rattle.cm_state.specs.State.{State}
use Rattle.cm_topo.specs.Outcomes.{topology_in}
use Rattle.cm_topo.specs.declared.fault.TopoFault.{TopoFault}
use Rattle.cm_topo.specs.declared.topology.Topology.{Topology}
use Rattle.cm_tree.specs.declared.entry.Entry.{Entry}
use Rattle.cm_site.specs.Contents.{Content, OfLibrary, OfRecords, Change, Made, InLibrary, InRecords, records_bay, site}
use Rattle.cm_site.specs.OneLibrary as one
use Rattle.cm_site.specs.Opening.{Closed, NoLibrary, NotReadable, NoBayFor, closed_in}
use Rattle.cm_site.specs.Refusals.{topology_refusals}
use Rattle.cm_site.specs.Worlds.{World, Part, Placed, Kept, at, is_handed_in, part_at, state_in, records_of}
use Rattle.cm_site.specs.declared.reply.Refusal.{Refusal}
use Rattle.cm_site.specs.declared.reply.Refusal.TheVariants.{NoBay}
use Rattle.cm_site.specs.declared.reply.Reply.{Reply}
use Rattle.cm_site.specs.declared.reply.Reply.TheVariants as reply

-- What a step is given beside the world: the two readings of the folder; by the name of a library's bay, what is amiss with the stored files
-- of a manifest; the places that the library that is asked for them does not need; the text of the input, none where it failed; the minute.
pub record Given : Type 0 where
  pub readings : Readings
  pub amiss : List ℕ → List Entry → List Finding
  pub loose : List (List ℕ)
  pub text : Option (List ℕ)
  pub minute : ℕ

-- A reply, the changes in their order, whether all bays are opened, the bay whose unneeded places are removed, and the bay that is asked for
-- these.
pub record Step : Type 0 where
  pub reply : Reply
  pub changes : List Placed
  pub opens : Bool
  pub purges : Option (List ℕ)
  pub asks : Option (List ℕ)

-- a reply without an opening; a reply of opened bays with changes, and with none
abbrev pub replied : Reply → Step
replied reply = record { reply = reply; changes = []; opens = false; purges = None; asks = None }

abbrev pub changing : List Placed → Reply → Step
changing changes reply = record { reply = reply; changes = changes; opens = true; purges = None; asks = None }

abbrev pub told : Reply → Step
told reply = changing [] reply

abbrev pub refused : Refusal → Step
refused refusal = told (reply.Refused refusal)

-- a refusal changes nothing
abbrev pub unless : Option Refusal → Step → Step
unless None step = step
unless (Some refusal) step = refused refusal

-- the bays are not opened

abbrev pub reply_of : Closed → Reply
reply_of (NoLibrary bay) = reply.NoLibrary bay
reply_of (NotReadable bay place at) = reply.Unreadable bay place at
reply_of (NoBayFor name) = reply.NoBayFor name

abbrev pub opened_or : Option Closed → Step → Step
opened_or None step = step
opened_or (Some closed) step = replied (reply_of closed)

-- a step of opened bays
abbrev pub opened : (World → Step) → World → Step
opened step world = opened_or (closed_in world) (step world)

-- init

-- the first name that is no bay
abbrev pub no_bay : List (List ℕ) → World → Option (List ℕ)
no_bay names world = find (λ name. not (is_handed_in name world)) names

-- no name means all bays
abbrev pub is_meant : List (List ℕ) → List ℕ → Bool
is_meant names name = length names == 0 || is_among names name

-- a bay has nothing yet
abbrev pub is_empty : Content → Bool
is_empty (OfLibrary Missing) = true
is_empty (OfLibrary library) = false
is_empty (OfRecords NoRecords) = true
is_empty (OfRecords register) = false

abbrev pub is_made : List (List ℕ) → Part → Bool
is_made names part = is_meant names part.name && is_empty part.content

abbrev pub makings : List (List ℕ) → World → List Placed
makings names world = map (λ (part : Part). at part.name Made) (filter (is_made names) world)

abbrev pub init_or : Option (List ℕ) → List (List ℕ) → World → Step
init_or None names world = record (replied (reply.Made (length (makings names world)))) { changes = makings names world }
init_or (Some name) names world = replied (reply.Refused (NoBay name))

-- an empty library, or new records, in each bay that is meant and has nothing
abbrev pub step_init : List (List ℕ) → World → Step
step_init names world = init_or (no_bay names world) names world

-- one library

-- what a step of one library is given
abbrev pub given_for : Given → Part → one.Given
given_for given part = record { readings = given.readings; gate = part.gate; amiss = given.amiss part.name; loose = given.loose }

-- a step of one bay's library is one of the site
abbrev pub lifted : List ℕ → one.Step → Step
lifted bay step = record {
  reply = step.reply;
  changes = map (λ change. at bay (InLibrary change)) step.changes;
  opens = true;
  purges = if step.purges then Some bay else None;
  asks = if step.asks then Some bay else None;
}

abbrev pub with_state : List ℕ → (State → one.Step) → Option State → Step
with_state bay step None = refused (NoBay bay)
with_state bay step (Some state) = lifted bay (step state)

abbrev pub with_part : List ℕ → (one.Given → State → one.Step) → Given → Option Part → Step
with_part bay step given None = refused (NoBay bay)
with_part bay step given (Some part) = with_state bay (step (given_for given part)) (state_in part.content)

-- a step of the library of a bay; refused where the bay is not handed in, or has no library
abbrev pub on_library : List ℕ → (one.Given → State → one.Step) → Given → World → Step
on_library bay step given = opened (λ world. with_part bay step given (part_at bay world))

abbrev pub step_add : List ℕ → Given → World → Step
step_add id = on_library site (one.add id)

abbrev pub step_update : List ℕ → Given → World → Step
step_update id = on_library site (one.update id)

abbrev pub step_drop : List ℕ → ℕ → Given → World → Step
step_drop bay job = on_library bay (λ given. one.drop job)

abbrev pub step_list : List ℕ → Given → World → Step
step_list bay = on_library bay (λ given. one.list)

abbrev pub step_validate : List ℕ → List ℕ → ℕ → Given → World → Step
step_validate bay id version = on_library bay (one.validate id version)

abbrev pub step_what_if : List ℕ → Given → World → Step
step_what_if bay = on_library bay (λ given state. one.what_if given)

abbrev pub step_purge : List ℕ → Given → World → Step
step_purge bay = on_library bay (λ given state. one.purge given)

-- topology

-- what a topology has, the default group not counted, and how many targets its record makes
abbrev pub topology_reply : Topology → Records → Records → Reply
topology_reply topology old new =
    reply.Topology topology.boundary_count topology.group_count (length topology.points) (length topology.peers) (new.next - old.next)

abbrev pub replaced : List ℕ → Topology → ℕ → Records → Step
replaced text topology minute records =
    changing (at records_bay (InRecords (next_topology text topology minute records)) ∷ [])
    (topology_reply topology records (noted (next_topology text topology minute records) records))

-- the step of a text that says this; a text that says none is refused before
abbrev pub said_step : List ℕ → Result Topology TopoFault → ℕ → Records → Step
said_step text (Ok topology) minute records = replaced text topology minute records
said_step text (Err fault) minute records = told reply.Memory

abbrev pub text_step : List ℕ → ℕ → Kept → World → Step
text_step text minute kept world =
    unless (topology_refusals (length text) (topology_in text) kept world) (said_step text (topology_in text) minute kept.records)

-- the input that failed is no refusal
abbrev pub input_step : Option (List ℕ) → ℕ → Kept → World → Step
input_step None minute kept world = told reply.Source
input_step (Some text) minute kept world = text_step text minute kept world

abbrev pub topology_in_records : Given → Option Kept → World → Step
topology_in_records given None world = refused (NoBay records_bay)
topology_in_records given (Some kept) world = input_step given.text given.minute kept world

abbrev pub step_topology : Given → World → Step
step_topology given = opened (λ world. topology_in_records given (records_of world) world)
