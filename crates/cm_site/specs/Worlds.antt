-- The world of a site: its bays in their order, each with what its disk reads as.
use Rattle.std.specs.Prelude.{◌≡◌, ℕ, ◌&&◌, not, if◌then◌else◌, Bool, List, [], ◌∷◌, map, filter, find, Option, None, Some, is_some, option_map}
use Rattle.std.specs.List.{list_any}
use Rattle.std.specs.Option.{option_and_then, option_map_or}
use Rattle.std.specs.Str.{bytes_eq}
use Rattle.cm_register.specs.Look.{Register, Missing as NoRecords, Opened as OpenedRecords, Unreadable as UnreadableRecords}
use Rattle.cm_register.specs.Records.{Records, no_records}
use Rattle.cm_state.specs.Look.{Library, Missing, Opened, Unreadable}
use Rattle.cm_state.specs.State.{State}
use Rattle.cm_site.specs.Contents.{Content, OfLibrary, OfRecords, Change, content_after, records_bay}

-- a bay: its name, what it holds, and the place of the closed gate of its log
pub record Part : Type 0 where
  pub name : List ℕ
  pub content : Content
  pub gate : ℕ

-- the bays that are handed in, in their order; the names differ
abbrev pub World : Type 0
World = List Part

abbrev pub is_part : List ℕ → Part → Bool
is_part name part = bytes_eq part.name name

abbrev pub part_at : List ℕ → World → Option Part
part_at name world = find (is_part name) world

abbrev pub is_handed_in : List ℕ → World → Bool
is_handed_in name world = list_any (is_part name) world

-- the state of an opened library, and the records that are open
abbrev pub state_in : Content → Option State
state_in (OfLibrary Missing) = None
state_in (OfLibrary (Opened state)) = Some state
state_in (OfLibrary (Unreadable place at)) = None
state_in (OfRecords register) = None

abbrev pub records_in : Content → Option Records
records_in (OfLibrary library) = None
records_in (OfRecords NoRecords) = None
records_in (OfRecords (OpenedRecords records)) = Some records
records_in (OfRecords (UnreadableRecords place at)) = None

-- the state of the library of a bay
abbrev pub library_at : List ℕ → World → Option State
library_at name world = option_and_then (λ (part : Part). state_in part.content) (part_at name world)

abbrev pub has_library : List ℕ → World → Bool
has_library name world = is_some (library_at name world)

-- the records, and the place of their log's closed gate
pub record Kept : Type 0 where
  pub records : Records
  pub gate : ℕ

abbrev pub kept_in : Part → Option Kept
kept_in part = option_map (λ records. record { records = records; gate = part.gate }) (records_in part.content)

abbrev pub records_of : World → Option Kept
records_of world = option_and_then kept_in (part_at records_bay world)

-- changes

-- a change, and the bay that it changes
pub record Placed : Type 0 where
  pub bay : List ℕ
  pub change : Change

abbrev pub at : List ℕ → Change → Placed
at bay change = record { bay = bay; change = change }

-- the changes of one bay, in their order
abbrev pub own : List ℕ → List Placed → List Change
own name changes = map (λ (placed : Placed). placed.change) (filter (λ (placed : Placed). bytes_eq placed.bay name) changes)
