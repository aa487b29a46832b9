-- Why the bays of a site are not opened: the first cause, in the order of the bays.
use Rattle.std.specs.Prelude.{ℕ, not, List, [], ◌∷◌, find, Option, None, Some, option_map}
use Rattle.std.specs.Option.{option_map_or}
use Rattle.cm_points.specs.declared.point.Point.{Point}
use Rattle.cm_register.specs.Look.{Register, Missing as NoRecords, Opened as OpenedRecords, Unreadable as UnreadableRecords}
use Rattle.cm_register.specs.Records.{Records, points_of}
use Rattle.cm_state.specs.Look.{Library, Missing, Opened, Unreadable}
use Rattle.cm_site.specs.Contents.{Content, OfLibrary, OfRecords}
use Rattle.cm_site.specs.Worlds.{World, Part, Kept, has_library, records_of}

-- a bay that has no library or no records; one whose bytes are neither, at a place; a point of the topology that has no bay
pub data Closed : Type 0 where
  NoLibrary : List ℕ → Closed
  NotReadable : List ℕ → List ℕ → ℕ → Closed
  NoBayFor : List ℕ → Closed

abbrev pub closed_as : List ℕ → Content → Option Closed
closed_as name (OfLibrary Missing) = Some (NoLibrary name)
closed_as name (OfLibrary (Opened state)) = None
closed_as name (OfLibrary (Unreadable place at)) = Some (NotReadable name place at)
closed_as name (OfRecords NoRecords) = Some (NoLibrary name)
closed_as name (OfRecords (OpenedRecords records)) = None
closed_as name (OfRecords (UnreadableRecords place at)) = Some (NotReadable name place at)

-- the first point, in the topology's order, that has no library among the bays
abbrev pub without_bay : List Point → World → Option (List ℕ)
without_bay points world = option_map (λ (point : Point). point.name) (find (λ (point : Point). not (has_library point.name world)) points)

abbrev pub point_without_bay : Option Kept → World → Option (List ℕ)
point_without_bay None world = None
point_without_bay (Some kept) world = without_bay (points_of kept.records) world

abbrev pub or_else : Option Closed → Option Closed → Option Closed
or_else None second = second
or_else (Some first) second = Some first

-- the first bay that is not open
abbrev pub first_closed : World → Option Closed
first_closed [] = None
first_closed (part ∷ parts) = or_else (closed_as part.name part.content) (first_closed parts)

-- why the bays are not opened; None where they are
abbrev pub closed_in : World → Option Closed
closed_in world = or_else (first_closed world) (option_map NoBayFor (point_without_bay (records_of world) world))
