-- Why a topology is refused: a list of causes in their order, of which the first that holds decides.
use Rattle.std.specs.Prelude.{ℕ, ◌+◌, ◌-◌, ◌^◌, ◌==◌, ◌||◌, nat_lt, not, cond, Bool, List, [], ◌∷◌, find, length, Option, None, Some, option_map, Result, Ok, Err}
use Rattle.cm_points.specs.declared.point.Point.{Point}
use Rattle.cm_register.specs.AfterNote.{after_topology}
use Rattle.cm_register.specs.Records.{Records, has_point}
use Rattle.cm_register.specs.declared.target.TargetRow.{TargetRow}
use Rattle.cm_topo.specs.declared.fault.TopoFault.{TopoFault}
use Rattle.cm_topo.specs.declared.fault.TopoFault.TheVariants as topo
use Rattle.cm_topo.specs.declared.topology.Topology.{Topology}
use Rattle.cm_site.specs.declared.reply.Refusal.{Refusal}
use Rattle.cm_site.specs.declared.reply.Refusal.TheVariants.{NoBay, TooManyTargets, NotToml, WrongShape, TopologyRule, PointInUse, InputTooLong, Spent}
use Rattle.cm_site.specs.Opening.{without_bay}
use Rattle.cm_site.specs.Worlds.{World, Kept}

-- a refusal, where a test holds
abbrev pub when : Bool → Refusal → Option Refusal
when test refusal = cond test (Some refusal) None

-- the first of a list that holds
abbrev pub first_of : List (Option Refusal) → Option Refusal
first_of [] = None
first_of (None ∷ refusals) = first_of refusals
first_of (Some refusal ∷ refusals) = Some refusal

-- the first fault of a text; want of memory is no refusal
abbrev pub text_refusal : Result Topology TopoFault → Option Refusal
text_refusal (Ok topology) = None
text_refusal (Err topo.NotToml) = Some NotToml
text_refusal (Err (topo.WrongShape part entry)) = Some (WrongShape part entry)
text_refusal (Err (topo.Rule rule part entry)) = Some (TopologyRule rule part entry)
text_refusal (Err topo.Memory) = None

-- the points of a topology
abbrev pub points_in : Result Topology TopoFault → List Point
points_in (Ok topology) = topology.points
points_in (Err fault) = []

-- the first point, by name, that has a target and is not among these
abbrev pub in_use : List Point → Records → Option (List ℕ)
in_use points records = option_map (λ (row : TargetRow). row.point) (find (λ (row : TargetRow). not (has_point points row.point)) records.targets)

-- the records under what a text says
abbrev pub records_under : Result Topology TopoFault → Records → Records
records_under (Ok topology) records = after_topology (records.number + 1) 0 topology records
records_under (Err fault) records = records

abbrev pub too_many_rows : Records → Option Refusal
too_many_rows records = when (nat_lt 400000 (length records.targets) || nat_lt 400000 (length records.sent)) TooManyTargets

-- the records' log has no room for the records of a command and of the jobs that follow
abbrev pub has_no_room : Kept → Bool
has_no_room kept = nat_lt (2 ^ 40 - 134217728) kept.gate

-- by the text's number of bytes, and what it says
abbrev pub topology_refusals : ℕ → Result Topology TopoFault → Kept → World → Option Refusal
topology_refusals size said kept world = first_of (
    when (nat_lt 4194304 size) InputTooLong
    ∷ text_refusal said
    ∷ option_map NoBay (without_bay (points_in said) world)
    ∷ option_map PointInUse (in_use (points_in said) kept.records)
    ∷ too_many_rows (records_under said kept.records)
    ∷ when (has_no_room kept || kept.records.number == 2 ^ 32 - 1) Spent
    ∷ [])
