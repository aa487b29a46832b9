use Rattle.std.proofs.Common.{◌≡◌, drop}
use Rattle.std.specs.BTreeMap.{get}
use Rattle.std.specs.List.{position_from}
use Rattle.cm_groups.proofs.names.places_of.Given as goal

abbrev pub invariant-loop-i : goal.invariant-loop-i
invariant-loop-i g l = (name : g.row.K.Denot) → get g.K.Ord.cmp l.places name ≡ position_from (λ other. g.K.PartialEq.eq other name) l.i (drop l.i l.names)
