use Rattle.std.proofs.Common.{◌≡◌, ℕ, ◌==◌, ◌&&◌, ◌||◌, List, take}
use Rattle.cm_groups.specs.Having.{has_group}
use Rattle.cm_groups.specs.Names.{is_among}
use Rattle.cm_groups.proofs.having.add_points.Given as goal

abbrev pub invariant-loop-point : goal.invariant-loop-point
invariant-loop-point l = (name : List ℕ) (other : ℕ) → has_group l.having name other ≡ (has_group l.initial.having name other || (is_among (take l.point-index l.points) name && l.number == other))
