use Rattle.std.proofs.Common.{◌≡◌, ℕ, ◌||◌, List, drop}
use Rattle.cm_groups.specs.Having.{has_group, has_point}
use Rattle.cm_groups.proofs.CurrentRows.{passes_from}
use Rattle.cm_groups.proofs.having.having_of.Given as goal

abbrev pub invariant-loop-number : goal.invariant-loop-number
invariant-loop-number l = (name : List ℕ) (other : ℕ) → passes_from (has_point name) 0 l.groups other ≡ (has_group l.having name other || passes_from (has_point name) l.number (drop l.number l.groups) other)
