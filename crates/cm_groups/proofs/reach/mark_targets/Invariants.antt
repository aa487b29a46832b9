use Rattle.std.proofs.Common.{◌≡◌, ℕ, ◌==◌, ◌&&◌, ◌||◌, length, take}
use Rattle.std.specs.List.{list_any}
use Rattle.cm_groups.specs.Marked.{is_marked}
use Rattle.cm_groups.specs.Reach.{counts}
use Rattle.cm_groups.proofs.reach.mark_targets.Given as goal

abbrev pub invariant-loop-relation : goal.invariant-loop-relation
invariant-loop-relation l =
    ((number : ℕ) → is_marked l.marks number ≡ (is_marked l.initial.marks number || list_any (λ relation. relation.0 == number && counts l.elapsed relation.1) (take l.relation-index l.relation-items)))
    × (length l.marks ≡ length l.initial.marks)
