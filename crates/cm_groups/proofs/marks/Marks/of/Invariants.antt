use Rattle.std.proofs.Common.{◌≡◌, ℕ, ◌==◌, length, take}
use Rattle.std.specs.List.{list_any}
use Rattle.cm_groups.specs.Marked.{is_marked}
use Rattle.cm_groups.proofs.marks.Marks.of.Given as goal

abbrev pub invariant-loop-number : goal.invariant-loop-number
invariant-loop-number l = ((other : ℕ) → is_marked l.marks other ≡ list_any (λ each. each == other) (take l.number-index l.numbers)) × (length l.marks ≡ l.count)
