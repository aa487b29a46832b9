use Rattle.std.proofs.Common.{◌≡◌, ℕ, length, take}
use Rattle.cm_groups.specs.Marked.{is_marked}
use Rattle.cm_groups.specs.Reach.{leads_to, some_current}
use Rattle.cm_groups.proofs.reach.targets_of.Given as goal

abbrev pub invariant-loop-number : goal.invariant-loop-number
invariant-loop-number l =
    ((number : ℕ) → is_marked l.marks number ≡ some_current (leads_to l.elapsed number) l.groups (take l.number-index l.current)) × (length l.marks ≡ length l.groups)
