use Rattle.std.proofs.Common.{◌≡◌, ◌≤◌, ◌++◌, ◌-◌, ℕ, List, [], length, option_map}
use Rattle.cm_site.proofs.topology.read_input.Given as goal

abbrev pub invariant-loop-text : goal.invariant-loop-text
invariant-loop-text g l =
    (option_map (λ (left : List ℕ). l.text.items ++ left) (g.S.Source.left l.input) ≡ option_map (λ (left : List ℕ). [] ++ left) (g.S.Source.left l.fn.input))
    × (length l.text.items ≤ 4194305) × (g.S.Source.faults l.fn.input ≤ g.S.Source.faults l.input)

abbrev pub decreases-loop-text : goal.decreases-loop-text
decreases-loop-text g l = 4194305 - length l.text.items
