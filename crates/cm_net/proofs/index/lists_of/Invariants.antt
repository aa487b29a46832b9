use Rattle.std.proofs.Common.{◌≡◌, ◌∷◌, [], map, take}
use Rattle.cm_net.proofs.index.lists_of.Given as goal

abbrev pub invariant-loop-boundary : goal.invariant-loop-boundary
invariant-loop-boundary l = l.lists.items ≡ map (λ row. (row.0 ∷ [], row.1)) (take l.boundary-index l.rows)
