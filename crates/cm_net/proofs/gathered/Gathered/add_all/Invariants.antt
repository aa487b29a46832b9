use Rattle.std.proofs.Common.{ℕ, List, ◌++◌, map, take}
use Rattle.cm_net.specs.declared.boundary.Boundary.{Boundary}
use Rattle.cm_net.specs.Gathered.{IsGatheredOf}
use Rattle.cm_net.proofs.gathered.Gathered.add_all.Given as goal

abbrev pub invariant-loop-boundary : goal.invariant-loop-boundary
invariant-loop-boundary l = (rows : List (Boundary × ℕ)) → IsGatheredOf rows l.initial.self → IsGatheredOf (rows ++ map (λ boundary. (boundary, l.group)) (take l.boundary-index l.boundaries)) l.self
