use Rattle.std.proofs.Common.{All}
use Rattle.cm_net.specs.Boundaries.{IsSound}
use Rattle.ask_locations.proofs.making.boundaries.Given as goal

abbrev pub invariant-loop-number : goal.invariant-loop-number
invariant-loop-number l = All (λ row. IsSound row.1) l.rows.items
