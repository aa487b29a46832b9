use Rattle.std.proofs.Common.{◌-◌, arith}
use Rattle.cm_net.specs.declared.boundary.Boundary.TheVariants.{Prefix6}
use Rattle.cm_net.specs.Boundaries.{IsSound}
use Rattle.cm_net.proofs.Bits.{prefix_is, net_fits}
use Rattle.cm_net.proofs.span.ends6.Goals as goal

pub overflow_add-result : goal.overflow_add-result
overflow_add-result c =
    let sound : IsSound (Prefix6 c.in-Prefix6.net c.in-Prefix6.bits) = rw c.in-Prefix6.is at c.requires in
    let fits = net_fits c.in-Prefix6.net 128 (128 - c.in-Prefix6.bits) (omega arith) (omega arith) sound.1 in
    omega (arith, fits, rw c.from.ensures at c.ones.ensures)

pub returns-in-Prefix6-clause-ends : goal.returns-in-Prefix6-clause-ends
returns-in-Prefix6-clause-ends c = λ address small. prefix_is _ c.in-Prefix6.net c.in-Prefix6.bits _ address c.in-Prefix6.is c.requires (rw c.from.ensures at c.ones.ensures)
