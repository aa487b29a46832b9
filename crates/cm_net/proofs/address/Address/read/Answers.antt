use Rattle.std.proofs.Common.{arith}
use Rattle.cm_net.proofs.Fronts.{address_place}
use Rattle.cm_net.proofs.address.Address.read.Goals as goal

pub overflow_cast-result : goal.overflow_cast-result
overflow_cast-result c = omega (arith, address_place _ _ c.in-Err.ensures)
