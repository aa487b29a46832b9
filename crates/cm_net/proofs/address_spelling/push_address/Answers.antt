use Rattle.std.proofs.Common.{arith}
use Rattle.cm_net.proofs.Spelled.{four_spelled, six_spelled}
use Rattle.cm_net.proofs.address_spelling.push_address.Goals as goal

pub returns-in-V4-clause-spelled : goal.returns-in-V4-clause-spelled
returns-in-V4-clause-spelled g c = rw c.in-V4.is (four_spelled c.in-V4.number (omega arith))

pub returns-in-V6-clause-spelled : goal.returns-in-V6-clause-spelled
returns-in-V6-clause-spelled g c = rw c.in-V6.is (six_spelled c.in-V6.number (omega arith))
