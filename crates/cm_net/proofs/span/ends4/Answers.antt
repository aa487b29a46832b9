use Rattle.cm_net.proofs.Bits.{subnet_is}
use Rattle.cm_net.proofs.span.ends4.Goals as goal

pub returns-in-Subnet-clause-ends : goal.returns-in-Subnet-clause-ends
returns-in-Subnet-clause-ends c = λ address small. rw c.from-net.ensures (subnet_is _ c.in-Subnet.net c.in-Subnet.bits _ address c.in-Subnet.is c.requires (rw c.from.ensures at c.ones.ensures))
