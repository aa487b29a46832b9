use Rattle.std.proofs.Common.{arith}
use Rattle.cm_disk.proofs.walk.show_bytes.Goals as goal

pub returns : goal.returns
returns c i = omega (arith, c.type_inv.text i)
