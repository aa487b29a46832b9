use Rattle.std.proofs.Common.{arith}
use Rattle.cm_net.proofs.Hex.{four_digits}
use Rattle.cm_net.proofs.six_reader.SixReader.go_on.Goals as goal

pub overflow_mul-self : goal.overflow_mul-self
overflow_mul-self c = omega (arith, four_digits c.args.self.now.digits c.args.self.now.number (omega arith) c.args.self.now.fits)

pub overflow_add-self : goal.overflow_add-self
overflow_add-self c = omega (arith, four_digits c.args.self.now.digits c.args.self.now.number (omega arith) c.args.self.now.fits, c.from.ensures)
