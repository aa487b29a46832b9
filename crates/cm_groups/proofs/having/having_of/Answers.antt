use Rattle.std.proofs.Common.{arith}
use Rattle.cm_groups.proofs.Pointed.{all_pointed}
use Rattle.cm_groups.proofs.having.having_of.Goals as goal

pub returns : goal.returns
returns c = λ name number. all_pointed c.args.groups.now c.loop-number.number number name _ (omega arith) (c.loop-number.invariant name number)
