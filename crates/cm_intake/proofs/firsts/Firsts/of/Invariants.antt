use Rattle.std.proofs.Common.{take}
use Rattle.cm_intake.specs.Firsts.{AreFirsts}
use Rattle.cm_intake.proofs.firsts.Firsts.of.Given as goal

abbrev pub invariant-loop-number : goal.invariant-loop-number
invariant-loop-number l = AreFirsts l.firsts (take l.number l.entries)
