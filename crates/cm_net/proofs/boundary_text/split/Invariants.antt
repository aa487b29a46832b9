use Rattle.std.proofs.Common.{take}
use Rattle.cm_net.specs.Free.{IsFree}
use Rattle.cm_net.proofs.boundary_text.split.Given as goal

abbrev pub invariant-loop-at : goal.invariant-loop-at
invariant-loop-at l = IsFree l.separator (take l.at l.text)
