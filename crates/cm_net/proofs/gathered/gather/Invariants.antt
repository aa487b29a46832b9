use Rattle.std.proofs.Common.{take}
use Rattle.cm_net.specs.Gathered.{IsGatheredOf}
use Rattle.cm_net.specs.Groups.{rows_in}
use Rattle.cm_net.proofs.gathered.gather.Given as goal

abbrev pub invariant-loop-boundaries : goal.invariant-loop-boundaries
invariant-loop-boundaries l = IsGatheredOf (rows_in (take l.boundaries-index l.lists)) l.gathered
