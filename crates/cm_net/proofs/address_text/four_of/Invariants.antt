use Rattle.std.proofs.Common.{◌≡◌, Some, take}
use Rattle.cm_net.specs.FourReader.{start4, four_of, step4}
use Rattle.cm_net.specs.Machines.{run}
use Rattle.cm_net.proofs.address_text.four_of.Given as goal

abbrev pub invariant-loop-at : goal.invariant-loop-at
invariant-loop-at l = run step4 (Some start4) (take l.at l.text) ≡ Some (four_of l.reader)
