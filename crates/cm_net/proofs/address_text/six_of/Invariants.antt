use Rattle.std.proofs.Common.{◌≡◌, Some, take}
use Rattle.cm_net.specs.SixReader.{start6, six_of, step6}
use Rattle.cm_net.specs.Machines.{run}
use Rattle.cm_net.proofs.address_text.six_of.Given as goal

abbrev pub invariant-loop-at : goal.invariant-loop-at
invariant-loop-at l = run step6 (Some start6) (take l.at l.text) ≡ Some (six_of l.reader)
