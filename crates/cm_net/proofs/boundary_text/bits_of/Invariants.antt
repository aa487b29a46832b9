use Rattle.std.proofs.Common.{◌≡◌, Some, take}
use Rattle.cm_net.specs.FourReader.{start4, four_of, step4}
use Rattle.cm_net.specs.Machines.{run}
use Rattle.cm_net.proofs.boundary_text.bits_of.Given as goal

abbrev pub invariant-loop-byte : goal.invariant-loop-byte
invariant-loop-byte l = run step4 (Some start4) (take l.byte-index l.text) ≡ Some (four_of l.reader)
