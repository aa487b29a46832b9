use Rattle.std.proofs.Common.{drop}
use Rattle.cm_site.specs.Bays.{AreDistinct, names_of}
use Rattle.command_tests.proofs.bays.are_distinct.Given as goal

abbrev pub invariant-loop-at : goal.invariant-loop-at
invariant-loop-at g l = AreDistinct (names_of (drop l.at l.bays)) → AreDistinct (names_of l.bays)
