use Rattle.turn_tests.specs.Seats.{StaysSeated}
use Rattle.turn_tests.proofs.workers.work.Given as goal

abbrev pub invariant-loop-number : goal.invariant-loop-number
invariant-loop-number g l = StaysSeated l.fn.worker.seat l.worker.seat
