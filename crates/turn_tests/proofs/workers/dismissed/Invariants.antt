use Rattle.std.proofs.Common.{◌≡◌, ◌+◌, All, vec_len}
use Rattle.turn_tests.proofs.workers.dismissed.Given as goal

abbrev pub invariant-loop-worker : goal.invariant-loop-worker
invariant-loop-worker l = (l.seat.at ≡ l.fn.seat.at) × (l.seat.view.parts + vec_len l.workers ≡ l.fn.seat.view.parts + vec_len l.fn.workers) × All (λ w. (w.seat.at ≡ l.turnstile) × (w.seat.view.parts ≡ 1)) l.workers.items

abbrev pub decreases-loop-worker : goal.decreases-loop-worker
decreases-loop-worker l = vec_len l.workers
