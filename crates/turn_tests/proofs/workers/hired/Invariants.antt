use Rattle.std.proofs.Common.{◌≡◌, ◌+◌, All, vec_len}
use Rattle.turn_tests.proofs.workers.hired.Given as goal

abbrev pub invariant-loop-number : goal.invariant-loop-number
invariant-loop-number l = (l.seat.at ≡ l.fn.seat.at) × (l.seat.view.parts + vec_len l.workers ≡ l.fn.seat.view.parts) × (vec_len l.workers ≡ l.number) × All (λ w. (w.seat.at ≡ l.turnstile) × (w.seat.view.parts ≡ 1)) l.workers.items
