use Rattle.std.proofs.Common.{◌≤◌, ◌-◌, length}
use Rattle.cm_net.proofs.Halving.{IsNarrowed, WereHalved}
use Rattle.cm_net.proofs.halves.place_of.Given as goal

abbrev pub invariant-loop-low : goal.invariant-loop-low
invariant-loop-low g l =
    (l.low ≤ l.high) × (l.high ≤ length l.entries) × WereHalved (length l.entries) (l.high - l.low) l.initial.steps l.steps
    × IsNarrowed (λ entry. g.K.Ord.cmp entry.key l.key) l.entries l.low l.high

abbrev pub decreases-loop-low : goal.decreases-loop-low
decreases-loop-low g l = l.high - l.low
