use Rattle.std.proofs.Common.{◌≤◌, ◌-◌, All, length, take}
use Rattle.cm_net.specs.Spans.{AreReachesOf}
use Rattle.cm_net.proofs.reaches.begun_at.Given as goal

abbrev pub invariant-loop-begun : goal.invariant-loop-begun
invariant-loop-begun l = (l.begun ≤ length l.spans) × All (λ span. span.first ≤ l.address) (take l.begun l.spans) × AreReachesOf (take l.begun l.spans) l.reaches

abbrev pub decreases-loop-begun : goal.decreases-loop-begun
decreases-loop-begun l = length l.spans - l.begun
