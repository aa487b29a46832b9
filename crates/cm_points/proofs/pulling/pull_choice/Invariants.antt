use Rattle.cm_points.specs.Pulls.{IsBest}
use Rattle.cm_points.proofs.pulling.pull_choice.Given as goal

abbrev pub invariant-loop-number : goal.invariant-loop-number
invariant-loop-number l = IsBest l.number l.sources l.usable l.choice
