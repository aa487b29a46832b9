use Rattle.std.proofs.Common.{◌+◌, ◌≤◌}
use Rattle.cm_base.specs.Fed.{count_of}
use Rattle.tree_tests.proofs.base.digits.Given as goal

abbrev pub invariant-loop-piece : goal.invariant-loop-piece
invariant-loop-piece g l = count_of l.hasher + l.left ≤ 1048576
