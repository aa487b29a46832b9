use Rattle.std.proofs.Common.{◌≡◌, ◌++◌, take, drop}
use Rattle.cm_contents.specs.Contents.{with_told}
use Rattle.cm_contents.proofs.told.told_place.Given as goal

abbrev pub invariant-loop-i : goal.invariant-loop-i
invariant-loop-i l = with_told l.row l.rows ≡ take l.i l.rows ++ with_told l.row (drop l.i l.rows)
