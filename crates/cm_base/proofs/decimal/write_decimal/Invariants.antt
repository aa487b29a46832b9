use Rattle.std.proofs.Common.{◌≡◌, ◌≤◌, ◌++◌, drop, length}
use Rattle.std.specs.Fmt.{decimal}
use Rattle.cm_base.proofs.decimal.write_decimal.Given as goal

abbrev pub invariant-loop-left : goal.invariant-loop-left
invariant-loop-left l = record {
  text : decimal l.left ++ drop l.at l.out ≡ decimal l.number;
  room : length (decimal l.left) ≤ l.at;
  within : l.at ≤ 10;
  long : length l.out ≡ 10;
}

abbrev pub decreases-loop-left : goal.decreases-loop-left
decreases-loop-left l = l.left
