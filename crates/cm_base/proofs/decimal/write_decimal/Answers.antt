use Rattle.std.proofs.Common.{ℕ, ◌≤◌, ◌<◌, ◌^◌, List, ◌++◌, ◌∙◌, ap, arith, length-set}
use Rattle.std.specs.Fmt.{decimal}
use Rattle.std.proofs.lemmas.Fmt.{length-decimal-le}
use Rattle.std.proofs.lemmas.List.{drop_all, append-nil}
use Rattle.cm_base.proofs.Decimals.{has_digit, one_digit_less, one_more, last_one}
use Rattle.cm_base.proofs.decimal.write_decimal.Goals as goal

pub loop-left-init : goal.loop-left-init
loop-left-init c = record {
  text = ap (λ (l : List ℕ). decimal c.args.number ++ l) (drop_all 10 c.args.out.now (omega (arith, c.told-out))) ∙ append-nil (decimal c.args.number);
  room = length-decimal-le 10 c.args.number (omega arith) (omega (arith, c.ranges.number)) (omega (arith, c.ranges.number));
  within = omega arith;
  long = c.told-out;
}

pub overflow_sub-at : goal.overflow_sub-at
overflow_sub-at c =
    let small : c.loop-left.left < 2 ^ 32 = omega (arith, c.loop-left.auto.left-fits) in
    omega (arith, has_digit c.loop-left.left small, c.loop-left.invariant.room)

pub loop-left-preserved : goal.loop-left-preserved
loop-left-preserved c =
    let now = c.loop-left.invariant in
    let small : c.loop-left.left < 2 ^ 32 = omega (arith, c.loop-left.auto.left-fits) in
    let some : 1 ≤ c.loop-left.at = omega (arith, has_digit c.loop-left.left small, now.room) in
    record {
      text = one_more c.loop-left.left c.loop-left.at c.loop-left.out c.loop-left-test.true small some (omega (arith, now.long, now.within)) ∙ now.text;
      room = omega (arith, now.room, one_digit_less c.loop-left.left c.loop-left-test.true small);
      within = omega (arith, now.within);
      long = length-set _ _ _ ∙ now.long;
    }

pub overflow_sub-at-2 : goal.overflow_sub-at-2
overflow_sub-at-2 c =
    let small : c.loop-left.left < 2 ^ 32 = omega (arith, c.loop-left.auto.left-fits) in
    omega (arith, has_digit c.loop-left.left small, c.loop-left.invariant.room)

pub returns-clause-text : goal.returns-clause-text
returns-clause-text c =
    let now = c.loop-left.invariant in
    let small : c.loop-left.left < 2 ^ 32 = omega (arith, c.loop-left.auto.left-fits) in
    let some : 1 ≤ c.loop-left.at = omega (arith, has_digit c.loop-left.left small, now.room) in
    last_one c.loop-left.left c.loop-left.at c.loop-left.out c.loop-left-test.false some (omega (arith, now.long, now.within)) ∙ now.text
