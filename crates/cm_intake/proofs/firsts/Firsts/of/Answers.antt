use Rattle.std.proofs.Common.{ℕ, ap, ◌∙◌, ◌∷◌, []}
use Rattle.std.specs.Prelude.{Option}
use Rattle.cm_intake.specs.Firsts.{found_number}
use Rattle.cm_intake.proofs.FirstNumbers.{numbered_next}
use Rattle.cm_intake.proofs.firsts.Firsts.of.Goals as goal

pub loop-number-preserved : goal.loop-number-preserved
loop-number-preserved c hash =
    let n = c.loop-number.number in
    let entry = c.index-entries-number.result in
    c.in_ok-add.ensures hash ∙ ap (λ (number : Option ℕ). found_number number hash n (entry ∷ [])) (c.loop-number.invariant hash)
    ∙ numbered_next hash c.args.entries.now n entry c.loop-number-test.true c.index-entries-number.is
