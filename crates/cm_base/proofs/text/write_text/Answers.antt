use Rattle.std.proofs.Common.{arith, length-drop, ◌∙◌}
use Rattle.std.proofs.lemmas.List.{take_rest}
use Rattle.cm_base.proofs.Sunk.{gets_more, gets_front_more}
use Rattle.cm_base.proofs.text.write_text.Goals as goal

pub loop-at-preserved : goal.loop-at-preserved
loop-at-preserved g c = record {
  within = omega (arith, simp take_rest at c.in-Ok.ensures.fits, length-drop c.loop-at.at c.args.text.now);
  told = gets_more _ _ _ c.args.text.now c.loop-at.at c.in-Ok.count c.loop-at.invariant.told (simp take_rest at c.in-Ok.ensures.taken);
  beside = c.in-Ok.ensures.kept ∙ c.loop-at.invariant.beside;
  later = omega (arith, c.in-Ok.ensures.cause.later, c.loop-at.invariant.later);
}

pub returns-in-Err-clause-front : goal.returns-in-Err-clause-front
returns-in-Err-clause-front g c = gets_front_more _ _ _ c.args.text.now c.loop-at.at c.loop-at.invariant.told (simp take_rest at c.in-Err.ensures.failed)
