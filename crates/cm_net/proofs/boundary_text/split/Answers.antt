use Rattle.std.proofs.Common.{take_all}
use Rattle.std.proofs.lemmas.List.{take_more}
use Rattle.cm_net.proofs.FreeTexts.{free_push}
use Rattle.cm_net.proofs.boundary_text.split.Goals as goal

pub loop-at-preserved : goal.loop-at-preserved
loop-at-preserved c = rw (take_more c.args.text.now c.loop-at.at 0 c.loop-at-test.true) (free_push c.args.separator _ _ c.loop-at.invariant c.if-text-at.false)

pub returns-clause-free : goal.returns-clause-free
returns-clause-free c = rw (take_all c.loop-at.at c.args.text.now c.loop-at-test.false) at c.loop-at.invariant
