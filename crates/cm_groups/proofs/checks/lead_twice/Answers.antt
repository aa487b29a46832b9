use Rattle.std.proofs.Common.{◌∙◌, sym, true, false, arith}
use Rattle.cm_groups.proofs.Repeats.{repeat_here}
use Rattle.cm_groups.proofs.checks.lead_twice.Goals as goal

pub returns-then-lead_to : goal.returns-then-lead_to
returns-then-lead_to c = sym (c.loop-i.invariant ∙ repeat_here _ c.loop-i.i c.index-relations-i.result true (omega arith) c.index-relations-i.is c.if-lead_to.ensures)

pub loop-i-preserved : goal.loop-i-preserved
loop-i-preserved c = c.loop-i.invariant ∙ repeat_here _ c.loop-i.i c.index-relations-i.result false (omega arith) c.index-relations-i.is c.if-lead_to.ensures
