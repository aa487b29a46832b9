use Rattle.std.proofs.Common.{arith, sym, ◌∙◌}
use Rattle.cm_net.proofs.SiteTexts.{leaves_at_byte, leaves_long, leaves_nothing}
use Rattle.cm_net.proofs.site_text.end_of_name.Goals as goal

pub returns-then-at-eq63-clause-leaves : goal.returns-then-at-eq63-clause-leaves
returns-then-at-eq63-clause-leaves c = leaves_long c.args.text.now c.loop-at.at c.requires c.loop-at-test.true c.if-at-eq63.true c.loop-at.invariant.all

pub returns-clause-leaves : goal.returns-clause-leaves
returns-clause-leaves c = leaves_nothing c.args.text.now c.loop-at.at c.requires c.loop-at-test.false (omega arith) c.loop-at.invariant.few c.loop-at.invariant.all

pub returns-then-not-is_name_byte-clause-leaves : goal.returns-then-not-is_name_byte-clause-leaves
returns-then-not-is_name_byte-clause-leaves c =
    leaves_at_byte c.args.text.now c.loop-at.at c.requires c.loop-at-test.true c.loop-at.invariant.few c.loop-at.invariant.all (rw c.folded.ensures at (sym c.is_name_byte.ensures ∙ c.if-not-is_name_byte.true))
