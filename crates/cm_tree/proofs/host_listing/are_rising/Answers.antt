use Rattle.std.proofs.Common.{sym, ◌∙◌}
use Rattle.cm_tree.proofs.Listing.{rises_on}
use Rattle.cm_tree.proofs.host_listing.are_rising.Goals as goal

pub loop-i-preserved : goal.loop-i-preserved
loop-i-preserved c =
    rises_on c.args.paths.now c.loop-i.i c.index-paths-i.result c.index-paths-i-in-loop-i.result c.loop-i.auto.i c.loop-i-test.true c.index-paths-i.is c.index-paths-i-in-loop-i.is
    (sym c.stands_before.ensures ∙ c.if-not-stands_before.false) c.loop-i.invariant
