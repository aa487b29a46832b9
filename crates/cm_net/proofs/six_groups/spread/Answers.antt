use Rattle.cm_net.proofs.Spread.{spread_is}
use Rattle.cm_net.proofs.six_groups.spread.Goals as goal

pub returns : goal.returns
returns c = spread_is c.args.left.now c.args.right.now _ _ c.requires c.copy_from_slice.ensures.after c.copy_from_slice-2.ensures.after
