use Rattle.cm_topo.proofs.Given.{topology_is}
use Rattle.cm_topo.proofs.reading.topology_of.Goals as goal

pub returns : goal.returns
returns c =
    topology_is c.args.text c.items-rows.result.now c.items-group_count.result.now c.into_items.result.items c.into_items-2.result.items c.in_ok-groups.groups
    c.items-rows.ensures c.items-group_count.ensures c.into_items.ensures c.into_items-2.ensures c.in_ok-groups.ensures
