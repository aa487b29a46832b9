use Rattle.std.proofs.Common.{◌∙◌, arith}
use Rattle.cm_groups.specs.Reach.{leads_to_default}
use Rattle.cm_groups.proofs.Has.{passes_at}
use Rattle.cm_groups.proofs.reach.passes_default.Goals as goal

pub returns : goal.returns
returns c =
    c.leads_to_default.ensures
    ∙ passes_at (leads_to_default c.args.elapsed) c.args.groups.now c.args.number c.from.result c.index-groups-from.result c.requires (omega arith) c.index-groups-from.is
