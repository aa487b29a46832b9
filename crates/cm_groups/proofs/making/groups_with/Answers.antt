use Rattle.std.proofs.Common.{◌∙◌}
use Rattle.cm_groups.proofs.Held.{all_made}
use Rattle.cm_groups.proofs.making.groups_with.Goals as goal

pub returns : goal.returns
returns c =
    c.in_ok-insert.ensures.items
    ∙ all_made c.args.groups.now c.args.default_points.items c.args.rows.now c.args.texts.items c.deref.result.now c.args.lists.items c.in_ok-leads.leads.items c.default_group.result c.in_ok-made.made.items
    c.requires.held c.deref.ensures.value c.in_ok-leads.ensures c.in_ok-made.ensures c.default_group.ensures
