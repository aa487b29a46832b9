use Rattle.std.proofs.Common.{sym, ◌∙◌}
use Rattle.cm_site.proofs.MakingAll.{not_meant}
use Rattle.cm_site.proofs.init.make_meant.Goals as goal

pub returns-else-is_meant-clause-made : goal.returns-else-is_meant-clause-made
returns-else-is_meant-clause-made g c =
    let d = g.D.Disk in
    not_meant d.reads d.may_leave d.moment d.left_since g.met.D.Disk.only_now c.args.names.now c.args.bay.now.name c.args.bay.now.disk (sym c.is_meant.ensures ∙ c.if-is_meant.false)
