-- The row of a point that has a rank.
use Rattle.std.proofs.Common.{◌∙◌, sym}
use Rattle.cm_locate.proofs.PointRow.{ranked_row}
use Rattle.cm_locate.proofs.client.Client.point_row.Goals as goal

pub returns-in-Some : goal.returns-in-Some
returns-in-Some c =
    ranked_row c.args.self.now.groups.now c.args.installed.now c.args.self.now.ask.now c.args.point.now c.in-Some.rank
    (sym c.if-not-is_installed.false ∙ c.is_installed.ensures) (sym c.point_rank.ensures ∙ c.in-Some.is)
