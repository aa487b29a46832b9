-- One point more.
use Rattle.cm_locate.specs.Answers.{point_row}
use Rattle.cm_locate.proofs.RowsMade.{made_more}
use Rattle.cm_locate.proofs.client.Client.point_rows.Goals as goal

pub loop-point-preserved : goal.loop-point-preserved
loop-point-preserved c =
    made_more (point_row c.args.self.now.groups.now c.args.installed.now c.args.self.now.ask.now) c.args.points.now c.loop-point.point-index c.point-item.result c.point_row.result
    c.loop-point.rows.items c.add.new.rows.items c.loop-point-test.true c.point-item.is c.point_row.ensures c.in_ok-add.ensures c.loop-point.invariant
