use Rattle.std.proofs.Common.{◌≡◌, take}
use Rattle.cm_locate.specs.Answers.{point_rows}
use Rattle.cm_locate.proofs.client.Client.point_rows.Given as goal

abbrev pub invariant-loop-point : goal.invariant-loop-point
invariant-loop-point l = l.rows.items ≡ point_rows l.self.groups.now l.installed l.self.ask.now (take l.point-index l.points)
