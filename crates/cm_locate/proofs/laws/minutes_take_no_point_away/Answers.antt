use Rattle.cm_locate.proofs.Later.{point_still}
use Rattle.cm_locate.proofs.laws.minutes_take_no_point_away.Goals as goal

pub returns : goal.returns
returns c = point_still c.minutes_take_no_group_away.ensures
