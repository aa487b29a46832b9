use Rattle.cm_groups.proofs.LaterMinutes.{reached_still}
use Rattle.cm_groups.proofs.laws.minutes_take_no_group_away.Goals as goal

pub returns : goal.returns
returns c = reached_still
