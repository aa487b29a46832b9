use Rattle.cm_locate.proofs.Later.{peer_stays, point_stays}
use Rattle.cm_locate.proofs.laws.sources_of_current_groups_stay.Goals as goal

pub returns-clause-points : goal.returns-clause-points
returns-clause-points c = point_stays

pub returns-clause-peers : goal.returns-clause-peers
returns-clause-peers c = peer_stays
