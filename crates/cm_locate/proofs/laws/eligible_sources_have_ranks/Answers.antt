use Rattle.cm_locate.proofs.KindsApart.{peer_has_rank, point_has_rank}
use Rattle.cm_locate.proofs.laws.eligible_sources_have_ranks.Goals as goal

pub returns-clause-points : goal.returns-clause-points
returns-clause-points c = point_has_rank

pub returns-clause-peers : goal.returns-clause-peers
returns-clause-peers c = peer_has_rank
