use Rattle.cm_locate.proofs.KindsApart.{kind_is}
use Rattle.cm_locate.proofs.laws.kinds_share_no_rank.Goals as goal

pub returns : goal.returns
returns c = kind_is
