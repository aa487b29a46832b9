use Rattle.cm_locate.proofs.KindsApart.{answers_same}
use Rattle.cm_locate.proofs.laws.one_answer.Goals as goal

pub returns : goal.returns
returns c = answers_same
