use Rattle.cm_register.proofs.Same.{looks_same}
use Rattle.cm_register.proofs.laws.the_log_and_its_texts_decide.Goals as goal

pub returns : goal.returns
returns c = looks_same
