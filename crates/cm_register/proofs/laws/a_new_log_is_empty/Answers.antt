use Rattle.cm_register.proofs.New.{new_is_empty}
use Rattle.cm_register.proofs.laws.a_new_log_is_empty.Goals as goal

pub returns : goal.returns
returns c = new_is_empty
