use Rattle.cm_register.proofs.GoesOn.{look_goes_on}
use Rattle.cm_register.proofs.laws.a_topology_more_is_read.Goals as goal

pub returns : goal.returns
returns c = look_goes_on
