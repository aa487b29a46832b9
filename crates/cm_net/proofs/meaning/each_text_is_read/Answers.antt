use Rattle.cm_net.proofs.RightReading.{address_is, boundary_is}
use Rattle.cm_net.proofs.meaning.each_text_is_read.Goals as goal

pub returns-clause-address : goal.returns-clause-address
returns-clause-address c = address_is

pub returns-clause-boundary : goal.returns-clause-boundary
returns-clause-boundary c = boundary_is
