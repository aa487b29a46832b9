use Rattle.cm_net.proofs.OneMeaning.{one_address, one_boundary}
use Rattle.cm_net.proofs.meaning.one_meaning.Goals as goal

pub returns-clause-address : goal.returns-clause-address
returns-clause-address c = one_address

pub returns-clause-boundary : goal.returns-clause-boundary
returns-clause-boundary c = one_boundary
