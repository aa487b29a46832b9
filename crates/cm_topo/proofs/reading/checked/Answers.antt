use Rattle.cm_topo.proofs.Given.{checked-fault, checked-topology}
use Rattle.cm_topo.proofs.reading.checked.Goals as goal

pub returns-in-Some-clause-wrong : goal.returns-in-Some-clause-wrong
returns-in-Some-clause-wrong c = λ _. checked-fault c.in_ok-known.known c.args.text c.in-Some.fault c.in_ok-known.ensures c.in-Some.ensures

pub returns-clause-said : goal.returns-clause-said
returns-clause-said c = checked-topology c.in_ok-known.known c.args.text c.in_ok-topology_of.field-0 c.in_ok-known.ensures c.in_default.ensures c.in_ok-topology_of.ensures
