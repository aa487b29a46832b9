use Rattle.cm_site.proofs.Others.{AreOther}
use Rattle.cm_site.proofs.topology.records_at.Given as goal

abbrev pub invariant-loop-at : goal.invariant-loop-at
invariant-loop-at g l = AreOther l.fn.bay l.at l.fn.members
