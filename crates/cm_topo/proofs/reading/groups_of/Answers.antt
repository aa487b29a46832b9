use Rattle.std.proofs.Common.{ap, arith, length}
use Rattle.cm_topo.proofs.Given.{few_texts}
use Rattle.cm_topo.proofs.reading.groups_of.Goals as goal

pub returns-clause-few : goal.returns-clause-few
returns-clause-few c = record {
  boundaries = omega (arith, ap length c.of.ensures, c.in_ok-boundaries.ensures.few);
  groups = omega (arith, ap length c.of-2.ensures, few_texts c.in_ok-groups-2.groups.items c.in_ok-groups.groups.items c.in_ok-relations.relations.items c.in_ok-groups-2.ensures, c.in_ok-groups.ensures.few);
}
