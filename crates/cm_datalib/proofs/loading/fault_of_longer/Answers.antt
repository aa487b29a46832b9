use Rattle.std.proofs.Common.{◌∙◌}
use Rattle.cm_datalib.proofs.Fronts.{decoded-refused}
use Rattle.cm_datalib.proofs.loading.fault_of_longer.Goals as goal
use Rattle.cm_datalib.proofs.loading.fault_of_longer.Goals.{in-Ok, in-Err}

pub returns-clause-refused : goal.returns-clause-refused
returns-clause-refused c tail more =
    decoded-refused c.args.front.now c.requires tail more c.decode.result c.match-decode.result c.decode.ensures.exact
    (elim c.match-decode.branch [ in-Ok w ↦ rw w.in-Ok.is w.result-is | in-Err w ↦ rw w.in-Err.is (w.result-is ∙ w.of_tree.ensures) ])
