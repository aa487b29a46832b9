use Rattle.cm_net.proofs.Halving.{three_steps, one_step}
use Rattle.index_tests.proofs.boundaries.is_found.Goals as goal

pub returns-clause-three_rows : goal.returns-clause-three_rows
returns-clause-three_rows g c = three_steps c.args.address c.args.index.now _ _ c.of.ensures.steps

pub returns-clause-no_row : goal.returns-clause-no_row
returns-clause-no_row g c = one_step c.args.address c.args.index.now _ _ c.of.ensures.steps
