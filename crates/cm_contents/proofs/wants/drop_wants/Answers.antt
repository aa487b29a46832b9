use Rattle.cm_contents.proofs.Wanting.{at_apart}
use Rattle.cm_contents.proofs.wants.drop_wants.Goals as goal

pub returns-clause-gone : goal.returns-clause-gone
returns-clause-gone c = c.remove-dropped.ensures.updates.1

pub returns-clause-others : goal.returns-clause-others
returns-clause-others c other apart = c.remove-dropped.ensures.updates.2 other (at_apart c.args.job other apart)
