use Rattle.cm_top.proofs.Statuses.{causes}
use Rattle.cm_top.proofs.running.run.Goals as goal

pub returns-clause-causes : goal.returns-clause-causes
returns-clause-causes g c = causes _ _ _ _ _ _ _ _ _ _ _ _ _ _ c.run_words.ensures
