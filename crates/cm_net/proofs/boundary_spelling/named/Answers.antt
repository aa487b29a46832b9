use Rattle.cm_net.proofs.SiteTexts.{folded_again}
use Rattle.cm_net.proofs.boundary_spelling.named.Goals as goal

pub returns-clause-spelled : goal.returns-clause-spelled
returns-clause-spelled c = folded_again c.args.name.now (rw c.as_bytes.ensures.value at c.as_bytes.ensures.folded)
