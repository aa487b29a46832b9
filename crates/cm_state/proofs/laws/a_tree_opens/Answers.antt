use Rattle.cm_state.proofs.WholeTrees.{trees_open}
use Rattle.cm_state.proofs.laws.a_tree_opens.Goals as goal

pub returns : goal.returns
returns c = trees_open
