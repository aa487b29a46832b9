use Rattle.cm_state.proofs.WholeTrees.{trees_are_whole}
use Rattle.cm_state.proofs.laws.trees_are_whole.Goals as goal

pub returns : goal.returns
returns c = trees_are_whole
