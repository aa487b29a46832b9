use Rattle.cm_tree.proofs.Entries.{one_front}
use Rattle.cm_tree.proofs.laws.one_spelling.Goals as goal

pub returns : goal.returns
returns c = λ a b x y ma mb e. one_front a b x y ma mb e
