use Rattle.cm_tree.proofs.Entries.{read_again}
use Rattle.cm_tree.proofs.laws.round_trip.Goals as goal

pub returns : goal.returns
returns c = λ entries m. read_again entries m
