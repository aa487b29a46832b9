use Rattle.cm_disk.proofs.Rises.{nearer}
use Rattle.cm_disk.proofs.laws.a_place_above_is_nearer_to_the_end.Goals as goal

pub returns : goal.returns
returns c = nearer
