use Rattle.cm_topo.proofs.Sound.{none_wants_memory}
use Rattle.cm_topo.proofs.meaning.no_text_wants_memory.Goals as goal

pub returns : goal.returns
returns c = none_wants_memory
