use Rattle.cm_topo.proofs.Sound.{each_is_sound}
use Rattle.cm_topo.proofs.meaning.each_topology_is_sound.Goals as goal

pub returns : goal.returns
returns c = each_is_sound
