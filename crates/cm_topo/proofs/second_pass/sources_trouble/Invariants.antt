use Rattle.std.proofs.Common.{◌≡◌, drop}
use Rattle.std.specs.List.{flat_map}
use Rattle.cm_topo.specs.SecondPass.{source_refers}
use Rattle.cm_topo.specs.Troubles.{first}
use Rattle.cm_topo.proofs.second_pass.sources_trouble.Given as goal

abbrev pub invariant-loop-source : goal.invariant-loop-source
invariant-loop-source l = first (flat_map (source_refers l.known l.name) l.sources) ≡ first (flat_map (source_refers l.known l.name) (drop l.source-index l.sources))
