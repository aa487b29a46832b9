use Rattle.std.proofs.Common.{◌≡◌, drop, take}
use Rattle.cm_topo.specs.SecondPass.{relation_refers, relations_refer}
use Rattle.cm_topo.specs.Troubles.{first, numbered}
use Rattle.cm_topo.proofs.second_pass.relations_trouble.Given as goal

abbrev pub invariant-loop-number : goal.invariant-loop-number
invariant-loop-number l =
    first (relations_refer l.known l.name l.relations)
    ≡ first (numbered (λ number relation. relation_refers l.known l.name (take number l.relations) relation.0) l.number (drop l.number l.relations))
