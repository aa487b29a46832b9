use Rattle.std.proofs.Common.{◌≡◌, drop}
use Rattle.cm_topo.specs.SecondPass.{group_relations_refer}
use Rattle.cm_topo.specs.Troubles.{each_entry, first}
use Rattle.cm_topo.proofs.second_pass.relations_fault.Given as goal

abbrev pub invariant-loop-entry : goal.invariant-loop-entry
invariant-loop-entry l = first (each_entry 3 (group_relations_refer l.known) 0 l.texts) ≡ first (each_entry 3 (group_relations_refer l.known) l.entry (drop l.entry l.texts))
