use Rattle.std.proofs.Common.{◌≡◌, drop}
use Rattle.cm_topo.specs.SecondPass.{group_refers}
use Rattle.cm_topo.specs.Troubles.{each_entry, first}
use Rattle.cm_topo.proofs.second_pass.group_faults.Given as goal

abbrev pub invariant-loop-entry : goal.invariant-loop-entry
invariant-loop-entry l = first (each_entry 2 (group_refers l.known) 0 l.texts) ≡ first (each_entry 2 (group_refers l.known) l.entry (drop l.entry l.texts))
