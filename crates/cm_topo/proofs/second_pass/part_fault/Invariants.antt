use Rattle.std.proofs.Common.{◌≡◌, drop}
use Rattle.cm_topo.specs.Troubles.{each_entry, first}
use Rattle.cm_topo.proofs.second_pass.part_fault.Given as goal

abbrev pub invariant-loop-entry : goal.invariant-loop-entry
invariant-loop-entry g l = first (each_entry l.part (g.R.Refers.refers l.known) 0 l.rows) ≡ first (each_entry l.part (g.R.Refers.refers l.known) l.entry (drop l.entry l.rows))
