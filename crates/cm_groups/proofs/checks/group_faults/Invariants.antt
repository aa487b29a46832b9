use Rattle.std.proofs.Common.{◌≡◌, ◌≤◌, drop}
use Rattle.cm_groups.specs.Faults.{first_of, group_fault, group_faults}
use Rattle.cm_groups.proofs.checks.group_faults.Given as goal

abbrev pub invariant-loop-entry : goal.invariant-loop-entry
invariant-loop-entry l = record {
  rest : group_faults l.boundaries l.groups l.texts ≡ first_of (group_fault l.boundaries l.groups) l.entry (drop l.entry l.texts);
  few : l.entry ≤ 500;
}
