use Rattle.std.proofs.Common.{◌≡◌, ◌≤◌, drop}
use Rattle.cm_groups.specs.Faults.{first_of, boundary_fault, boundary_faults}
use Rattle.cm_groups.proofs.checks.boundary_faults.Given as goal

abbrev pub invariant-loop-entry : goal.invariant-loop-entry
invariant-loop-entry l = record {
  rest : boundary_faults l.names ≡ first_of (boundary_fault l.names) l.entry (drop l.entry l.names);
  few : l.entry ≤ 2000;
}
