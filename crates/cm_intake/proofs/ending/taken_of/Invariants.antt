use Rattle.std.proofs.Common.{◌≡◌, ◌≤◌, ◌*◌, take}
use Rattle.cm_state.specs.State.{bytes_of}
use Rattle.cm_intake.proofs.ending.taken_of.Given as goal

abbrev pub invariant-loop-entry : goal.invariant-loop-entry
invariant-loop-entry l = record { sum : l.bytes ≡ bytes_of (take l.entry-index l.entries); few : l.bytes ≤ 4294967296 * l.entry-index }
