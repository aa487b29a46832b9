use Rattle.std.proofs.Common.{◌≤◌, length}
use Rattle.store_folder.proofs.storing.store_each.Given as goal

abbrev pub invariant-loop-entry : goal.invariant-loop-entry
invariant-loop-entry g l = length l.piece ≤ 65536
