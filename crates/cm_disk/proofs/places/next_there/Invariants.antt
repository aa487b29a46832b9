use Rattle.std.proofs.Common.{◌≡◌, length}
use Rattle.cm_disk.specs.Rows.{there_of}
use Rattle.cm_disk.proofs.places.next_there.Given as goal

abbrev pub invariant-loop-place : goal.invariant-loop-place
invariant-loop-place l = there_of l.fn.kept ≡ there_of l.kept

abbrev pub decreases-loop-place : goal.decreases-loop-place
decreases-loop-place l = length l.kept
