use Rattle.std.proofs.Common.{◌≡◌, ◌∷◌, ◌++◌}
use Rattle.cm_disk.specs.Rows.{there_of}
use Rattle.cm_disk.proofs.places.read_more.Given as goal

abbrev pub invariant-loop : goal.invariant-loop
invariant-loop l = l.fn.first ∷ there_of l.fn.kept ≡ l.places.items ++ there_of l.kept
