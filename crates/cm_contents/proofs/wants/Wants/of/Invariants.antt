use Rattle.std.proofs.Common.{◌≡◌, take}
use Rattle.cm_base.specs.declared.hash.Hash.{Hash}
use Rattle.cm_contents.specs.Wants.{size_of, size_in}
use Rattle.cm_contents.proofs.wants.Wants.of.Given as goal

abbrev pub invariant-loop-entry : goal.invariant-loop-entry
invariant-loop-entry l = (hash : Hash) → size_of l.wants hash ≡ size_in hash (take l.entry-index l.entries)
