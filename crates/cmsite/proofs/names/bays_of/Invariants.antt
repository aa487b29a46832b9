use Rattle.std.proofs.Common.{◌≡◌, ◌++◌, take}
use Rattle.cmsite.proofs.names.bays_of.Given as goal

abbrev pub invariant-loop-name : goal.invariant-loop-name
invariant-loop-name l = l.bays.items ≡ l.initial.bays.items ++ take l.name-index l.name-items
