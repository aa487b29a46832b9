use Rattle.std.proofs.Common.{◌≡◌, ◌++◌, take}
use Rattle.cmsite.proofs.start.names_there.Given as goal

abbrev pub invariant-loop-name : goal.invariant-loop-name
invariant-loop-name l = l.there.items ≡ l.initial.there.items ++ take l.name-index l.name-items
