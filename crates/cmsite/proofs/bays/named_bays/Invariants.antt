use Rattle.std.proofs.Common.{◌≡◌, take}
use Rattle.cm_site.specs.Bays.{names_of}
use Rattle.cmsite.proofs.bays.named_bays.Given as goal

abbrev pub invariant-loop-name : goal.invariant-loop-name
invariant-loop-name g l = names_of l.bays.items ≡ take l.name-index l.names
