use Rattle.std.proofs.Common.{◌≡◌, take}
use Rattle.cm_groups.specs.Names.{first_places}
use Rattle.cm_groups.proofs.names.firsts_of.Given as goal

abbrev pub invariant-loop-name : goal.invariant-loop-name
invariant-loop-name g l = l.firsts.items ≡ first_places g.K.PartialEq.eq l.names (take l.name-index l.names)
