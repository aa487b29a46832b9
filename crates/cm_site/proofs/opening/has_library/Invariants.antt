use Rattle.std.proofs.Common.{◌≡◌, drop}
use Rattle.cm_site.specs.Opened.{world_of}
use Rattle.cm_site.specs.Worlds.{has_library}
use Rattle.cm_site.proofs.opening.has_library.Given as goal

abbrev pub invariant-loop-member : goal.invariant-loop-member
invariant-loop-member g l = has_library l.name (world_of (drop l.member-index l.members)) ≡ has_library l.name (world_of l.members)
