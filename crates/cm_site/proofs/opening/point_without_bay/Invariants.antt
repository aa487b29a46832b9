use Rattle.std.proofs.Common.{◌≡◌, drop}
use Rattle.cm_site.specs.Opened.{world_of}
use Rattle.cm_site.specs.Worlds.{records_of}
use Rattle.cm_site.proofs.opening.point_without_bay.Given as goal

abbrev pub invariant-loop-member : goal.invariant-loop-member
invariant-loop-member g l = records_of (world_of (drop l.member-index l.members)) ≡ records_of (world_of l.members)
