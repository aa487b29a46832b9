use Rattle.std.proofs.Common.{◌≡◌, drop}
use Rattle.cm_site.specs.Opened.{world_of}
use Rattle.cm_site.specs.Opening.{without_bay}
use Rattle.cm_site.proofs.opening.without_bay.Given as goal

abbrev pub invariant-loop-point : goal.invariant-loop-point
invariant-loop-point g l = without_bay (drop l.point-index l.points) (world_of l.members) ≡ without_bay l.points (world_of l.members)
