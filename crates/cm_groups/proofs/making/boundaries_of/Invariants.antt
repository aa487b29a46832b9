use Rattle.std.proofs.Common.{◌≡◌, take}
use Rattle.std.specs.List.{filter_map}
use Rattle.cm_groups.specs.Groups.{boundary_of}
use Rattle.cm_groups.proofs.making.boundaries_of.Given as goal

abbrev pub invariant-loop-name : goal.invariant-loop-name
invariant-loop-name l = l.found.items ≡ filter_map (λ name. boundary_of l.rows name) (take l.name-index l.wanted)
