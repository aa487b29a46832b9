use Rattle.std.proofs.Common.{◌≡◌, codes, drop}
use Rattle.cm_groups.specs.Names.{is_among}
use Rattle.cm_site.specs.Bays.{names_of}
use Rattle.command_tests.proofs.bays.has_records.Given as goal

abbrev pub invariant-loop-bay : goal.invariant-loop-bay
invariant-loop-bay g l = is_among (names_of (drop l.bay-index l.bays)) (codes "records") ≡ is_among (names_of l.bays) (codes "records")
