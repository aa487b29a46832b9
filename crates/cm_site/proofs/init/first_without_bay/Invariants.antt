use Rattle.std.proofs.Common.{◌≡◌, drop}
use Rattle.std.specs.Prelude.{find, not}
use Rattle.cm_groups.specs.Names.{is_among}
use Rattle.cm_site.specs.Bays.{names_of}
use Rattle.cm_site.proofs.init.first_without_bay.Given as goal

abbrev pub invariant-loop-name : goal.invariant-loop-name
invariant-loop-name g l = find (λ name. not (is_among (names_of l.bays) name)) (drop l.name-index l.names) ≡ find (λ name. not (is_among (names_of l.bays) name)) l.names
