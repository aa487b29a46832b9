use Rattle.cm_datalib.proofs.Names.{named_place, place_named}
use Rattle.cm_datalib.proofs.laws.a_place_names_its_version.Goals as goal

pub returns-clause-named : goal.returns-clause-named
returns-clause-named c = place_named

pub returns-clause-only : goal.returns-clause-only
returns-clause-only c = λ place id version is. (named_place place (id, version) is).1
