use Rattle.cm_filelib.proofs.Names.{named_place, place_named}
use Rattle.cm_filelib.proofs.laws.a_place_names_its_hash.Goals as goal

pub returns-clause-named : goal.returns-clause-named
returns-clause-named c = place_named

pub returns-clause-only : goal.returns-clause-only
returns-clause-only c = named_place
