use Rattle.cm_filelib.proofs.Names.{named_form, named_back}
use Rattle.cm_filelib.proofs.places.FilePlaceForm.named.Goals as goal

pub returns-clause-form : goal.returns-clause-form
returns-clause-form c = named_form c.hash_at.result c.args.place.now c.hash_at.ensures

pub returns-clause-place : goal.returns-clause-place
returns-clause-place c = named_back c.hash_at.result c.args.place.now c.hash_at.ensures
