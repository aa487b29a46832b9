use Rattle.cm_datalib.proofs.Names.{named_back}
use Rattle.cm_datalib.proofs.places.ManifestPlaceForm.named.Goals as goal

pub returns-clause-place : goal.returns-clause-place
returns-clause-place c = named_back c.version_at.result c.args.place.now c.version_at.ensures
