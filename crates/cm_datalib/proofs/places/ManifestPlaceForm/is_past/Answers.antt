use Rattle.std.proofs.Common.{sym, ◌∙◌}
use Rattle.cm_datalib.proofs.Names.{past_manifest}
use Rattle.cm_datalib.proofs.places.ManifestPlaceForm.is_past.Goals as goal

pub returns : goal.returns
returns c past q above = past_manifest c.args.place.now q (sym c.is_behind.ensures ∙ past) above
