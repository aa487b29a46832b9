use Rattle.std.proofs.Common.{sym, ◌∙◌}
use Rattle.cm_filelib.proofs.Names.{past_file}
use Rattle.cm_filelib.proofs.places.FilePlaceForm.is_past.Goals as goal

pub returns : goal.returns
returns c past q above = past_file c.args.place.now q (sym c.is_behind.ensures ∙ past) above
