use Rattle.std.proofs.Common.{sym, ◌∙◌}
use Rattle.cm_library.proofs.Folders.{past_both}
use Rattle.cm_library.proofs.stored.StorePlaceForm.is_past.Goals as goal

pub returns : goal.returns
returns c past q above = past_both c.args.place.now q (sym c.is_behind.ensures ∙ past) above
