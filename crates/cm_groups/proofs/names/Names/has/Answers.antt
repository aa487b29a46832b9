use Rattle.std.proofs.Common.{◌∙◌}
use Rattle.cm_groups.proofs.Places.{among}
use Rattle.cm_groups.proofs.names.Names.has.Goals as goal

pub returns : goal.returns
returns g c = c.is_some.ensures ∙ among _ c.args.self.now _ c.place.ensures.place
