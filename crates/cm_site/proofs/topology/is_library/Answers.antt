use Rattle.std.proofs.Common.{◌≡◌, ◌∙◌}
use Rattle.cm_site.proofs.Has.{has_found}
use Rattle.cm_site.proofs.topology.is_library.Goals as goal

pub returns : goal.returns
returns g c = c.is_some.ensures ∙ has_found c.args.bay c.args.members.now c.library_at.result c.library_at.ensures.found c.library_at.ensures.none
