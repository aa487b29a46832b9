use Rattle.std.proofs.Common.{ℕ, List, sym, ap, ◌∙◌}
use Rattle.cm_net.specs.declared.entry.Entry.{Entry}
use Rattle.cm_net.proofs.Found.{site_there, site_nowhere}
use Rattle.cm_net.proofs.sites.groups_of_site.Goals as goal

pub returns-in-Ok-clause-groups : goal.returns-in-Ok-clause-groups
returns-in-Ok-clause-groups g c =
    c.groups.ensures ∙ (ap (λ (entry : Entry (List ℕ)). entry.groups.items) c.index-sites-place.is
    ∙ sym (site_there c.args.sites.now c.args.name.now c.requires c.in-Ok.place c.index-sites-place.result c.in-Ok.ensures.within c.in-Ok.ensures.place))

pub returns-in-Err-clause-groups : goal.returns-in-Err-clause-groups
returns-in-Err-clause-groups g c = sym (site_nowhere c.args.sites.now c.args.name.now c.requires c.in-Err.field-0 c.in-Err.ensures.place)
