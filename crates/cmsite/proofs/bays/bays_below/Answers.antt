use Rattle.std.proofs.Common.{sym, subst, ◌∙◌}
use Rattle.cm_site.specs.Bays.{AreNames}
use Rattle.cmsite.specs.BayNames.{HasFirstOthers}
use Rattle.cmsite.proofs.BayNameLaws.{are_names}
use Rattle.cmsite.proofs.FirstOthers.{has_first_others}
use Rattle.cmsite.proofs.bays.bays_below.Goals as goal

pub returns-clause-bays : goal.returns-clause-bays
returns-clause-bays g c = subst AreNames (sym (c.in_ok-bays.ensures ∙ (c.deref.ensures.value ∙ c.in_ok-names.ensures))) (are_names c.args.there.now)

pub returns-clause-first : goal.returns-clause-first
returns-clause-first g c = subst (HasFirstOthers c.args.there.now) (sym (c.in_ok-bays.ensures ∙ (c.deref.ensures.value ∙ c.in_ok-names.ensures))) (has_first_others c.args.there.now)
