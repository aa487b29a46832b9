use Rattle.std.proofs.Common.{Ok, ap, ◌∙◌}
use Rattle.std.specs.List.{list_all}
use Rattle.cm_groups.specs.Names.{is_among}
use Rattle.cmsite.specs.Arguments.{texts}
use Rattle.cmsite.specs.BayNames.{bays_of}
use Rattle.cmsite.proofs.BaseMade.{makes_base}
use Rattle.cmsite.proofs.start.makes_base.Goals as goal

pub returns-in_ok-bays-in-Ok-Init : goal.returns-in_ok-bays-in-Ok-Init
returns-in_ok-bays-in-Ok-Init c =
    makes_base (texts c.args.words.now) c.in-Ok-Init.names c.are_among.result (c.in-Ok-Init.ensures.ok ∙ ap (λ line. Ok line) c.in-Ok-Init.field-0-is)
    (c.are_among.ensures
    ∙ (ap (λ bays. list_all (is_among bays) c.items-in-Ok-Init.result.now) (c.deref.ensures.value ∙ (c.in_ok-bays-in-Ok-Init.ensures ∙ ap bays_of c.items.ensures))
    ∙ ap (λ names. list_all (is_among (bays_of c.in-Ok-Init.names)) names) c.items-in-Ok-Init.ensures))
