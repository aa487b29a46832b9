use Rattle.std.specs.Option.{option_copied}
use Rattle.std.proofs.lemmas.Result.{IfOk-weaker}
use Rattle.cm_groups.proofs.Has.{those_of}
use Rattle.cm_groups.proofs.CurrentRows.{current_has, current_there}
use Rattle.cm_groups.proofs.groups.Groups.current.Goals as goal

pub returns-clause-those : goal.returns-clause-those
returns-clause-those c =
    rw (← c.self.view_is)
    (IfOk-weaker c.looked_up.result _ _
    (λ numbers all. those_of _ _ numbers.items (λ number. current_has c.self.inside.index c.self.inside.groups.items c.args.address (option_copied c.args.site) number c.self.invariant.indexed) all)
    c.looked_up.ensures)

pub returns-clause-there : goal.returns-clause-there
returns-clause-there c =
    rw (← c.self.view_is)
    (IfOk-weaker c.looked_up.result _ _
    (λ numbers all.
    current_there c.self.inside.groups.items c.args.address (option_copied c.args.site) numbers.items c.self.invariant.sound
    (those_of _ _ numbers.items (λ number. current_has c.self.inside.index c.self.inside.groups.items c.args.address (option_copied c.args.site) number c.self.invariant.indexed) all))
    c.looked_up.ensures)
