use Rattle.std.specs.Option.{option_copied}
use Rattle.cm_groups.proofs.CurrentRows.{current_has}
use Rattle.cm_groups.proofs.Marking.{some_marked}
use Rattle.cm_groups.proofs.groups.Groups.some_holds.Goals as goal

pub returns : goal.returns
returns c =
    rw (← c.self.view_is)
    (some_marked c.args.marks.now _ _ c.some_row_holds.result
    (λ number. current_has c.self.inside.index c.self.inside.groups.items c.args.address (option_copied c.args.site) number c.self.invariant.indexed)
    c.some_row_holds.ensures)
