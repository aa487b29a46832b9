use Rattle.std.proofs.Common.{sym, ◌∙◌}
use Rattle.cm_groups.specs.Marked.{is_marked}
use Rattle.cm_groups.proofs.Marking.{none_passes}
use Rattle.cm_groups.proofs.marks.Marks.has_one.Goals as goal

pub returns-else-self : goal.returns-else-self
returns-else-self c =
    c.if-self.false ∙ sym (none_passes (is_marked c.args.self.now) c.args.numbers.now (rw (← c.self.view_is) (c.self.invariant c.if-self.false)))
