use Rattle.cm_groups.specs.Marked.{is_marked}
use Rattle.cm_groups.proofs.Holds.{any_both, either_first, either_second}
use Rattle.cm_groups.proofs.holding.some_row_holds.Goals as goal
use Rattle.cm_groups.proofs.holding.some_row_holds.Goals.{then-has_one, else-has_one}

pub returns : goal.returns
returns g c =
    any_both (is_marked c.args.marks.now) _ _ _ _ c.if-has_one.result c.of.ensures.address c.of.ensures.site
    (elim c.if-has_one.branch [
      | then-has_one w ↦ either_first _ _ _ c.has_one.result w.result-is w.if-has_one.true c.has_one.ensures
      | else-has_one w ↦ either_second _ _ _ c.has_one.result w.has_one-else-has_one.result w.result-is w.if-has_one.false c.has_one.ensures w.has_one-else-has_one.ensures
    ])
