use Rattle.std.proofs.Common.{ℕ, ◌==◌, ◌∙◌, not, refl}
use Rattle.std.proofs.lemmas.Result.{IfOk-weaker}
use Rattle.cm_locate.proofs.Groups.{kept_below, marks_same}
use Rattle.cm_locate.proofs.looking.marks_of_neighbours.Goals as goal

pub marks_of-requires : goal.marks_of-requires
marks_of-requires c =
    kept_below (λ (number : ℕ). not (number == 0)) c.args.groups.now c.args.numbers.now c.in_ok-found.found.items c.deref.result.now c.args.numbers.now
    c.deref.ensures.value c.in_ok-found.ensures refl c.requires

pub returns : goal.returns
returns c =
    IfOk-weaker c.marks_of.result _ _ (λ marks are. marks_same c.deref.result.now _ marks (c.deref.ensures.value ∙ c.in_ok-found.ensures) are) c.marks_of.ensures
