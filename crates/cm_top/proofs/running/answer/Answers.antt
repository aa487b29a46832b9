use Rattle.std.proofs.Common.{ℕ, List, sym, ◌∙◌, ap, subst}
use Rattle.cm_site.specs.Runs.{EndsOn, beside, fed, sourced}
use Rattle.cm_top.specs.Runs.{step}
use Rattle.cm_top.specs.declared.line.Line.{Line}
use Rattle.cm_top.specs.declared.line.Line.TheVariants.{Init}
use Rattle.cm_top.proofs.running.answer.Goals as goal

pub returns-in-Init : goal.returns-in-Init
returns-in-Init g c =
    let d = g.D.Disk in
    let outside = beside (sourced g.F.Folder.shows g.F.Folder.faults c.args.folder.now) (fed g.S.Source.left g.S.Source.faults c.args.input.now) in
    subst (λ (line : Line). EndsOn d.reads d.may_leave d.moment d.left_since d.faults (step line) outside outside c.args.minute c.init.result c.args.bays.now.items c.init.new.bays.items)
    (ap (λ (names : List (List ℕ)). Init names) c.items.ensures ∙ sym c.in-Init.is) (c.init.ensures outside outside c.args.minute)
