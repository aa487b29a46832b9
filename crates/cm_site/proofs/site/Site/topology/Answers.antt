use Rattle.std.proofs.Common.{◌≡◌, ℕ, List, ◌++◌, length, take, drop, sym, ◌∙◌, ap, subst, rules}
use Rattle.std.proofs.Math.Seq.{take-append_seam}
use Rattle.cm_site.specs.Machine.{step_topology}
use Rattle.cm_site.specs.Opened.{IsOpenSite, bays_from, bays_now}
use Rattle.cm_site.specs.Runs.{EndsOn, beside, fed}
use Rattle.cm_site.specs.declared.member.Member.{Member}
use Rattle.cm_site.proofs.site.Site.topology.Goals as goal

pub returns : goal.returns
returns g c = λ from to.
    let d = g.D.Disk in
    let news = c.take_input.new.members in
    let items = c.self.inside.members.items in
    let from_all = beside from (fed g.S.Source.left g.S.Source.faults c.args.input.now) in
    let to_all = beside to (fed g.S.Source.left g.S.Source.faults c.take_input.new.input) in
    let size : c.self.inside.members.len ≡ length news = search rules in
    let whole : take c.self.inside.members.len (news ++ drop (length news) items) ≡ news = ap (λ (n : ℕ). take n (news ++ drop (length news) items)) size ∙ take-append_seam news (drop (length news) items) in
    subst (λ (members : List (Member g.row.D.Denot)). EndsOn d.reads d.may_leave d.moment d.left_since d.faults step_topology from_all to_all c.args.minute c.take_input.result (bays_from c.args.self.now) (bays_now members)) (sym whole)
    (subst (λ (members : List (Member g.row.D.Denot)). EndsOn d.reads d.may_leave d.moment d.left_since d.faults step_topology from_all to_all c.args.minute c.take_input.result (bays_from members) (bays_now news)) (search rules)
    (c.take_input.ensures from to))
