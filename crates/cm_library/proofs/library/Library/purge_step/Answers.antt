use Rattle.std.proofs.Common.{inr, sym, ◌∙◌, ap, subst, arith}
use Rattle.std.specs.Prelude.{None}
use Rattle.cm_disk.specs.Disk.{IsImage, LeavesOnly}
use Rattle.cm_state.specs.Opens.{OpensOr, StandsOr, EachOpensSome}
use Rattle.cm_state.specs.Purged.{Clears}
use Rattle.cm_state.specs.State.{State}
use Rattle.cm_state.proofs.Purges.{clears_none}
use Rattle.cm_library.specs.Kept.{Seen}
use Rattle.cm_library.proofs.AnyMoment.{not_ok, one_found, not_settled, then_done, no_change}
use Rattle.cm_library.proofs.Loose.{moments_stand, moments_open}
use Rattle.cm_library.proofs.SettledCalls.{stands_idle, opens_idle}
use Rattle.cm_library.proofs.library.Library.purge_step.Goals as goal

pub returns-in-Err-clause-any_moment : goal.returns-in-Err-clause-any_moment
returns-in-Err-clause-any_moment g c x told found is =
    let d = g.D.Disk in
    let was = c.args.self.now in
    not_settled d.moment d.left_since StandsOr no_change was.disk c.settle.new.self.disk (IsImage (d.may_leave was.disk)) c.settle.ensures.only.run was.state found was.pending
    (λ none. not_ok _ _ (c.in-Err.ensures.was_settled none).0) (c.tells.ensures.stands x told)

pub returns-in-Err-clause-opens : goal.returns-in-Err-clause-opens
returns-in-Err-clause-opens g c whole x told found is =
    let d = g.D.Disk in
    let was = c.args.self.now in
    not_settled d.moment d.left_since OpensOr no_change was.disk c.settle.new.self.disk (IsImage (d.may_leave was.disk)) c.settle.ensures.only.run was.state found was.pending
    (λ none. not_ok _ _ (c.in-Err.ensures.was_settled none).0) (c.tells.ensures.opens whole x told)

pub returns-in-Err-clause-places : goal.returns-in-Err-clause-places
returns-in-Err-clause-places g c x told = (x, c.settle.ensures.only.same ∙ told, λ found is. clears_none found x)

pub returns-clause-any_moment : goal.returns-clause-any_moment
returns-clause-any_moment g c x told found is =
    let d = g.D.Disk in
    let was = c.args.self.now in
    let mid = c.settle.new.self in
    let new = c.step_settled.new.self in
    let told_mid = c.settle.ensures.only.same ∙ told in
    let same = one_found found mid.state (sym is ∙ c.in-Ok.ensures.found.told x told) in
    then_done d.moment d.left_since StandsOr no_change was.disk mid.disk (IsImage (d.may_leave was.disk)) c.settle.ensures.only.run was.state found new.disk was.pending (c.tells.ensures.stands x told)
    (λ none. ap (λ (s : Seen g.row.D.Denot). s.disk) (c.settle.ensures.was_settled none).1)
    (subst (λ (s : State). LeavesOnly d.moment d.left_since mid.disk new.disk (StandsOr s None)) (sym same)
    (moments_stand mid.state mid.disk new.disk c.step_settled.ensures.alone x (g.met.D.Disk.as_it_reads mid.disk x told_mid) (λ image left. stands_idle mid.state mid.pending image c.in-Ok.ensures.found.idle (c.tells-2.ensures.stands x told_mid image left))))

pub returns-clause-opens : goal.returns-clause-opens
returns-clause-opens g c whole x told found is =
    let d = g.D.Disk in
    let was = c.args.self.now in
    let mid = c.settle.new.self in
    let new = c.step_settled.new.self in
    let told_mid = c.settle.ensures.only.same ∙ told in
    let same = one_found found mid.state (sym is ∙ c.in-Ok.ensures.found.told x told) in
    let whole_then = subst (λ (s : g.row.D.Denot). EachOpensSome (d.may_leave s)) (sym c.in-Ok.ensures.found.start) whole in
    then_done d.moment d.left_since OpensOr no_change was.disk mid.disk (IsImage (d.may_leave was.disk)) c.settle.ensures.only.run was.state found new.disk was.pending (c.tells.ensures.opens whole x told)
    (λ none. ap (λ (s : Seen g.row.D.Denot). s.disk) (c.settle.ensures.was_settled none).1)
    (subst (λ (s : State). LeavesOnly d.moment d.left_since mid.disk new.disk (OpensOr s None)) (sym same)
    (moments_open mid.state mid.disk new.disk c.step_settled.ensures.alone x (g.met.D.Disk.as_it_reads mid.disk x told_mid) (λ image left. opens_idle mid.state mid.pending image c.in-Ok.ensures.found.idle (c.tells-2.ensures.opens whole_then x told_mid image left))))

pub returns-clause-call : goal.returns-clause-call
returns-clause-call g c = inr (c.settle.new.self, c.in-Ok.ensures.found, (λ none. (c.settle.ensures.was_settled none).1), c.settle.ensures.only.same, c.step_settled.ensures.steps)

pub returns-clause-places : goal.returns-clause-places
returns-clause-places g c x told =
    let mid = c.settle.new.self in
    let t = c.step_settled.ensures.steps.clears x (c.settle.ensures.only.same ∙ told) in
    (t.0, t.1, λ found is. subst (λ (s : State). Clears s x t.0) (sym (one_found found mid.state (sym is ∙ c.in-Ok.ensures.found.told x told))) t.2)

pub returns-clause-later : goal.returns-clause-later
returns-clause-later g c = omega (arith, c.settle.ensures.only.later, c.step_settled.ensures.alone.later)
