use Rattle.std.proofs.Common.{inr, sym, ◌∙◌, ap, subst}
use Rattle.std.specs.Prelude.{None}
use Rattle.cm_disk.specs.Disk.{IsImage, LeavesOnly}
use Rattle.cm_disk.proofs.Moments.{weaker}
use Rattle.cm_log.proofs.Frames.{only_then}
use Rattle.cm_state.specs.Opens.{OpensOr, StandsOr, EachOpensSome}
use Rattle.cm_state.specs.State.{State}
use Rattle.cm_library.specs.Kept.{Seen}
use Rattle.cm_library.proofs.AnyMoment.{not_ok, one_found, not_settled, then_done, no_change}
use Rattle.cm_library.proofs.KeptPlaces.{same_places}
use Rattle.cm_library.proofs.SettledCalls.{stands_idle, opens_idle}
use Rattle.cm_library.proofs.library.Library.read.Goals as goal

pub returns-in-Err-clause-any_moment : goal.returns-in-Err-clause-any_moment
returns-in-Err-clause-any_moment g c x told found is =
    let d = g.D.Disk in
    let was = c.args.self.now in
    not_settled d.moment d.left_since StandsOr no_change was.disk c.settle.new.self.disk (IsImage (d.may_leave was.disk)) c.settle.ensures.only.run was.state found was.pending
    (λ none. not_ok _ _ (c.in-Err.ensures.was_settled none).0) (c.tells.ensures.stands x told)

pub returns-in-Err-clause-opens : goal.returns-in-Err-clause-opens
returns-in-Err-clause-opens g c whole x told found is =
    let d = g.D.Disk in
    let was = c.args.self.now in
    not_settled d.moment d.left_since OpensOr no_change was.disk c.settle.new.self.disk (IsImage (d.may_leave was.disk)) c.settle.ensures.only.run was.state found was.pending
    (λ none. not_ok _ _ (c.in-Err.ensures.was_settled none).0) (c.tells.ensures.opens whole x told)

pub returns-in-Err-clause-places : goal.returns-in-Err-clause-places
returns-in-Err-clause-places g c =
    let d = g.D.Disk in
    same_places (d.reads c.args.self.now.disk) (d.reads c.settle.new.self.disk) c.settle.ensures.only.same

pub read_settled-requires : goal.read_settled-requires
read_settled-requires g c = record { settled = c.in-Ok.ensures.found.idle }

pub returns-clause-any_moment : goal.returns-clause-any_moment
returns-clause-any_moment g c x told found is =
    let d = g.D.Disk in
    let was = c.args.self.now in
    let mid = c.settle.new.self in
    let new = c.read_settled.new.self in
    let same = one_found found mid.state (sym is ∙ c.in-Ok.ensures.found.told x told) in
    then_done d.moment d.left_since StandsOr no_change was.disk mid.disk (IsImage (d.may_leave was.disk)) c.settle.ensures.only.run was.state found new.disk was.pending (c.tells.ensures.stands x told)
    (λ none. ap (λ (s : Seen g.row.D.Denot). s.disk) (c.settle.ensures.was_settled none).1)
    (subst (λ (s : State). LeavesOnly d.moment d.left_since mid.disk new.disk (StandsOr s None)) (sym same)
    (weaker d.moment d.left_since mid.disk new.disk (IsImage (d.may_leave mid.disk)) (StandsOr mid.state None) c.read_settled.ensures.only.run
    (λ image left. stands_idle mid.state mid.pending image c.in-Ok.ensures.found.idle (c.tells-2.ensures.stands x (c.settle.ensures.only.same ∙ told) image left))))

pub returns-clause-opens : goal.returns-clause-opens
returns-clause-opens g c whole x told found is =
    let d = g.D.Disk in
    let was = c.args.self.now in
    let mid = c.settle.new.self in
    let new = c.read_settled.new.self in
    let same = one_found found mid.state (sym is ∙ c.in-Ok.ensures.found.told x told) in
    let whole_then = subst (λ (s : g.row.D.Denot). EachOpensSome (d.may_leave s)) (sym c.in-Ok.ensures.found.start) whole in
    then_done d.moment d.left_since OpensOr no_change was.disk mid.disk (IsImage (d.may_leave was.disk)) c.settle.ensures.only.run was.state found new.disk was.pending (c.tells.ensures.opens whole x told)
    (λ none. ap (λ (s : Seen g.row.D.Denot). s.disk) (c.settle.ensures.was_settled none).1)
    (subst (λ (s : State). LeavesOnly d.moment d.left_since mid.disk new.disk (OpensOr s None)) (sym same)
    (weaker d.moment d.left_since mid.disk new.disk (IsImage (d.may_leave mid.disk)) (OpensOr mid.state None) c.read_settled.ensures.only.run
    (λ image left. opens_idle mid.state mid.pending image c.in-Ok.ensures.found.idle (c.tells-2.ensures.opens whole_then x (c.settle.ensures.only.same ∙ told) image left))))

pub returns-clause-only : goal.returns-clause-only
returns-clause-only g c = only_then c.settle.ensures.only c.read_settled.ensures.only

pub returns-clause-places : goal.returns-clause-places
returns-clause-places g c =
    let d = g.D.Disk in
    same_places (d.reads c.args.self.now.disk) (d.reads c.read_settled.new.self.disk) (c.read_settled.ensures.only.same ∙ c.settle.ensures.only.same)

pub returns-clause-call : goal.returns-clause-call
returns-clause-call g c =
    inr (
      c.settle.new.self,
      c.in-Ok.ensures.found,
      (λ none. (c.settle.ensures.was_settled none).1),
      c.settle.ensures.only.same,
      c.read_settled.ensures.tells,
    )
