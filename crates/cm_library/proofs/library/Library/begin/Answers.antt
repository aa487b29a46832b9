use Rattle.std.proofs.Common.{inr, sym, ◌∙◌, ap, subst}
use Rattle.cm_disk.specs.Disk.{IsImage, LeavesOnly}
use Rattle.cm_state.specs.Changes.{Begun, if_allowed}
use Rattle.cm_state.specs.Opens.{OpensOr, StandsOr, EachOpensSome}
use Rattle.cm_state.specs.State.{State}
use Rattle.cm_library.specs.Kept.{Seen}
use Rattle.cm_library.proofs.AnyMoment.{not_ok, one_found, not_settled, then_done}
use Rattle.cm_library.proofs.KeptPlaces.{joined_places, same_places}
use Rattle.cm_library.proofs.library.Library.begin.Goals as goal

pub returns-in-Err-clause-any_moment : goal.returns-in-Err-clause-any_moment
returns-in-Err-clause-any_moment g c x told found is =
    let d = g.D.Disk in
    let was = c.args.self.now in
    not_settled d.moment d.left_since StandsOr (λ s. if_allowed (Begun s.next c.args.«package» c.args.version c.args.manifest) s) was.disk c.settle.new.self.disk (IsImage (d.may_leave was.disk)) c.settle.ensures.only.run was.state found was.pending
    (λ none. not_ok _ _ (c.in-Err.ensures.was_settled none).0) (c.tells.ensures.stands x told)

pub returns-clause-any_moment : goal.returns-clause-any_moment
returns-clause-any_moment g c x told found is =
    let d = g.D.Disk in
    let was = c.args.self.now in
    let mid = c.settle.new.self in
    let new = c.begin_settled.new.self in
    let same = one_found found mid.state (sym is ∙ c.in-Ok.ensures.found.told x told) in
    then_done d.moment d.left_since StandsOr (λ s. if_allowed (Begun s.next c.args.«package» c.args.version c.args.manifest) s) was.disk mid.disk (IsImage (d.may_leave was.disk)) c.settle.ensures.only.run was.state found new.disk was.pending (c.tells.ensures.stands x told)
    (λ none. ap (λ (s : Seen g.row.D.Denot). s.disk) (c.settle.ensures.was_settled none).1)
    (subst (λ (s : State). LeavesOnly d.moment d.left_since mid.disk new.disk (StandsOr s (if_allowed (Begun s.next c.args.«package» c.args.version c.args.manifest) s))) (sym same)
    (c.begin_settled.ensures.stands x (c.settle.ensures.only.same ∙ told)))

pub returns-in-Err-clause-opens : goal.returns-in-Err-clause-opens
returns-in-Err-clause-opens g c whole x told found is =
    let d = g.D.Disk in
    let was = c.args.self.now in
    not_settled d.moment d.left_since OpensOr (λ s. if_allowed (Begun s.next c.args.«package» c.args.version c.args.manifest) s) was.disk c.settle.new.self.disk (IsImage (d.may_leave was.disk)) c.settle.ensures.only.run was.state found was.pending
    (λ none. not_ok _ _ (c.in-Err.ensures.was_settled none).0) (c.tells.ensures.opens whole x told)

pub returns-clause-opens : goal.returns-clause-opens
returns-clause-opens g c whole x told found is =
    let d = g.D.Disk in
    let was = c.args.self.now in
    let mid = c.settle.new.self in
    let new = c.begin_settled.new.self in
    let same = one_found found mid.state (sym is ∙ c.in-Ok.ensures.found.told x told) in
    let whole_then = subst (λ (s : g.row.D.Denot). EachOpensSome (d.may_leave s)) (sym c.in-Ok.ensures.found.start) whole in
    then_done d.moment d.left_since OpensOr (λ s. if_allowed (Begun s.next c.args.«package» c.args.version c.args.manifest) s) was.disk mid.disk (IsImage (d.may_leave was.disk)) c.settle.ensures.only.run was.state found new.disk was.pending (c.tells.ensures.opens whole x told)
    (λ none. ap (λ (s : Seen g.row.D.Denot). s.disk) (c.settle.ensures.was_settled none).1)
    (subst (λ (s : State). LeavesOnly d.moment d.left_since mid.disk new.disk (OpensOr s (if_allowed (Begun s.next c.args.«package» c.args.version c.args.manifest) s))) (sym same)
    (c.begin_settled.ensures.opens whole_then x (c.settle.ensures.only.same ∙ told)))

pub returns-clause-call : goal.returns-clause-call
returns-clause-call g c = inr (c.settle.new.self, c.in-Ok.ensures.found, (c.begin_settled.ensures.refused, c.begin_settled.ensures.job), c.begin_settled.ensures.ends)

pub returns-in-Err-clause-places : goal.returns-in-Err-clause-places
returns-in-Err-clause-places g c =
    let d = g.D.Disk in
    same_places (d.reads c.args.self.now.disk) (d.reads c.settle.new.self.disk) (c.settle.ensures.only.same)

pub returns-clause-places : goal.returns-clause-places
returns-clause-places g c =
    let d = g.D.Disk in
    let was = c.args.self.now in
    let mid = c.settle.new.self in
    joined_places (d.reads was.disk) (d.reads mid.disk) (d.reads c.begin_settled.new.self.disk) (same_places (d.reads was.disk) (d.reads mid.disk) c.settle.ensures.only.same)
    c.begin_settled.ensures.places
