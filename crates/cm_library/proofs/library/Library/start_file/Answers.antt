use Rattle.std.proofs.Common.{List, ℕ, inl, inr, sym, ◌∙◌, ap, subst}
use Rattle.std.specs.Prelude.{None, Err}
use Rattle.cm_disk.specs.Disk.{IsImage, LeavesOnly}
use Rattle.cm_filelib.specs.declared.writing.Writing.{Writing}
use Rattle.cm_state.specs.declared.fault.LibFault.{LibFault}
use Rattle.cm_state.specs.Opens.{OpensOr, StandsOr, EachOpensSome}
use Rattle.cm_state.specs.State.{State}
use Rattle.cm_library.specs.Calls.{AnyMoment}
use Rattle.cm_library.specs.Started.{without_file}
use Rattle.cm_library.specs.Kept.{Seen}
use Rattle.cm_library.proofs.AnyMoment.{not_ok, one_found, not_settled, then_done, no_change}
use Rattle.cm_library.proofs.KeptPlaces.{joined_places, same_places}
use Rattle.cm_library.proofs.library.Library.start_file.Goals as goal

pub returns-in-Err-clause-any_moment : goal.returns-in-Err-clause-any_moment
returns-in-Err-clause-any_moment g c x told found is =
    let d = g.D.Disk in
    let was = c.args.self.now in
    subst (λ (new : g.row.D.Denot). AnyMoment d.moment d.left_since StandsOr no_change was.disk new was.state was.pending found) (sym c.leave_started.ensures.disk)
    (not_settled d.moment d.left_since StandsOr no_change was.disk c.settle.new.self.disk (IsImage (d.may_leave was.disk)) c.settle.ensures.only.run was.state found was.pending
    (λ none. not_ok _ _ (c.in-Err.ensures.was_settled none).0) (c.tells.ensures.stands x told))

pub returns-in-Err-clause-opens : goal.returns-in-Err-clause-opens
returns-in-Err-clause-opens g c whole x told found is =
    let d = g.D.Disk in
    let was = c.args.self.now in
    subst (λ (new : g.row.D.Denot). AnyMoment d.moment d.left_since OpensOr no_change was.disk new was.state was.pending found) (sym c.leave_started.ensures.disk)
    (not_settled d.moment d.left_since OpensOr no_change was.disk c.settle.new.self.disk (IsImage (d.may_leave was.disk)) c.settle.ensures.only.run was.state found was.pending
    (λ none. not_ok _ _ (c.in-Err.ensures.was_settled none).0) (c.tells.ensures.opens whole x told))

pub returns-in-Err-clause-call : goal.returns-in-Err-clause-call
returns-in-Err-clause-call g c =
    let failed = c.in-Err.ensures.failed in
    let rows = c.leave_started.ensures.rows in
    inl (
      ap (λ (fault : LibFault). Err fault) failed.0,
      (λ none. not_ok _ _ (c.in-Err.ensures.was_settled none).0),
      record {
        start = rows.start ∙ failed.1.start;
        state = rows.state ∙ failed.1.state;
        seals = c.leave_started.ensures.seals ∙ failed.1.seals;
        started = c.leave_started.ensures.started ∙ ap (λ (files : List (ℕ × Writing)). without_file c.args.job files) failed.1.started;
        end = rows.end ∙ failed.1.end;
        pending = rows.pending ∙ failed.1.pending;
      },
    )

pub returns-clause-any_moment : goal.returns-clause-any_moment
returns-clause-any_moment g c x told found is =
    let d = g.D.Disk in
    let was = c.args.self.now in
    let mid = c.settle.new.self in
    let new = c.start_settled.new.self in
    let same = one_found found mid.state (sym is ∙ c.in-Ok.ensures.found.told x told) in
    then_done d.moment d.left_since StandsOr no_change was.disk mid.disk (IsImage (d.may_leave was.disk)) c.settle.ensures.only.run was.state found new.disk was.pending (c.tells.ensures.stands x told)
    (λ none. ap (λ (s : Seen g.row.D.Denot). s.disk) (c.settle.ensures.was_settled none).1)
    (subst (λ (s : State). LeavesOnly d.moment d.left_since mid.disk new.disk (StandsOr s None)) (sym same) (c.start_settled.ensures.stands x (c.settle.ensures.only.same ∙ told)))

pub returns-clause-opens : goal.returns-clause-opens
returns-clause-opens g c whole x told found is =
    let d = g.D.Disk in
    let was = c.args.self.now in
    let mid = c.settle.new.self in
    let new = c.start_settled.new.self in
    let same = one_found found mid.state (sym is ∙ c.in-Ok.ensures.found.told x told) in
    let whole_then = subst (λ (s : g.row.D.Denot). EachOpensSome (d.may_leave s)) (sym c.in-Ok.ensures.found.start) whole in
    then_done d.moment d.left_since OpensOr no_change was.disk mid.disk (IsImage (d.may_leave was.disk)) c.settle.ensures.only.run was.state found new.disk was.pending (c.tells.ensures.opens whole x told)
    (λ none. ap (λ (s : Seen g.row.D.Denot). s.disk) (c.settle.ensures.was_settled none).1)
    (subst (λ (s : State). LeavesOnly d.moment d.left_since mid.disk new.disk (OpensOr s None)) (sym same) (c.start_settled.ensures.opens whole_then x (c.settle.ensures.only.same ∙ told)))

pub returns-clause-call : goal.returns-clause-call
returns-clause-call g c =
    let e = c.start_settled.ensures in
    inr (
      c.settle.new.self,
      c.in-Ok.ensures.found,
      (λ none. (c.settle.ensures.was_settled none).1),
      c.settle.ensures.only.same,
      record {
        refused = e.refused;
        unchanged = e.unchanged;
        rows = e.rows;
        seals = e.seals;
        started = e.started;
        failed = e.failed;
        made = e.made;
        others = e.others;
      },
    )

pub returns-in-Err-clause-places : goal.returns-in-Err-clause-places
returns-in-Err-clause-places g c =
    let d = g.D.Disk in
    same_places (d.reads c.args.self.now.disk) (d.reads c.leave_started.new.self.disk) (ap (λ (s : g.row.D.Denot). d.reads s) c.leave_started.ensures.disk ∙ c.settle.ensures.only.same)

pub returns-clause-places : goal.returns-clause-places
returns-clause-places g c =
    let d = g.D.Disk in
    let was = c.args.self.now in
    let mid = c.settle.new.self in
    joined_places (d.reads was.disk) (d.reads mid.disk) (d.reads c.start_settled.new.self.disk) (same_places (d.reads was.disk) (d.reads mid.disk) c.settle.ensures.only.same)
    c.start_settled.ensures.places
