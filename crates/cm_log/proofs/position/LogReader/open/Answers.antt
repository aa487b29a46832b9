use Rattle.std.proofs.Common.{List, ℕ, [], refl, sym, ◌∙◌, ap}
use Rattle.std.proofs.lemmas.Bool.{false≢true}
use Rattle.cm_log.specs.Logs.{Live, Unread, rest_at}
use Rattle.cm_log.proofs.Frames.{only_then}
use Rattle.cm_log.proofs.Heads.{head_there}
use Rattle.cm_log.proofs.Made.{look_is, look_none}
use Rattle.cm_log.proofs.Rest.{rests_kept}
use Rattle.cm_log.proofs.position.LogReader.open.Goals as goal

pub returns-in-Some-Chosen-clause-live : goal.returns-in-Some-Chosen-clause-live
returns-in-Some-Chosen-clause-live g c x told =
    look_is c.args.shelf x c.in_ok-side.field-0 _ _ c.in-Some-Chosen.is c.in-Some-Chosen.field-0-is (c.in_ok-side.ensures.value x (c.sync_places.ensures.only.same ∙ told))
    ∙ ap (λ (p : List ℕ). Live p (rest_at x p 10)) (sym c.log_at.ensures)

pub returns-in-Some-Chosen-clause-reading : goal.returns-in-Some-Chosen-clause-reading
returns-in-Some-Chosen-clause-reading g c x told =
    let synced = sym c.look.ensures.only.same ∙ told in
    let live = look_is c.args.shelf x c.in_ok-side.field-0 _ _ c.in-Some-Chosen.is c.in-Some-Chosen.field-0-is (c.in_ok-side.ensures.value x synced)
    ∙ ap (λ (p : List ℕ). Live p (rest_at x p 10)) (sym c.log_at.ensures) in
    record {
      at = record {
        passed = [];
        live = live;
        number = refl;
        within = head_there c.args.shelf x c.log_at.result (rest_at x c.log_at.result 10) live;
        ended = λ e. absurd (false≢true e);
        ahead = c.none.ensures (x c.log_at.result);
      };
      rests = rests_kept c.args.shelf x (g.D.Disk.may_leave c.sync_places.new.disk) (g.D.Disk.may_leave c.look.new.disk) c.look.ensures.only.stop (c.in_ok-sync_places.ensures.rests x synced);
    }

pub returns-in-Some-Chosen-clause-rests : goal.returns-in-Some-Chosen-clause-rests
returns-in-Some-Chosen-clause-rests g c other x told =
    rests_kept c.args.shelf x (g.D.Disk.may_leave c.sync_places.new.disk) (g.D.Disk.may_leave c.look.new.disk) c.look.ensures.only.stop (c.in_ok-sync_places.ensures.rests x (sym c.look.ensures.only.same ∙ told))

pub returns-in-Some-Refused-clause-rests : goal.returns-in-Some-Refused-clause-rests
returns-in-Some-Refused-clause-rests g c other x told =
    rests_kept c.args.shelf x (g.D.Disk.may_leave c.sync_places.new.disk) (g.D.Disk.may_leave c.look.new.disk) c.look.ensures.only.stop (c.in_ok-sync_places.ensures.rests x (sym c.look.ensures.only.same ∙ told))

pub returns-in-None-clause-rests : goal.returns-in-None-clause-rests
returns-in-None-clause-rests g c other x told =
    rests_kept c.args.shelf x (g.D.Disk.may_leave c.sync_places.new.disk) (g.D.Disk.may_leave c.look.new.disk) c.look.ensures.only.stop (c.in_ok-sync_places.ensures.rests x (sym c.look.ensures.only.same ∙ told))

pub returns-in-Some-Chosen-clause-only : goal.returns-in-Some-Chosen-clause-only
returns-in-Some-Chosen-clause-only g c = only_then c.sync_places.ensures.only c.look.ensures.only

pub returns-in-Some-Refused-clause-only : goal.returns-in-Some-Refused-clause-only
returns-in-Some-Refused-clause-only g c = only_then c.sync_places.ensures.only c.look.ensures.only

pub returns-in-None-clause-only : goal.returns-in-None-clause-only
returns-in-None-clause-only g c = only_then c.sync_places.ensures.only c.look.ensures.only

pub returns-in-Some-Refused-clause-unreadable : goal.returns-in-Some-Refused-clause-unreadable
returns-in-Some-Refused-clause-unreadable g c place at is x told =
    look_is c.args.shelf x c.in_ok-side.field-0 _ _ c.in-Some-Refused.is c.in-Some-Refused.field-0-is (c.in_ok-side.ensures.value x (c.sync_places.ensures.only.same ∙ told))
    ∙ ap (λ (p : List ℕ). Unread p c.in-Some-Refused.at) (sym c.log_at-in-Some-Refused.ensures)
    ∙ cc

pub returns-in-None-clause-no_library : goal.returns-in-None-clause-no_library
returns-in-None-clause-no_library g c is x told = look_none c.args.shelf x c.in_ok-side.field-0 c.in-None.is (c.in_ok-side.ensures.value x (c.sync_places.ensures.only.same ∙ told))
