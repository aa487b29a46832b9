use Rattle.std.proofs.Common.{◌≡◌, ℕ, List, Bool, Ok, Err, Result, take, sym, ◌∙◌, ap, subst}
use Rattle.cm_log.specs.Logs.{Reading}
use Rattle.cm_log.specs.Settled.{rest_of, reader_at, reader_place}
use Rattle.cm_log.proofs.Frames.{only_then}
use Rattle.cm_notes.specs.Reading.{read_note}
use Rattle.cm_register.specs.Look.{after_read, register_from}
use Rattle.cm_state.specs.declared.fault.OpenFault.{OpenFault}
use Rattle.cm_state.specs.declared.fault.OpenFault.TheVariants.{Unreadable as OpenUnreadable}
use Rattle.cm_state.proofs.Steps.{closes}
use Rattle.cm_records.proofs.Naming.{err_is}
use Rattle.cm_records.proofs.Steps.{refuses, texts_take, reading_kept}
use Rattle.cm_records.proofs.reading.take_record.Goals as goal

pub returns-in-Ok-clause-reading : goal.returns-in-Ok-clause-reading
returns-in-Ok-clause-reading g c x told =
    let d = g.D.Disk in
    reading_kept x (d.may_leave c.next.new.disk) (d.may_leave c.take_body.new.disk) c.next.new.self c.take_body.ensures.only.stop (c.next.ensures.reading x (sym c.take_body.ensures.only.same ∙ told))

pub returns-in-Err-take_body-clause-reading : goal.returns-in-Err-take_body-clause-reading
returns-in-Err-take_body-clause-reading g c x told =
    let d = g.D.Disk in
    reading_kept x (d.may_leave c.next.new.disk) (d.may_leave c.take_body.new.disk) c.next.new.self c.take_body.ensures.only.stop (c.next.ensures.reading x (sym c.take_body.ensures.only.same ∙ told))

pub returns-in-Ok-clause-texts : goal.returns-in-Ok-clause-texts
returns-in-Ok-clause-texts g c x told sure =
    let d = g.D.Disk in
    let reader = c.args.reader.now in
    let some = (rw c.in-Ok-Some.field-0-is at c.in-Ok-Some.ensures.some).1 x told in
    texts_take x (d.may_leave c.args.disk.now) (d.may_leave c.take_body.new.disk) (reader_at reader) (take c.in-Ok-Some.count c.next.new.buf) (rest_of x reader) (rest_of x c.next.new.self)
    (only_then c.next.ensures.only c.take_body.ensures.only).stop some (c.in-Ok.ensures.texts x (c.next.ensures.only.same ∙ told)) sure

pub returns-in-Err-take_body-clause-unreadable : goal.returns-in-Err-take_body-clause-unreadable
returns-in-Err-take_body-clause-unreadable g c q n is x told =
    let reader = c.args.reader.now in
    let kept = c.args.kept.now in
    let body = take c.in-Ok-Some.count c.next.new.buf in
    let some = (rw c.in-Ok-Some.field-0-is at c.in-Ok-Some.ensures.some).1 x told in
    let fault = err_is {T = Bool} c.in-Err-take_body.fault (OpenUnreadable q n) is in
    let step = c.in-Err-take_body.ensures.unreadable q n (ap (λ (f : OpenFault). let r : Result (Unit {0}) OpenFault = Err f in r) fault) x (c.next.ensures.only.same ∙ told) in
    refuses x (reader_place reader) kept (reader_at reader) body (rest_of x reader) (rest_of x c.next.new.self) (q, n) some
    (subst (λ (p : List ℕ). after_read x (p, reader_at reader) (read_note body) kept ≡ Err (q, n)) c.place-place.ensures
    (subst (λ (m : ℕ). after_read x (c.place-place.result, m) (read_note body) kept ≡ Err (q, n)) c.at-at.ensures step))

pub returns-in-Ok-None-clause-goes_on : goal.returns-in-Ok-None-clause-goes_on
returns-in-Ok-None-clause-goes_on g c x told =
    let d = g.D.Disk in
    ap (λ (r : Reading). register_from x (reader_place c.args.reader.now) (Ok c.args.kept.now) r)
    (sym (closes x (d.may_leave c.args.disk.now) (d.may_leave c.next.new.disk) c.args.reader.now c.next.new.self (c.requires x told) (c.next.ensures.reading x (c.next.ensures.only.same ∙ told)) c.next.ensures.shelf
    ((rw c.in-Ok-None.field-0-is at c.in-Ok-None.ensures.none) x told) (rw c.in-Ok-None.field-0-is at c.in-Ok-None.ensures.ended)))
