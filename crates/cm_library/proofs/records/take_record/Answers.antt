use Rattle.std.proofs.Common.{ℕ, List, Bool, Result, Ok, take, sym, ◌∙◌, ap}
use Rattle.cm_log.specs.Logs.{Reading}
use Rattle.cm_log.specs.Settled.{rest_of, reader_at, reader_place}
use Rattle.cm_state.specs.declared.fault.OpenFault.{OpenFault}
use Rattle.cm_state.specs.Look.{Unreadable, library_from}
use Rattle.cm_library.proofs.Naming.{named}
use Rattle.cm_state.proofs.Steps.{closes, refuses}
use Rattle.cm_library.proofs.records.take_record.Goals as goal

pub returns-in-Ok-None-clause-goes_on : goal.returns-in-Ok-None-clause-goes_on
returns-in-Ok-None-clause-goes_on g c x told =
    let d = g.D.Disk in
    ap (λ (r : Reading). library_from x (reader_place c.args.reader.now) (Ok c.args.rows.now.rows) r)
    (sym (closes x (d.may_leave c.args.disk.now) (d.may_leave c.next.new.disk) c.args.reader.now c.next.new.self (c.requires.reading x told) (c.next.ensures.reading x (c.next.ensures.only.same ∙ told)) c.next.ensures.shelf
    ((rw c.in-Ok-None.field-0-is at c.in-Ok-None.ensures.none) x told) (rw c.in-Ok-None.field-0-is at c.in-Ok-None.ensures.ended)))

pub returns-in-Ok-false-clause-unreadable : goal.returns-in-Ok-false-clause-unreadable
returns-in-Ok-false-clause-unreadable g c place at is x told =
    let some = (rw c.in-Ok-Some.field-0-is at c.in-Ok-Some.ensures.some).1 x told in
    let none = c.in-Ok-false.ensures.refused (ap (λ (b : Bool). let r : Result Bool OpenFault = Ok b in r) c.in-Ok-false.field-0-test) in
    let here = reader_place c.args.reader.now in
    let gate = reader_at c.args.reader.now in
    named {T = Bool} c.place-place.result place c.at-gate.result at (library_from x here (Ok c.args.rows.now.rows) (rest_of x c.args.reader.now)) is
    (refuses x here c.args.rows.now.rows gate (take c.in-Ok-Some.count c.next.new.buf) (rest_of x c.args.reader.now) (rest_of x c.next.new.self) some none
    ∙ ap (λ (p : List ℕ). Unreadable p gate) (sym c.place-place.ensures)
    ∙ ap (λ (n : ℕ). Unreadable c.place-place.result n) (sym c.at-gate.ensures))
