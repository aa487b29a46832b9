use Rattle.std.proofs.Common.{◌≡◌, inr, Bool, true, false, refl, sym, ◌∙◌, ap, subst}
use Rattle.std.specs.Prelude.{Option, None, Some, if◌then◌else◌}
use Rattle.cm_log.specs.declared.shelf.Shelf.TheVariants.{Site}
use Rattle.cm_log.specs.Logs.{shelved, added}
use Rattle.cm_log.specs.Outcomes.{IsFound}
use Rattle.cm_log.specs.Settled.{shelf_of, end_of}
use Rattle.cm_notes.specs.Notes.{spelled}
use Rattle.cm_records.specs.declared.pending.Pending.{Pending}
use Rattle.cm_records.specs.Calls.{Tells}
use Rattle.cm_records.specs.Kept.{note_in, pending_in, IsRecords}
use Rattle.cm_records.proofs.Keeps.{kept_there, kept_not_there, kept_unsettled}
use Rattle.cm_records.proofs.settling.settle_pending.Goals as goal

pub settle-requires : goal.settle-requires
settle-requires g c = record {
  stands = λ x told.
      let records = subst (λ (p : Option Pending). IsRecords g.D.Disk.reads g.D.Disk.may_leave c.args.disk.now c.args.log.now c.args.kept.now p) (sym c.take.ensures.value ∙ c.in-Some.is) c.requires in
      let st = records.stands x told in
      inr (shelved Site st.before, spelled (note_in c.in-Some.one), st.either);
}

pub returns-in-Ok-true-clause-kept : goal.returns-in-Ok-true-clause-kept
returns-in-Ok-true-clause-kept g c =
    let d = g.D.Disk in
    let log = c.args.log.now in
    let records = subst (λ (p : Option Pending). IsRecords d.reads d.may_leave c.args.disk.now log c.args.kept.now p) (sym c.take.ensures.value ∙ c.in-Some.is) c.requires in
    let s = c.settle.ensures in
    let e = c.in-Ok-true.ensures in
    subst (λ (p : Option Pending). IsRecords d.reads d.may_leave c.settle.new.disk c.settle.new.self c.make.new.kept p) (sym c.take.ensures.after)
    (kept_there c.show_laws.ensures d.reads d.may_leave c.args.disk.now c.settle.new.disk log c.settle.new.self c.args.kept.now c.make.new.kept c.in-Some.one records c.make.ensures
    (subst (IsFound log c.settle.new.self) c.in-Ok-true.field-0-test e.ok) s.log.shelf s.only.same s.only.stop
    (λ x told before body u. subst (λ (b : Bool). shelved (shelf_of log) x ≡ (if b then added body before else before)) c.in-Ok-true.field-0-test (e.told x told before body u))
    (λ x told. (e.stands x told).settled) (g.met.D.Disk.as_it_reads c.settle.new.disk))

pub returns-in-Ok-false-clause-kept : goal.returns-in-Ok-false-clause-kept
returns-in-Ok-false-clause-kept g c =
    let d = g.D.Disk in
    let log = c.args.log.now in
    let records = subst (λ (p : Option Pending). IsRecords d.reads d.may_leave c.args.disk.now log c.args.kept.now p) (sym c.take.ensures.value ∙ c.in-Some.is) c.requires in
    let s = c.settle.ensures in
    let e = c.in-Ok-false.ensures in
    subst (λ (p : Option Pending). IsRecords d.reads d.may_leave c.settle.new.disk c.settle.new.self c.args.kept.now p) (sym c.take.ensures.after)
    (kept_not_there c.show_laws.ensures d.reads d.may_leave c.args.disk.now c.settle.new.disk log c.settle.new.self c.args.kept.now c.in-Some.one records
    (subst (IsFound log c.settle.new.self) c.in-Ok-false.field-0-test e.ok) s.log.shelf s.only.same s.only.stop
    (λ x told before body u. subst (λ (b : Bool). shelved (shelf_of log) x ≡ (if b then added body before else before)) c.in-Ok-false.field-0-test (e.told x told before body u))
    (λ x told. (e.stands x told).settled) (g.met.D.Disk.as_it_reads c.settle.new.disk))

pub returns-in-Err-clause-kept : goal.returns-in-Err-clause-kept
returns-in-Err-clause-kept g c =
    let d = g.D.Disk in
    let log = c.args.log.now in
    let records = subst (λ (p : Option Pending). IsRecords d.reads d.may_leave c.args.disk.now log c.args.kept.now p) (sym c.take.ensures.value ∙ c.in-Some.is) c.requires in
    let s = c.settle.ensures in
    kept_unsettled c.show_laws.ensures d.reads d.may_leave c.args.disk.now c.settle.new.disk log c.settle.new.self c.args.kept.now c.in-Some.one records c.in-Err.ensures.failed s.only.same s.only.stop c.in-Err.ensures.unsettled

pub returns-in-Ok-true-clause-told : goal.returns-in-Ok-true-clause-told
returns-in-Ok-true-clause-told g c =
    let d = g.D.Disk in
    let log = c.args.log.now in
    let was = sym c.take.ensures.value ∙ c.in-Some.is in
    let records = subst (λ (p : Option Pending). IsRecords d.reads d.may_leave c.args.disk.now log c.args.kept.now p) was c.requires in
    let found = subst (IsFound log c.settle.new.self) c.in-Ok-true.field-0-test c.in-Ok-true.ensures.ok in
    subst (λ (p : Option Pending). Tells (pending_in p) c.args.kept.now (end_of log) c.make.new.kept (end_of c.settle.new.self) true) (sym was)
    (record { makes = c.make.ensures; ends = found.end ∙ records.idle_or.end_with })

pub returns-in-Ok-false-clause-told : goal.returns-in-Ok-false-clause-told
returns-in-Ok-false-clause-told g c =
    let log = c.args.log.now in
    let found = subst (IsFound log c.settle.new.self) c.in-Ok-false.field-0-test c.in-Ok-false.ensures.ok in
    subst (λ (p : Option Pending). Tells (pending_in p) c.args.kept.now (end_of log) c.args.kept.now (end_of c.settle.new.self) false) (sym (sym c.take.ensures.value ∙ c.in-Some.is)) (refl, found.end)
