use Rattle.std.proofs.Common.{◌≡◌, ◌⊎◌, inr, ℕ, List, refl, sym, ◌∙◌, subst}
use Rattle.std.specs.Prelude.{◌≢◌, Option, None, Some}
use Rattle.std.proofs.lemmas.Option.{same_Some}
use Rattle.cm_disk.specs.Disk.{Files}
use Rattle.cm_disk.proofs.Moments.{weaker}
use Rattle.cm_log.specs.declared.shelf.Shelf.{Shelf}
use Rattle.cm_log.specs.Logs.{shelved, added}
use Rattle.cm_log.specs.Settled.{shelf_of, place_of, IsBeforeOrAfter}
use Rattle.cm_notes.specs.Notes.{spelled}
use Rattle.cm_register.specs.Opens.{OpensOr}
use Rattle.cm_records.specs.declared.pending.Pending.{Pending}
use Rattle.cm_records.specs.Kept.{note_in, noted_in, IsRecords}
use Rattle.cm_records.proofs.Keeps.{kept_done, kept_failed}
use Rattle.cm_records.proofs.KeptPlaces.{logged_places}
use Rattle.cm_records.proofs.Standing.{logged_opens}
use Rattle.cm_records.proofs.replacing.commit.Goals as goal

pub add_record-requires-clause-idle : goal.add_record-requires-clause-idle
add_record-requires-clause-idle g c =
    (subst (λ (p : Option Pending). IsRecords g.D.Disk.reads g.D.Disk.may_leave c.args.disk.now c.args.log.now c.args.kept.now p) c.requires.idle c.requires.kept).idle_or

pub add_record-requires-clause-settled : goal.add_record-requires-clause-settled
add_record-requires-clause-settled g c x told =
    ((subst (λ (p : Option Pending). IsRecords g.D.Disk.reads g.D.Disk.may_leave c.args.disk.now c.args.log.now c.args.kept.now p) c.requires.idle c.requires.kept).stands x told).settled

pub returns-in-Ok-clause-kept : goal.returns-in-Ok-clause-kept
returns-in-Ok-clause-kept g c =
    let d = g.D.Disk in
    let disk = c.args.disk.now in
    let log = c.args.log.now in
    let kept = c.args.kept.now in
    let one = c.args.one in
    let new = c.add_record.new.disk in
    let records = subst (λ (p : Option Pending). IsRecords d.reads d.may_leave disk log kept p) c.requires.idle c.requires.kept in
    subst (λ (p : Option Pending). IsRecords d.reads d.may_leave new c.add_record.new.log c.make.new.kept p) (sym c.requires.idle)
    (kept_done c.show_laws.ensures d.reads d.may_leave disk new log c.add_record.new.log kept c.make.new.kept one records c.add_record.ensures.form c.requires.brings c.make.ensures
    c.in-Ok.ensures.idle c.add_record.ensures.shelf c.add_record.ensures.alone.silent c.add_record.ensures.alone.others c.in-Ok.ensures.adds c.in-Ok.ensures.settled (λ files told. g.met.D.Disk.as_it_reads new files told))

pub returns-in-Err-clause-kept : goal.returns-in-Err-clause-kept
returns-in-Err-clause-kept g c =
    let d = g.D.Disk in
    let disk = c.args.disk.now in
    let log = c.args.log.now in
    let kept = c.args.kept.now in
    let records = subst (λ (p : Option Pending). IsRecords d.reads d.may_leave disk log kept p) c.requires.idle c.requires.kept in
    kept_failed c.show_laws.ensures d.reads d.may_leave disk c.add_record.new.disk log c.add_record.new.log kept c.args.one records c.add_record.ensures.form c.requires.brings c.in-Err.ensures.failed c.add_record.ensures.shelf
    c.add_record.ensures.alone.silent c.add_record.ensures.alone.others c.in-Err.ensures.unsettled

pub returns-in-Ok-clause-done : goal.returns-in-Ok-clause-done
returns-in-Ok-clause-done g c =
    (c.requires.idle, record { makes = c.make.ensures; ends = c.in-Ok.ensures.end })

pub returns-in-Ok-clause-any_moment : goal.returns-in-Ok-clause-any_moment
returns-in-Ok-clause-any_moment g c x told =
    let d = g.D.Disk in
    let disk = c.args.disk.now in
    let log = c.args.log.now in
    let kept = c.args.kept.now in
    let one = c.args.one in
    let new = c.add_record.new.disk in
    let records = subst (λ (p : Option Pending). IsRecords d.reads d.may_leave disk log kept p) c.requires.idle c.requires.kept in
    weaker d.moment d.left_since disk new (IsBeforeOrAfter (shelf_of log) (place_of log) (d.may_leave disk) (shelved (shelf_of log) x) (spelled (note_in one))) (OpensOr kept (Some (noted_in one))) (c.add_record.ensures.any_moment x told)
    (logged_opens c.show_laws.ensures x (d.may_leave disk) log kept records.shelf (records.stands x told) one c.add_record.ensures.form (c.requires.brings x told))

pub returns-in-Err-clause-any_moment : goal.returns-in-Err-clause-any_moment
returns-in-Err-clause-any_moment g c x told =
    let d = g.D.Disk in
    let disk = c.args.disk.now in
    let log = c.args.log.now in
    let kept = c.args.kept.now in
    let one = c.args.one in
    let new = c.add_record.new.disk in
    let records = subst (λ (p : Option Pending). IsRecords d.reads d.may_leave disk log kept p) c.requires.idle c.requires.kept in
    weaker d.moment d.left_since disk new (IsBeforeOrAfter (shelf_of log) (place_of log) (d.may_leave disk) (shelved (shelf_of log) x) (spelled (note_in one))) (OpensOr kept (Some (noted_in one))) (c.add_record.ensures.any_moment x told)
    (logged_opens c.show_laws.ensures x (d.may_leave disk) log kept records.shelf (records.stands x told) one c.add_record.ensures.form (c.requires.brings x told))

pub returns-in-Ok-clause-places : goal.returns-in-Ok-clause-places
returns-in-Ok-clause-places g c x told =
    let d = g.D.Disk in
    let log = c.args.log.now in
    let records = subst (λ (p : Option Pending). IsRecords d.reads d.may_leave c.args.disk.now log c.args.kept.now p) c.requires.idle c.requires.kept in
    let a = c.in-Ok.ensures.adds x told in
    (a.0, a.1, logged_places x a.0 log (spelled (note_in c.args.one)) records.shelf (records.stands x told).settled.ends a.2.others (inr a.2.log))

pub returns-in-Err-clause-places : goal.returns-in-Err-clause-places
returns-in-Err-clause-places g c x told =
    let d = g.D.Disk in
    let log = c.args.log.now in
    let records = subst (λ (p : Option Pending). IsRecords d.reads d.may_leave c.args.disk.now log c.args.kept.now p) c.requires.idle c.requires.kept in
    let u = c.in-Err.ensures.unsettled x told in
    let k = c.add_record.ensures.alone.kept x told in
    let others = subst (λ (now : Files). (q : List ℕ) → q ≢ place_of log → now q ≡ x q) (same_Some k.0 u.0 (sym k.1 ∙ u.1)) k.2 in
    let body = spelled (note_in c.args.one) in
    let was = shelved (shelf_of log) x in
    let either = subst (λ (s : Shelf). (shelved s u.0 ≡ was) ⊎ (shelved s u.0 ≡ added body was)) c.add_record.ensures.shelf u.2.reads in
    (u.0, u.1, logged_places x u.0 log body records.shelf (records.stands x told).settled.ends others either)
