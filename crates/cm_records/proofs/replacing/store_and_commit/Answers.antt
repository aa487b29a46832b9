use Rattle.std.proofs.Common.{inl, inr, ◌<◌, ◌^◌, refl, sym, ap, subst, arith}
use Rattle.std.specs.Prelude.{Option, None, Some}
use Rattle.cm_disk.specs.Disk.{File}
use Rattle.cm_disk.proofs.Moments.{joins}
use Rattle.cm_disk.proofs.Puts.{told_before}
use Rattle.cm_register.specs.Opens.{OpensOr}
use Rattle.cm_textlib.specs.Places.{topology_place}
use Rattle.cm_records.specs.declared.pending.Pending.{Pending}
use Rattle.cm_records.specs.Kept.{noted_in, pending_in, IsRecords}
use Rattle.cm_records.specs.Placing.{KeepsPlaces}
use Rattle.cm_records.proofs.Keeps.{kept_stored}
use Rattle.cm_records.proofs.KeptPlaces.{does_places, joined_places}
use Rattle.cm_records.proofs.Moments.{now_as_left, storing_leaves}
use Rattle.cm_records.proofs.replacing.store_and_commit.Goals as goal

pub commit-requires-clause-kept : goal.commit-requires-clause-kept
commit-requires-clause-kept g c =
    let d = g.D.Disk in
    let disk = c.args.disk.now in
    let log = c.args.log.now in
    let kept = c.args.kept.now in
    let mid = c.store.new.disk in
    let small : c.args.one.number < 2 ^ 32 = omega arith in
    let next : kept.number < c.args.one.number = omega (arith, c.requires.next) in
    let records = subst (λ (p : Option Pending). IsRecords d.reads d.may_leave disk log kept p) c.requires.idle c.requires.kept in
    subst (λ (p : Option Pending). IsRecords d.reads d.may_leave mid log kept p) (sym c.requires.idle)
    (kept_stored c.show_laws.ensures d.reads d.may_leave disk mid log kept c.args.one.number records small next c.store.ensures.work.silent c.store.ensures.others (λ files told. g.met.D.Disk.as_it_reads mid files told))

pub commit-requires-clause-brings : goal.commit-requires-clause-brings
commit-requires-clause-brings g c x told =
    let before = told_before (g.D.Disk.reads c.args.disk.now) (g.D.Disk.reads c.store.new.disk) c.store.ensures.work.silent x told in
    record { text = c.args.text.now; sure = c.in-Ok.ensures.durable before.0 before.1; named = c.requires.named }

pub returns-in-Err-clause-kept : goal.returns-in-Err-clause-kept
returns-in-Err-clause-kept g c =
    let d = g.D.Disk in
    let disk = c.args.disk.now in
    let log = c.args.log.now in
    let kept = c.args.kept.now in
    let mid = c.store.new.disk in
    let small : c.args.one.number < 2 ^ 32 = omega arith in
    let next : kept.number < c.args.one.number = omega (arith, c.requires.next) in
    let records = subst (λ (p : Option Pending). IsRecords d.reads d.may_leave disk log kept p) c.requires.idle c.requires.kept in
    subst (λ (p : Option Pending). IsRecords d.reads d.may_leave mid log kept p) (sym c.requires.idle)
    (kept_stored c.show_laws.ensures d.reads d.may_leave disk mid log kept c.args.one.number records small next c.store.ensures.work.silent c.store.ensures.others (λ files told. g.met.D.Disk.as_it_reads mid files told))

pub returns-in-Err-clause-failed : goal.returns-in-Err-clause-failed
returns-in-Err-clause-failed g c = (refl, refl, inl (ap pending_in c.requires.idle))

pub returns-in-Err-clause-any_moment : goal.returns-in-Err-clause-any_moment
returns-in-Err-clause-any_moment g c =
    let d = g.D.Disk in
    let disk = c.args.disk.now in
    let log = c.args.log.now in
    let kept = c.args.kept.now in
    let small : c.args.one.number < 2 ^ 32 = omega arith in
    let next : kept.number < c.args.one.number = omega (arith, c.requires.next) in
    let records = subst (λ (p : Option Pending). IsRecords d.reads d.may_leave disk log kept p) c.requires.idle c.requires.kept in
    storing_leaves c.show_laws.ensures d.reads d.may_leave d.moment d.left_since disk c.store.new.disk log kept c.args.one.number (Some (noted_in c.args.one)) records small next c.store.ensures.run

pub returns-in-Err-clause-places : goal.returns-in-Err-clause-places
returns-in-Err-clause-places g c =
    let d = g.D.Disk in
    does_places (d.reads c.args.disk.now) (d.reads c.store.new.disk) (topology_place c.args.one.number) (λ (file : File). Some c.args.text.now) c.store.result (inr (inr (c.args.one.number, refl))) (λ file. refl) c.store.ensures.work

pub returns-in-Err-clause-either : goal.returns-in-Err-clause-either
returns-in-Err-clause-either g c =
    let d = g.D.Disk in
    now_as_left d.reads d.may_leave d.moment d.left_since g.met.D.Disk.counts_now g.met.D.Disk.as_it_reads c.args.disk.now c.store.new.disk KeepsPlaces (OpensOr c.args.kept.now (Some (noted_in c.args.one)))
    (returns-in-Err-clause-places g c) (returns-in-Err-clause-any_moment g c)

pub returns-in-Ok-clause-any_moment : goal.returns-in-Ok-clause-any_moment
returns-in-Ok-clause-any_moment g c x told =
    let d = g.D.Disk in
    let disk = c.args.disk.now in
    let log = c.args.log.now in
    let kept = c.args.kept.now in
    let mid = c.store.new.disk in
    let small : c.args.one.number < 2 ^ 32 = omega arith in
    let next : kept.number < c.args.one.number = omega (arith, c.requires.next) in
    let records = subst (λ (p : Option Pending). IsRecords d.reads d.may_leave disk log kept p) c.requires.idle c.requires.kept in
    let Or = OpensOr kept (Some (noted_in c.args.one)) in
    joins d.moment d.left_since disk mid c.commit.new.disk Or Or
    (storing_leaves c.show_laws.ensures d.reads d.may_leave d.moment d.left_since disk mid log kept c.args.one.number (Some (noted_in c.args.one)) records small next c.store.ensures.run x told)
    (c.commit.ensures.any_moment _ (c.in-Ok.ensures.work.ok x told)) (λ left or. or)

pub returns-in-Ok-clause-places : goal.returns-in-Ok-clause-places
returns-in-Ok-clause-places g c =
    let d = g.D.Disk in
    joined_places (d.reads c.args.disk.now) (d.reads c.store.new.disk) (d.reads c.commit.new.disk)
    (does_places (d.reads c.args.disk.now) (d.reads c.store.new.disk) (topology_place c.args.one.number) (λ (file : File). Some c.args.text.now) c.store.result (inr (inr (c.args.one.number, refl))) (λ file. refl) c.store.ensures.work)
    c.commit.ensures.places

pub returns-in-Ok-clause-either : goal.returns-in-Ok-clause-either
returns-in-Ok-clause-either g c =
    let d = g.D.Disk in
    now_as_left d.reads d.may_leave d.moment d.left_since g.met.D.Disk.counts_now g.met.D.Disk.as_it_reads c.args.disk.now c.commit.new.disk KeepsPlaces (OpensOr c.args.kept.now (Some (noted_in c.args.one)))
    (returns-in-Ok-clause-places g c) (returns-in-Ok-clause-any_moment g c)
