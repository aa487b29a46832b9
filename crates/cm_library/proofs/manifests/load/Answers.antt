use Rattle.std.proofs.Common.{List, ℕ, sym, ◌∙◌, ap, Result, Ok, Err}
use Rattle.std.specs.Prelude.{OnOk, IfOk}
use Rattle.cm_log.specs.Frames.{OnlyReads}
use Rattle.cm_log.proofs.Frames.{only_then}
use Rattle.cm_datalib.specs.Places.{manifest_place}
use Rattle.cm_state.specs.State.{Held}
use Rattle.cm_library.proofs.MapKept.{none_held, still_durable}
use Rattle.cm_library.proofs.manifests.load.Goals as goal

-- what holds of an Ok's value
if_ok : {T E : Type 0} {P Q : T → Type 0} → ((x : T) → P x → Q x) → (r : Result T E) → IfOk r P → IfOk r Q
if_ok f (Ok x) p = f x p
if_ok f (Err e) p = tt

-- what holds whatever the answer, holds after an Ok
ok_then : {T E : Type 0} {P : Type 0} (r : Result T E) → P → OnOk r P
ok_then (Ok x) p = p
ok_then (Err e) p = tt

pub returns-clause-found : goal.returns-clause-found
returns-clause-found g c =
    if_ok (λ found fits x told. fits (x (manifest_place c.args.row.now.package c.args.row.now.version)) (c.load-answer.ensures.answer x (c.sync.ensures.same ∙ told))) c.fitting.result c.fitting.ensures.found

pub returns-clause-durable : goal.returns-clause-durable
returns-clause-durable g c =
    let d = g.D.Disk in
    ok_then c.fitting.result (λ x told. still_durable x (d.may_leave c.sync.new.disk) (d.may_leave c.load-answer.new.disk) c.load-answer.ensures.stop c.args.row.now (c.in_ok-place.ensures.durable x (c.sync.ensures.same ∙ told)))

pub returns-clause-unreadable : goal.returns-clause-unreadable
returns-clause-unreadable g c place at is x told =
    let row = c.args.row.now in
    let u = c.fitting.ensures.unreadable place at is in
    let none = u.2 (x (manifest_place row.package row.version)) (c.load-answer.ensures.answer x (c.sync.ensures.same ∙ told)) in
    (none_held x row none ∙ ap (λ (p : List ℕ). let r : Result Held (List ℕ) = Err p in r) (sym (u.0 ∙ c.in_ok-place.ensures.place)), u.1)

pub returns-clause-only : goal.returns-clause-only
returns-clause-only g c =
    let d = g.D.Disk in
    let one : OnlyReads d.reads d.may_leave d.moment d.left_since d.faults c.args.disk.now c.sync.new.disk =
    record { same = c.sync.ensures.same; stop = c.sync.ensures.stop; run = c.sync.ensures.run; later = c.sync.ensures.cause.later } in
    let two : OnlyReads d.reads d.may_leave d.moment d.left_since d.faults c.sync.new.disk c.load-answer.new.disk =
    record { same = c.load-answer.ensures.same; stop = c.load-answer.ensures.stop; run = c.load-answer.ensures.run; later = c.load-answer.ensures.later } in
    only_then one two
