use Rattle.std.proofs.Common.{◌≡◌, ℕ, List, OnOk, Result, Ok, Err, Option, Some, inl, inr, ◌∙◌}
use Rattle.std.specs.Prelude.{◌≢◌}
use Rattle.std.specs.Option.{ForSome}
use Rattle.cm_disk.specs.Disk.{File, Files, IsImage}
use Rattle.cm_log.specs.declared.faults.CreateFault.{CreateFault}
use Rattle.cm_log.specs.declared.faults.CreateFault.TheVariants.{Disk}
use Rattle.cm_log.specs.declared.shelf.Shelf.TheVariants.{Site}
use Rattle.cm_log.specs.declared.shelf.Side.{Side}
use Rattle.cm_log.specs.Settled.{Makes as MakesLog, MakesOrNot as MakesLogOrNot, Rests, IsMaking}
use Rattle.cm_log.specs.Shelves.{ready_place, log_place}
use Rattle.cm_log.proofs.Shelveds.{alike}
use Rattle.cm_register.specs.Laws.{NewIsEmpty}
use Rattle.cm_register.specs.Opens.{Makes, MakesOrNot, IsMade, IsMadeOrNot}
use Rattle.cm_register.proofs.New.{missing, not_missing}
use Rattle.cm_records.proofs.KeptPlaces.{made_places}
use Rattle.cm_records.proofs.records.Records.init.Goals as goal

made : NewIsEmpty → (old new : Option Files) (result : Result (Unit {0}) CreateFault) → OnOk result (ForSome old (λ files. (now : Files) × (new ≡ Some now) × MakesLog Site files now)) → OnOk result (Makes old new)
made empty old new (Err fault) log = tt
made empty old new (Ok done) log = (
  λ files told. missing files (log files told).2.none,
  λ files told. let makes = log files told in (makes.0, makes.1, empty makes.0 makes.2.made),
)

pub returns-clause-made : goal.returns-clause-made
returns-clause-made g c = made c.a_new_log_is_empty.ensures _ _ c.create.result c.create.ensures.made

pub returns-clause-there : goal.returns-clause-there
returns-clause-there g c = λ is files told. not_missing files (c.create.ensures.there is files told)

pub returns-clause-same : goal.returns-clause-same
returns-clause-same g c there = (c.create.ensures.only there).same

-- the records are durable
durable : NewIsEmpty → (old new : Option Files) (may_leave : List ℕ → File → Type 0) (result : Result (Unit {0}) CreateFault) → OnOk result (ForSome old (λ files. (now : Files) × (new ≡ Some now) × MakesLog Site files now))
    → (result ≢ Err Disk → ForSome new (λ files. Rests Site files may_leave)) → OnOk result (ForSome old (λ files. (left : Files) → IsImage may_leave left → IsMade left))
durable empty old new may_leave (Err fault) log rests = tt
durable empty old new may_leave (Ok done) log rests = λ files told left image.
    let makes = log files told in
    let rest = rests (λ e. absurd (cc)) makes.0 makes.1 in
    empty left
    (alike Site makes.0 left (rest.ready (left (ready_place Site)) (image (ready_place Site))) (λ (side : Side). rest.logs side (left (log_place Site side)) (image (log_place Site side))) ∙ makes.2.made)

pub returns-clause-durable : goal.returns-clause-durable
returns-clause-durable g c = durable c.a_new_log_is_empty.ensures _ _ (g.D.Disk.may_leave c.create.new.disk) c.create.result c.create.ensures.made c.create.ensures.rests

-- what a stop leaves while the log is made, as records
as_records : NewIsEmpty → (files : Files) (may_leave : List ℕ → File → Type 0) (left : Files) → IsMaking Site files may_leave left → IsMadeOrNot files may_leave left
as_records empty files may_leave left making = elim making.log [
  | inl image ↦ inl image
  | inr log ↦ inr (missing files log.0, elim log.1 [ inl none ↦ inl (missing left none) | inr fresh ↦ inr (empty left fresh) ])
]

pub returns-clause-any_moment : goal.returns-clause-any_moment
returns-clause-any_moment g c = λ files told.
    let may_leave = g.D.Disk.may_leave c.args.disk.now in
    let empty = c.a_new_log_is_empty.ensures in
    let made = c.create.ensures.any_moment files told in
    record {
      later = made.later;
      each = λ left since. as_records empty files may_leave left (made.each left since);
      before = λ t left early since. elim (made.before t left early since) [ inl past ↦ inl past | inr making ↦ inr (as_records empty files may_leave left making) ];
    }

-- what reads give after a failure, as records
failed : NewIsEmpty → (old new : Option Files) → MakesLogOrNot Site old new → MakesOrNot old new
failed empty old new log = λ files told.
    let now = log files told in (
      now.0,
      now.1,
      elim now.2 [
        | inl same ↦ inl same
        | inr made ↦ inr (missing files made.0, elim made.1 [ inl none ↦ inl (missing now.0 none) | inr fresh ↦ inr (empty now.0 fresh) ])
      ],
    )

pub returns-clause-failed : goal.returns-clause-failed
returns-clause-failed g c = λ fault. failed c.a_new_log_is_empty.ensures (g.D.Disk.reads c.args.disk.now) (g.D.Disk.reads c.create.new.disk) (c.create.ensures.failed fault)

pub returns-clause-places : goal.returns-clause-places
returns-clause-places g c = made_places (g.D.Disk.reads c.args.disk.now) (g.D.Disk.reads c.create.new.disk) c.create.ensures.alone.kept c.create.ensures.none_gone
