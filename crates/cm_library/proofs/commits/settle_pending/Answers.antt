use Rattle.std.proofs.Common.{◌≡◌, ◌+◌, length, inl, inr, sym, ◌∙◌, ap, subst, Bool, refl}
use Rattle.std.specs.Prelude.{Option, None, Some, if◌then◌else◌}
use Rattle.cm_log.specs.declared.shelf.Shelf.TheVariants.{PkgLib}
use Rattle.cm_log.specs.Logs.{shelved, added}
use Rattle.cm_log.specs.Outcomes.{IsFound}
use Rattle.cm_log.specs.Settled.{shelf_of, end_of}
use Rattle.cm_pkglib.specs.declared.change.Change.{Change}
use Rattle.cm_pkglib.specs.Changes.{spelled}
use Rattle.cm_pkglib.specs.Rows.{fault_of}
use Rattle.cm_filelib.specs.Places.{file_place}
use Rattle.cm_state.specs.State.{rows_of}
use Rattle.cm_state.specs.Changes.{record_of}
use Rattle.cm_contents.specs.Contents.{change_in}
use Rattle.cm_contents.specs.Seals.{brought}
use Rattle.cm_library.specs.Calls.{MayFind, Tells}
use Rattle.cm_library.specs.Kept.{IsKept, pending_in}
use Rattle.cm_library.proofs.Keeps.{kept_there, kept_not_there, kept_unsettled}
use Rattle.cm_library.proofs.Sure.{sure_apart, sure_same, sure_then, kept_needed}
use Rattle.cm_library.proofs.commits.settle_pending.Goals as goal

pub settle-requires : goal.settle-requires
settle-requires g c = record {
  stands = λ x told.
      let kept = subst (λ (p : Option Change). IsKept g.D.Disk.reads g.D.Disk.may_leave c.args.start.now.value c.args.disk.now c.args.log.now c.args.contents.now c.args.counts.now p) c.in-Some.is c.requires.kept in
      let st = kept.standing.stands x told in
      inr (shelved PkgLib st.before, spelled (record_of (change_in c.args.contents.now.taken c.in-Some.change)), st.either);
}

pub make-requires-clause-free : goal.make-requires-clause-free
make-requires-clause-free g c =
    let d = g.D.Disk in
    let start = c.args.start.now.value in
    let disk = c.args.disk.now in
    let log = c.args.log.now in
    let m = c.args.contents.now in
    let counts = c.args.counts.now in
    let change = c.in-Some.change in
    let kept = subst (λ (p : Option Change). IsKept d.reads d.may_leave start disk log m counts p) c.in-Some.is c.requires.kept in
    subst (λ (r : Change). fault_of (rows_of m.state) r ≡ None) kept.standing.idle_or.taken_for.says kept.standing.idle_or.may.allowed

pub make-requires-clause-taken : goal.make-requires-clause-taken
make-requires-clause-taken g c =
    let d = g.D.Disk in
    let start = c.args.start.now.value in
    let disk = c.args.disk.now in
    let log = c.args.log.now in
    let m = c.args.contents.now in
    let counts = c.args.counts.now in
    let change = c.in-Some.change in
    let kept = subst (λ (p : Option Change). IsKept d.reads d.may_leave start disk log m counts p) c.in-Some.is c.requires.kept in
    kept.standing.idle_or.taken_for

pub make-requires-clause-counted : goal.make-requires-clause-counted
make-requires-clause-counted g c =
    let d = g.D.Disk in
    let start = c.args.start.now.value in
    let disk = c.args.disk.now in
    let log = c.args.log.now in
    let m = c.args.contents.now in
    let counts = c.args.counts.now in
    let change = c.in-Some.change in
    let kept = subst (λ (p : Option Change). IsKept d.reads d.may_leave start disk log m counts p) c.in-Some.is c.requires.kept in
    kept.counted

pub make-requires-clause-stored : goal.make-requires-clause-stored
make-requires-clause-stored g c =
    let d = g.D.Disk in
    let start = c.args.start.now.value in
    let disk = c.args.disk.now in
    let log = c.args.log.now in
    let m = c.args.contents.now in
    let counts = c.args.counts.now in
    let change = c.in-Some.change in
    let kept = subst (λ (p : Option Change). IsKept d.reads d.may_leave start disk log m counts p) c.in-Some.is c.requires.kept in
    kept.stored

pub forget-requires : goal.forget-requires
forget-requires g c =
    let d = g.D.Disk in
    let start = c.args.start.now.value in
    let disk = c.args.disk.now in
    let log = c.args.log.now in
    let m = c.args.contents.now in
    let counts = c.args.counts.now in
    let change = c.in-Some.change in
    let kept = subst (λ (p : Option Change). IsKept d.reads d.may_leave start disk log m counts p) c.in-Some.is c.requires.kept in
    kept.counted

pub returns-in-Ok-true-clause-kept : goal.returns-in-Ok-true-clause-kept
returns-in-Ok-true-clause-kept g c =
    let d = g.D.Disk in
    let start = c.args.start.now.value in
    let disk = c.args.disk.now in
    let new = c.settle.new.disk in
    let log = c.args.log.now in
    let m = c.args.contents.now in
    let counts = c.args.counts.now in
    let change = c.in-Some.change in
    let kept = subst (λ (p : Option Change). IsKept d.reads d.may_leave start disk log m counts p) c.in-Some.is c.requires.kept in
    let s = c.settle.ensures in
    let silent = λ (none : d.reads disk ≡ None). s.only.same ∙ none in
    let sure = sure_apart d.reads d.may_leave start disk new m.state counts silent (λ x told hash left. s.only.stop (file_place hash) left) kept.sure in
    let e = c.in-Ok-true.ensures in
    let now = c.make.new.contents in
    record {
      standing = kept_there d.reads d.may_leave disk new log c.settle.new.self m now change kept.standing c.tells_valid.ensures c.make.ensures.state
          (subst (IsFound log c.settle.new.self) c.in-Ok-true.field-0-test e.ok) s.log.shelf s.only.same s.only.stop
          (λ x told before body u. subst (λ (b : Bool). shelved (shelf_of log) x ≡ (if b then added body before else before)) c.in-Ok-true.field-0-test (e.told x told before body u))
          (λ x told. (e.stands x told).settled) (g.met.D.Disk.as_it_reads new);
      counted = c.make.ensures.counted;
      stored = tt;
      sure = sure_then d.reads d.may_leave start new m.state now.state counts c.make.new.counts (change_in m.taken change) kept.stored c.make.ensures.state c.make.ensures.seals sure;
    }

pub returns-in-Ok-true-clause-found : goal.returns-in-Ok-true-clause-found
returns-in-Ok-true-clause-found g c =
    let d = g.D.Disk in
    let start = c.args.start.now.value in
    let disk = c.args.disk.now in
    let new = c.settle.new.disk in
    let log = c.args.log.now in
    let m = c.args.contents.now in
    let counts = c.args.counts.now in
    let change = c.in-Some.change in
    let kept = subst (λ (p : Option Change). IsKept d.reads d.may_leave start disk log m counts p) c.in-Some.is c.requires.kept in
    let found = subst (IsFound log c.settle.new.self) c.in-Ok-true.field-0-test c.in-Ok-true.ensures.ok in
    let end = found.end ∙ kept.standing.idle_or.end_with ∙ ap (λ (r : Change). end_of log + 5 + length (spelled r)) (sym kept.standing.idle_or.taken_for.says) in
    subst (λ (p : Option Change). MayFind (pending_in m.taken p) m.state (end_of log) c.make.new.contents.state (end_of c.settle.new.self)) (sym c.in-Some.is) (inr (c.make.ensures.state, end))

pub returns-in-Ok-true-clause-stands : goal.returns-in-Ok-true-clause-stands
returns-in-Ok-true-clause-stands g c x told = ((returns-in-Ok-true-clause-kept g c).standing.stands x (c.settle.ensures.only.same ∙ told)).stands

pub returns-in-Ok-true-clause-told : goal.returns-in-Ok-true-clause-told
returns-in-Ok-true-clause-told g c =
    let d = g.D.Disk in
    let start = c.args.start.now.value in
    let disk = c.args.disk.now in
    let new = c.settle.new.disk in
    let log = c.args.log.now in
    let m = c.args.contents.now in
    let counts = c.args.counts.now in
    let change = c.in-Some.change in
    let kept = subst (λ (p : Option Change). IsKept d.reads d.may_leave start disk log m counts p) c.in-Some.is c.requires.kept in
    subst (λ (p : Option Change). Tells (pending_in m.taken p) m.state c.make.new.contents.state (Some change)) (sym c.in-Some.is) (change_in m.taken change, refl, kept.standing.idle_or.taken_for.says, c.make.ensures.state)

pub returns-in-Ok-false-clause-kept : goal.returns-in-Ok-false-clause-kept
returns-in-Ok-false-clause-kept g c =
    let d = g.D.Disk in
    let start = c.args.start.now.value in
    let disk = c.args.disk.now in
    let new = c.settle.new.disk in
    let log = c.args.log.now in
    let m = c.args.contents.now in
    let counts = c.args.counts.now in
    let change = c.in-Some.change in
    let kept = subst (λ (p : Option Change). IsKept d.reads d.may_leave start disk log m counts p) c.in-Some.is c.requires.kept in
    let s = c.settle.ensures in
    let silent = λ (none : d.reads disk ≡ None). s.only.same ∙ none in
    let sure = sure_apart d.reads d.may_leave start disk new m.state counts silent (λ x told hash left. s.only.stop (file_place hash) left) kept.sure in
    let e = c.in-Ok-false.ensures in
    record {
      standing = kept_not_there d.reads d.may_leave disk new log c.settle.new.self m change kept.standing
          (subst (IsFound log c.settle.new.self) c.in-Ok-false.field-0-test e.ok) s.log.shelf s.only.same s.only.stop
          (λ x told before body u. subst (λ (b : Bool). shelved (shelf_of log) x ≡ (if b then added body before else before)) c.in-Ok-false.field-0-test (e.told x told before body u))
          (λ x told. (e.stands x told).settled) (g.met.D.Disk.as_it_reads new);
      counted = c.forget.ensures.counted;
      stored = tt;
      sure = sure_same d.reads d.may_leave start new m.state counts c.forget.new.counts c.forget.ensures.seals sure;
    }

pub returns-in-Ok-false-clause-found : goal.returns-in-Ok-false-clause-found
returns-in-Ok-false-clause-found g c =
    let d = g.D.Disk in
    let start = c.args.start.now.value in
    let disk = c.args.disk.now in
    let new = c.settle.new.disk in
    let log = c.args.log.now in
    let m = c.args.contents.now in
    let counts = c.args.counts.now in
    let change = c.in-Some.change in
    let kept = subst (λ (p : Option Change). IsKept d.reads d.may_leave start disk log m counts p) c.in-Some.is c.requires.kept in
    let found = subst (IsFound log c.settle.new.self) c.in-Ok-false.field-0-test c.in-Ok-false.ensures.ok in
    subst (λ (p : Option Change). MayFind (pending_in m.taken p) m.state (end_of log) m.state (end_of c.settle.new.self)) (sym c.in-Some.is) (inl (refl, found.end))

pub returns-in-Ok-false-clause-stands : goal.returns-in-Ok-false-clause-stands
returns-in-Ok-false-clause-stands g c x told = ((returns-in-Ok-false-clause-kept g c).standing.stands x (c.settle.ensures.only.same ∙ told)).stands

pub returns-in-Ok-false-clause-seals : goal.returns-in-Ok-false-clause-seals
returns-in-Ok-false-clause-seals g c =
    let d = g.D.Disk in
    let start = c.args.start.now.value in
    let disk = c.args.disk.now in
    let new = c.settle.new.disk in
    let log = c.args.log.now in
    let m = c.args.contents.now in
    let counts = c.args.counts.now in
    let change = c.in-Some.change in
    let kept = subst (λ (p : Option Change). IsKept d.reads d.may_leave start disk log m counts p) c.in-Some.is c.requires.kept in
    kept_needed counts c.forget.new.counts m.state (brought (Some (change_in m.taken change))) kept.counted c.forget.ensures.seals

pub returns-in-Err-clause-kept : goal.returns-in-Err-clause-kept
returns-in-Err-clause-kept g c =
    let d = g.D.Disk in
    let start = c.args.start.now.value in
    let disk = c.args.disk.now in
    let new = c.settle.new.disk in
    let log = c.args.log.now in
    let m = c.args.contents.now in
    let counts = c.args.counts.now in
    let change = c.in-Some.change in
    let kept = subst (λ (p : Option Change). IsKept d.reads d.may_leave start disk log m counts p) c.in-Some.is c.requires.kept in
    let s = c.settle.ensures in
    let silent = λ (none : d.reads disk ≡ None). s.only.same ∙ none in
    let sure = sure_apart d.reads d.may_leave start disk new m.state counts silent (λ x told hash left. s.only.stop (file_place hash) left) kept.sure in
    let e = c.in-Err.ensures in
    subst (λ (p : Option Change). IsKept d.reads d.may_leave start new c.settle.new.self m counts p) (sym c.in-Some.is)
    (record {
      standing = kept_unsettled d.reads d.may_leave disk new log c.settle.new.self m change kept.standing e.failed s.only.same s.only.stop e.unsettled;
      counted = kept.counted;
      stored = kept.stored;
      sure = sure;
    })
