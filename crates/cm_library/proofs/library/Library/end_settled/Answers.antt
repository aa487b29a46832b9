use Rattle.std.proofs.Common.{◌≡◌, ◌+◌, ◌≤◌, ℕ, List, inr, length, refl, sym, ◌∙◌, ap, subst}
use Rattle.std.specs.Prelude.{Option, None, Some, Result, option_map}
use Rattle.std.specs.Option.{ForSome}
use Rattle.cm_base.specs.declared.hash.Hash.{Hash}
use Rattle.cm_disk.specs.Disk.{LeavesOnly}
use Rattle.cm_log.specs.Settled.{end_of}
use Rattle.cm_filelib.specs.declared.writing.Writing.{Writing}
use Rattle.cm_pkglib.specs.declared.change.Change.{Change}
use Rattle.cm_pkglib.specs.declared.counts.Seal.{Seal}
use Rattle.cm_pkglib.specs.declared.counts.Counts.{Counts}
use Rattle.cm_pkglib.specs.Changes.{spelled}
use Rattle.cm_pkglib.specs.Counts.{sealed_of, seals_in, seal_at}
use Rattle.cm_pkglib.specs.Rows.{fault_of}
use Rattle.cm_pkglib.proofs.Times.{seals_are}
use Rattle.cm_state.specs.declared.fault.LibFault.{LibFault}
use Rattle.cm_state.specs.Changes.{StateChange, record_of, changed, if_allowed}
use Rattle.cm_state.specs.Opens.{OpensOr, StandsOr, EachOpensSome}
use Rattle.cm_state.specs.State.{rows_of}
use Rattle.cm_state.proofs.Lists.{no_some}
use Rattle.cm_contents.specs.Contents.{InMemory, change_in}
use Rattle.cm_contents.specs.Seals.{AreStored, end_fault}
use Rattle.cm_library.specs.Calls.{KeepsNeeded, Ends}
use Rattle.cm_library.specs.Kept.{Seen, pending_in, IsKept}
use Rattle.cm_library.specs.Started.{AreStarted, EndsNone}
use Rattle.cm_library.proofs.StartedFiles.{ends_none, files_done, files_failed, left_fewer, store_kept}
use Rattle.cm_library.proofs.AnyMoment.{is_taken}
use Rattle.cm_library.proofs.EndChanges.{ending_in, ending_taken, ending_range, ending_may, end_free, end_stored}
use Rattle.cm_library.proofs.Refused.{refused_stands, refused_opens}
use Rattle.cm_library.proofs.library.Library.end_settled.Goals as goal
use Rattle.cm_library.proofs.library.Library.end_settled.Goals.{in-Ok, in-Err}

pub returns-in-Some-clause-stands : goal.returns-in-Some-clause-stands
returns-in-Some-clause-stands g c =
    let d = g.D.Disk in
    let s = c.self.inside in
    refused_stands d.reads d.may_leave d.moment d.left_since g.met.D.Disk.only_now s.start.value s.disk s.log s.contents s.counts s.pending s.started.items c.args.self.now (if_allowed (change_in None c.args.change.now)) c.self.view_is c.requires.settled c.self.invariant.kept c.args.self.now.disk (ap (λ (v : Seen g.row.D.Denot). v.disk) c.self.view_is)

pub returns-in-Some-clause-opens : goal.returns-in-Some-clause-opens
returns-in-Some-clause-opens g c =
    let d = g.D.Disk in
    let s = c.self.inside in
    refused_opens d.reads d.may_leave d.moment d.left_since g.met.D.Disk.only_now s.start.value s.disk s.log s.contents s.counts s.pending s.started.items c.args.self.now (if_allowed (change_in None c.args.change.now)) c.self.view_is c.requires.settled c.self.invariant.kept c.args.self.now.disk (ap (λ (v : Seen g.row.D.Denot). v.disk) c.self.view_is)

pub commit-requires-clause-stored : goal.commit-requires-clause-stored
commit-requires-clause-stored g c =
    let s = c.self.inside in
    let change = c.args.change.now in
    let fault_none : end_fault (λ hash. sealed_of s.counts hash) s.contents.state (change_in None change) ≡ None =
    ap (λ (f : Hash → Option Seal). end_fault f s.contents.state (change_in None change)) (seals_are s.counts) ∙ ap (λ (v : Seen g.row.D.Denot). end_fault (seal_at v.seals) v.state (change_in None change)) c.self.view_is ∙ sym c.in-None.ensures in
    subst (λ (sc : StateChange). AreStored (λ hash. sealed_of s.counts hash) sc s.contents.state) (sym (ending_in s.contents.taken change c.requires.ends))
    (end_stored (λ hash. sealed_of s.counts hash) s.contents.state (change_in None change) fault_none)

pub commit-requires-clause-may : goal.commit-requires-clause-may
commit-requires-clause-may g c =
    let s = c.self.inside in
    let change = c.args.change.now in
    let fault_none : end_fault (λ hash. sealed_of s.counts hash) s.contents.state (change_in None change) ≡ None =
    ap (λ (f : Hash → Option Seal). end_fault f s.contents.state (change_in None change)) (seals_are s.counts) ∙ ap (λ (v : Seen g.row.D.Denot). end_fault (seal_at v.seals) v.state (change_in None change)) c.self.view_is ∙ sym c.in-None.ensures in
    let free = subst (λ (r : Change). fault_of (rows_of s.contents.state) r ≡ None) (ending_taken None change c.requires.ends).says (end_free (λ hash. sealed_of s.counts hash) s.contents.state (change_in None change) fault_none) in
    ending_may (end_of s.log) s.contents.state s.contents.taken change c.requires.ends c.requires.form free c.self.invariant.kept.standing.fit.room

pub returns-clause-stands : goal.returns-clause-stands
returns-clause-stands g c =
    let d = g.D.Disk in
    let s = c.self.inside in
    let change = c.args.change.now in
    let none = no_some (change_in s.contents.taken) s.pending (ap (λ (v : Seen g.row.D.Denot). v.pending) c.self.view_is ∙ c.requires.settled) in
    let whole_kept = subst (λ (p : Option Change). IsKept d.reads d.may_leave s.start.value s.disk s.log s.contents s.counts p) none c.self.invariant.kept in
    let kept = whole_kept.standing in
    let fault_none : end_fault (λ hash. sealed_of s.counts hash) s.contents.state (change_in None change) ≡ None =
    ap (λ (f : Hash → Option Seal). end_fault f s.contents.state (change_in None change)) (seals_are s.counts) ∙ ap (λ (v : Seen g.row.D.Denot). end_fault (seal_at v.seals) v.state (change_in None change)) c.self.view_is ∙ sym c.in-None.ensures in
    let new = c.commit.new.disk in
    let free = end_free (λ hash. sealed_of s.counts hash) s.contents.state (change_in None change) fault_none in
    subst (λ (v : Seen g.row.D.Denot). ForSome (d.reads v.disk) (λ files. LeavesOnly d.moment d.left_since v.disk new (StandsOr v.state (if_allowed (change_in None change) v.state)))) c.self.view_is
    (λ x told. subst (λ (o : Option StateChange). LeavesOnly d.moment d.left_since s.disk new (StandsOr s.contents.state o)) (sym (is_taken (change_in None change) s.contents.state (ending_range change c.requires.ends) free))
    (subst (λ (sc : StateChange). LeavesOnly d.moment d.left_since s.disk new (StandsOr s.contents.state (Some sc))) (ending_in s.contents.taken change c.requires.ends) (c.commit.ensures.stands x told)))

pub returns-clause-opens : goal.returns-clause-opens
returns-clause-opens g c =
    let d = g.D.Disk in
    let s = c.self.inside in
    let change = c.args.change.now in
    let none = no_some (change_in s.contents.taken) s.pending (ap (λ (v : Seen g.row.D.Denot). v.pending) c.self.view_is ∙ c.requires.settled) in
    let whole_kept = subst (λ (p : Option Change). IsKept d.reads d.may_leave s.start.value s.disk s.log s.contents s.counts p) none c.self.invariant.kept in
    let kept = whole_kept.standing in
    let fault_none : end_fault (λ hash. sealed_of s.counts hash) s.contents.state (change_in None change) ≡ None =
    ap (λ (f : Hash → Option Seal). end_fault f s.contents.state (change_in None change)) (seals_are s.counts) ∙ ap (λ (v : Seen g.row.D.Denot). end_fault (seal_at v.seals) v.state (change_in None change)) c.self.view_is ∙ sym c.in-None.ensures in
    let new = c.commit.new.disk in
    let free = end_free (λ hash. sealed_of s.counts hash) s.contents.state (change_in None change) fault_none in
    subst (λ (v : Seen g.row.D.Denot). EachOpensSome (d.may_leave v.start) → ForSome (d.reads v.disk) (λ files. LeavesOnly d.moment d.left_since v.disk new (OpensOr v.state (if_allowed (change_in None change) v.state)))) c.self.view_is
    (λ whole x told. subst (λ (o : Option StateChange). LeavesOnly d.moment d.left_since s.disk new (OpensOr s.contents.state o)) (sym (is_taken (change_in None change) s.contents.state (ending_range change c.requires.ends) free))
    (subst (λ (sc : StateChange). LeavesOnly d.moment d.left_since s.disk new (OpensOr s.contents.state (Some sc))) (ending_in s.contents.taken change c.requires.ends) (c.commit.ensures.opens whole x told)))

pub invariant_of-self : goal.invariant_of-self
invariant_of-self g c =
    let d = g.D.Disk in
    let s = c.self.inside in
    let p = c.commit.new in
    let change = c.args.change.now in
    let ending : StateChange = change_in None change in
    let state = s.contents.state in
    let left = c.leave_by.new.started.items in
    let same = ending_in s.contents.taken change c.requires.ends in
    let none = no_some (change_in s.contents.taken) s.pending (ap (λ (v : Seen g.row.D.Denot). v.pending) c.self.view_is ∙ c.requires.settled) in
    let fault_none : end_fault (λ hash. sealed_of s.counts hash) state ending ≡ None =
    ap (λ (f : Hash → Option Seal). end_fault f state ending) (seals_are s.counts) ∙ ap (λ (v : Seen g.row.D.Denot). end_fault (seal_at v.seals) v.state ending) c.self.view_is ∙ sym c.in-None.ensures in
    let files = subst (λ (o : Option Change). AreStarted (d.reads s.disk) state (λ hash. sealed_of s.counts hash) (pending_in s.contents.taken o) s.started.items) none c.self.invariant.files in
    let fewer = subst (λ (xs : List (ℕ × Writing)). AreStarted (d.reads s.disk) state (λ hash. sealed_of s.counts hash) None xs) (sym c.leave_by.ensures.rest) (left_fewer (d.reads s.disk) state (λ hash. sealed_of s.counts hash) ending s.started.items files) in
    let ends = subst (λ (xs : List (ℕ × Writing)). EndsNone ending xs) (sym c.leave_by.ensures.rest) (ends_none state (λ hash. sealed_of s.counts hash) ending s.started.items files.each (end_stored (λ hash. sealed_of s.counts hash) state ending fault_none)) in
    let there = store_kept (d.reads s.disk) (d.reads p.disk) state (λ hash. sealed_of s.counts hash) None left c.commit.ensures.store c.commit.ensures.silent fewer in
    record {
      kept = c.commit.ensures.kept;
      files = elim c.match-commit.branch [
        | in-Ok w ↦
            let done = w.in-Ok.ensures.done in
            subst (λ (o : Option Change). AreStarted (d.reads p.disk) p.contents.state (λ hash. sealed_of p.counts hash) (pending_in p.contents.taken o) left) (sym done.2)
            (files_done (d.reads p.disk) state p.contents.state (λ hash. sealed_of s.counts hash) (λ hash. sealed_of p.counts hash) None ending left (done.0 ∙ ap (λ (sc : StateChange). changed sc state) same) ends done.3 there)
        | in-Err w ↦
            let failed = w.in-Err.ensures.failed in
            subst (λ (x : InMemory). AreStarted (d.reads p.disk) x.state (λ hash. sealed_of p.counts hash) (pending_in x.taken p.pending) left) (sym failed.0)
            (subst (λ (o : Option Change). AreStarted (d.reads p.disk) state (λ hash. sealed_of p.counts hash) (pending_in s.contents.taken o) left) (sym failed.2)
            (subst (λ (counts : Counts). AreStarted (d.reads p.disk) state (λ hash. sealed_of counts hash) (Some (change_in s.contents.taken change)) left) (sym failed.3)
            (subst (λ (sc : StateChange). AreStarted (d.reads p.disk) state (λ hash. sealed_of s.counts hash) (Some sc) left) (sym same)
            (files_failed (d.reads p.disk) state (λ hash. sealed_of s.counts hash) ending left ends there))))
      ];
      enough = subst (λ (n : ℕ). 256 ≤ n) (sym c.leave_by.ensures.capacity) c.self.invariant.enough;
    }

pub returns-clause-ends : goal.returns-clause-ends
returns-clause-ends g c =
    let d = g.D.Disk in
    let s = c.self.inside in
    let change = c.args.change.now in
    let p = c.commit.new in
    let same = ending_in s.contents.taken change c.requires.ends in
    let says : record_of (change_in None change) ≡ change = (ending_taken None change c.requires.ends).says in
    let none = no_some (change_in s.contents.taken) s.pending (ap (λ (v : Seen g.row.D.Denot). v.pending) c.self.view_is ∙ c.requires.settled) in
    let was : Seen g.row.D.Denot = record { disk = s.disk; start = s.start.value; state = s.contents.state; seals = seals_in s.counts; started = s.started.items; end = end_of s.log; pending = pending_in s.contents.taken s.pending } in
    let now : Seen g.row.D.Denot = record { disk = p.disk; start = s.start.value; state = p.contents.state; seals = seals_in p.counts; started = c.leave_by.new.started.items; end = end_of p.log; pending = pending_in p.contents.taken p.pending } in
    subst (λ (v : Seen g.row.D.Denot). Ends v (change_in None change) now c.match-commit.result) c.self.view_is
    (elim c.match-commit.branch [
      | in-Ok w ↦ subst (λ (r : Result (Unit {0}) LibFault). Ends was (change_in None change) now r) (sym w.result-is) (record {
        ok = (
          w.in-Ok.ensures.done.0 ∙ ap (λ (sc : StateChange). changed sc s.contents.state) same,
          w.in-Ok.ensures.done.1 ∙ ap (λ (r : Change). end_of s.log + 5 + length (spelled r)) (sym says),
          ap (λ (o : Option Change). pending_in p.contents.taken o) w.in-Ok.ensures.done.2,
          subst (λ (f : Hash → Option Seal). KeepsNeeded p.contents.state f (seal_at (seals_in p.counts))) (seals_are s.counts) (subst (λ (f : Hash → Option Seal). KeepsNeeded p.contents.state (λ hash. sealed_of s.counts hash) f) (seals_are p.counts) w.in-Ok.ensures.done.3),
        );
        err = tt;
        refused = tt;
        left = c.leave_by.ensures.rest;
        left_then = tt;
        start = refl;
      })
      | in-Err w ↦ subst (λ (r : Result (Unit {0}) LibFault). Ends was (change_in None change) now r) (sym w.result-is) (record {
        ok = tt;
        err = (
          ap (λ (m : InMemory). m.state) w.in-Err.ensures.failed.0,
          w.in-Err.ensures.failed.1,
          inr (ap (λ (o : Option Change). pending_in p.contents.taken o) w.in-Err.ensures.failed.2 ∙ ap (λ (m : InMemory). option_map (change_in m.taken) (Some change)) w.in-Err.ensures.failed.0 ∙ ap (λ (sc : StateChange). Some sc) same),
          λ hash. ap (λ (counts : Counts). seal_at (seals_in counts) hash) w.in-Err.ensures.failed.3,
        );
        refused = λ other. absurd (other refl);
        left = tt;
        left_then = λ is. c.leave_by.ensures.rest;
        start = refl;
      })
    ])
