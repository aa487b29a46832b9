use Rattle.std.proofs.Common.{ℕ, List, inl, inr, refl, sym, ap, subst}
use Rattle.std.specs.Prelude.{Option, None, Some, OnOk, Result}
use Rattle.cm_disk.specs.Disk.{Files}
use Rattle.cm_filelib.specs.declared.writing.Writing.{Writing}
use Rattle.cm_pkglib.specs.declared.counts.Counts.{Counts}
use Rattle.cm_state.specs.State.{State}
use Rattle.cm_state.specs.Changes.{StateChange}
use Rattle.cm_contents.specs.Contents.{InMemory}
use Rattle.cm_library.specs.Started.{AreStarted}
use Rattle.cm_library.proofs.StartedFiles.{files_done, files_unsealed}
use Rattle.cm_library.proofs.Sure.{needed_none}
use Rattle.cm_base.specs.declared.hash.Hash.{Hash}
use Rattle.cm_log.specs.Settled.{end_of}
use Rattle.cm_pkglib.specs.declared.change.Change.{Change}
use Rattle.cm_pkglib.specs.declared.counts.Seal.{Seal}
use Rattle.cm_pkglib.specs.Counts.{sealed_of, seals_in, seal_at}
use Rattle.cm_pkglib.proofs.Times.{seals_are}
use Rattle.cm_state.specs.declared.fault.LibFault.{LibFault}
use Rattle.cm_library.specs.Calls.{MayFind, KeepsNeeded, Finds}
use Rattle.cm_library.specs.Kept.{Seen, pending_in}
use Rattle.cm_library.proofs.library.Library.settle.Goals as goal
use Rattle.cm_library.proofs.library.Library.settle.Goals.{in-Ok, in-Err}

-- the started files stay so where settling has found a state
settled_files : (r : Option Files) (s t : State) (seals seals' : Hash → Option Seal) (pending : Option StateChange) (end gate : ℕ) (started : List (ℕ × Writing)) → MayFind pending s end t gate → KeepsNeeded t seals seals' → AreStarted r s seals pending started → AreStarted r t seals' None started
settled_files r s t seals seals' None end gate started found needed files =
    subst (λ (u : State). AreStarted r u seals' None started) (sym found.0) (files_unsealed r s seals seals' None started (needed_none t seals seals' needed) files)
settled_files r s t seals seals' (Some change) end gate started (inl found) needed files =
    subst (λ (u : State). AreStarted r u seals' None started) (sym found.0) (files_unsealed r s seals seals' (Some change) started (needed_none t seals seals' needed) files)
settled_files r s t seals seals' (Some change) end gate started (inr found) needed files =
    files_done r s t seals seals' (Some change) change started found.0 files.ending needed files

pub invariant_of-self : goal.invariant_of-self
invariant_of-self g c =
    let d = g.D.Disk in
    let s = c.self.inside in
    let p = c.settle_pending.new in
    let here = subst (λ (r : Option Files). AreStarted r s.contents.state (λ hash. sealed_of s.counts hash) (pending_in s.contents.taken s.pending) s.started.items) (sym c.settle_pending.ensures.only.same) c.self.invariant.files in
    record {
      kept = c.settle_pending.ensures.kept;
      files = elim c.match-settle_pending.branch [
        | in-Ok w ↦
            subst (λ (o : Option Change). AreStarted (d.reads p.disk) p.contents.state (λ hash. sealed_of p.counts hash) (pending_in p.contents.taken o) s.started.items) (sym w.in-Ok.ensures.idle)
            (settled_files (d.reads p.disk) s.contents.state p.contents.state (λ hash. sealed_of s.counts hash) (λ hash. sealed_of p.counts hash) (pending_in s.contents.taken s.pending) (end_of s.log) (end_of p.log) s.started.items w.in-Ok.ensures.found w.in-Ok.ensures.seals here)
        | in-Err w ↦
            let failed = w.in-Err.ensures.failed in
            subst (λ (x : InMemory). AreStarted (d.reads p.disk) x.state (λ hash. sealed_of p.counts hash) (pending_in x.taken p.pending) s.started.items) (sym failed.0)
            (subst (λ (o : Option Change). AreStarted (d.reads p.disk) s.contents.state (λ hash. sealed_of p.counts hash) (pending_in s.contents.taken o) s.started.items) (sym failed.2)
            (subst (λ (counts : Counts). AreStarted (d.reads p.disk) s.contents.state (λ hash. sealed_of counts hash) (pending_in s.contents.taken s.pending) s.started.items) (sym failed.3) here))
      ];
      enough = c.self.invariant.enough;
    }

pub returns-clause-found : goal.returns-clause-found
returns-clause-found g c =
    let d = g.D.Disk in
    let s = c.self.inside in
    let p = c.settle_pending.new in
    let was : Seen g.row.D.Denot = record { disk = s.disk; start = s.start.value; state = s.contents.state; seals = seals_in s.counts; started = s.started.items; end = end_of s.log; pending = pending_in s.contents.taken s.pending } in
    let now : Seen g.row.D.Denot = record { disk = p.disk; start = s.start.value; state = p.contents.state; seals = seals_in p.counts; started = s.started.items; end = end_of p.log; pending = pending_in p.contents.taken p.pending } in
    subst (λ (v : Seen g.row.D.Denot). OnOk c.match-settle_pending.result (Finds d.reads v now)) c.self.view_is
    (elim c.match-settle_pending.branch [
      | in-Ok w ↦ subst (λ (r : Result (Option Change) LibFault). OnOk r (Finds d.reads was now)) (sym w.result-is) (record {
        may = w.in-Ok.ensures.found;
        told = w.in-Ok.ensures.stands;
        idle = ap (λ (o : Option Change). pending_in p.contents.taken o) w.in-Ok.ensures.idle;
        start = refl;
        started = refl;
        seals = subst (λ (f : Hash → Option Seal). KeepsNeeded p.contents.state f (seal_at (seals_in p.counts))) (seals_are s.counts) (subst (λ (f : Hash → Option Seal). KeepsNeeded p.contents.state (λ hash. sealed_of s.counts hash) f) (seals_are p.counts) w.in-Ok.ensures.seals);
      })
      | in-Err w ↦ subst (λ (r : Result (Option Change) LibFault). OnOk r (Finds d.reads was now)) (sym w.result-is) tt
    ])
