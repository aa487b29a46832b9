-- What a crash leaves of a settled library where a call does nothing.
use Rattle.std.proofs.Common.{◌≡◌, inl, ℕ, List, ◌∙◌, ap, subst}
use Rattle.std.specs.Prelude.{Option, None}
use Rattle.std.specs.Option.{ForSome}
use Rattle.cm_disk.specs.Disk.{File, Files, IsImage, LeavesOnly}
use Rattle.cm_disk.proofs.Moments.{started}
use Rattle.cm_log.specs.declared.state.Log.{Log}
use Rattle.cm_log.specs.Settled.{end_of}
use Rattle.cm_filelib.specs.declared.writing.Writing.{Writing}
use Rattle.cm_pkglib.specs.declared.change.Change.{Change}
use Rattle.cm_pkglib.specs.declared.counts.Counts.{Counts}
use Rattle.cm_pkglib.specs.Counts.{seals_in}
use Rattle.cm_state.specs.State.{State}
use Rattle.cm_state.specs.Changes.{StateChange}
use Rattle.cm_state.specs.Opens.{OpensOr, StandsOr, EachOpensSome}
use Rattle.cm_state.proofs.ImagesOpen.{each_stands, each_opens}
use Rattle.cm_state.proofs.Lists.{no_some}
use Rattle.cm_contents.specs.Contents.{InMemory, change_in}
use Rattle.cm_library.specs.Kept.{Seen, pending_in, IsKept}

module _ {D : Type 0} (reads : D → Option Files) (may_leave : D → List ℕ → File → Type 0) (moment : D → ℕ) (left_since : D → ℕ → Files → Type 0) (only_now : (disk : D) (files : Files) → left_since disk (moment disk) files → IsImage (may_leave disk) files)
    (start disk : D) (log : Log) (m : InMemory) (counts : Counts) (pending : Option Change) (files : List (ℕ × Writing)) (view : Seen D) (change : State → Option StateChange)
    (is : (let v : Seen D = record { disk = disk; start = start; state = m.state; seals = seals_in counts; started = files; end = end_of log; pending = pending_in m.taken pending } in v) ≡ view)
    (settled : view.pending ≡ None) (kept : IsKept reads may_leave start disk log m counts pending) (new : D) (same : disk ≡ new) where
  idle : IsKept reads may_leave start disk log m counts None
  idle = subst (λ (p : Option Change). IsKept reads may_leave start disk log m counts p) (no_some (change_in m.taken) pending (ap (λ (v : Seen D). v.pending) is ∙ settled)) kept

  pub refused_stands : ForSome (reads view.disk) (λ _. LeavesOnly moment left_since view.disk new (StandsOr view.state (change view.state)))
  refused_stands =
      subst (λ (now : D). ForSome (reads view.disk) (λ _. LeavesOnly moment left_since view.disk now (StandsOr view.state (change view.state)))) same
      (subst (λ (v : Seen D). ForSome (reads v.disk) (λ _. LeavesOnly moment left_since v.disk disk (StandsOr v.state (change v.state)))) is
      (λ x told. started moment left_since disk (StandsOr m.state (change m.state))
      (λ image left. inl (each_stands x (may_leave disk) log m.state idle.standing.shelf (idle.standing.stands x told) (idle.standing.manifests x told) image (only_now disk image left)))))

  pub refused_opens : EachOpensSome (may_leave view.start) → ForSome (reads view.disk) (λ _. LeavesOnly moment left_since view.disk new (OpensOr view.state (change view.state)))
  refused_opens =
      subst (λ (now : D). EachOpensSome (may_leave view.start) → ForSome (reads view.disk) (λ _. LeavesOnly moment left_since view.disk now (OpensOr view.state (change view.state)))) same
      (subst (λ (v : Seen D). EachOpensSome (may_leave v.start) → ForSome (reads v.disk) (λ _. LeavesOnly moment left_since v.disk disk (OpensOr v.state (change v.state)))) is
      (λ whole x told. started moment left_since disk (OpensOr m.state (change m.state))
      (λ image left. inl (each_opens x (may_leave disk) log m.state idle.standing.shelf (idle.standing.stands x told) (idle.standing.manifests x told) (idle.sure.versions whole x told) image (only_now disk image left)))))
