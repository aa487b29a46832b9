use Rattle.std.proofs.Common.{refl, sym, subst}
use Rattle.std.specs.Prelude.{Some, Ok}
use Rattle.std.specs.Option.{ForSome}
use Rattle.cm_disk.specs.Disk.{Files}
use Rattle.cm_log.specs.Frames.{LeavesAlone}
use Rattle.cm_log.proofs.Frames.{alone_only, alone_then, only_start}
use Rattle.cm_state.specs.State.{State}
use Rattle.cm_state.proofs.Purges.{same_clears}
use Rattle.cm_library.specs.declared.purging.Purged.{Purged}
use Rattle.cm_library.specs.Purging.{IsFirm}
use Rattle.cm_library.proofs.AllSteps.{all_then, clears_then, purges_done, so_far_gone, so_far_kept}
use Rattle.cm_library.proofs.Stepping.{keeps_none}
use Rattle.cm_library.proofs.Walked.{SoFar, begun}
use Rattle.cm_library.proofs.library.Library.purge_settled.Goals as goal
use Rattle.cm_library.proofs.library.Library.purge_settled.Goals.{then-step, else-step}

pub steps-init : goal.steps-init
steps-init g c =
    let d = g.D.Disk in
    let was = c.args.self.now in
    record {
      all = keeps_none was;
      alone = alone_only (IsFirm was.state) (only_start d.reads d.may_leave d.moment d.left_since d.faults was.disk (g.met.D.Disk.only_now was.disk));
      clears = same_clears was.state (d.reads was.disk) (d.reads was.disk) refl;
      so_far = λ x told. begun was.state x (d.reads was.disk) (d.may_leave was.disk) told;
    }

pub returns-in_default-clause-purges : goal.returns-in_default-clause-purges
returns-in_default-clause-purges g c =
    let d = g.D.Disk in
    let here = c.steps.invariant in
    purges_done d.reads d.may_leave c.steps.after c.args.self.now c.steps.self c.step_settled.new.self here.all here.clears c.in-Ok.step c.in-Ok.ensures.steps c.in-Ok.ensures.others c.steps.purged here.so_far c.in_default.is

pub steps-preserved : goal.steps-preserved
steps-preserved g c =
    let d = g.D.Disk in
    let old = c.args.self.now in
    let was = c.steps.self in
    let new = c.step_settled.new.self in
    let here = c.steps.invariant in
    let step = c.in-Ok.step in
    let at = c.in-Some.at in
    record {
      all = all_then d.reads d.may_leave c.steps.after old was new here.all here.clears (Ok step) c.in-Ok.ensures.steps;
      alone = alone_then here.alone (subst (λ (s : State). LeavesAlone (IsFirm s) d.reads d.may_leave d.moment d.left_since d.faults was.disk new.disk) here.all.rows.state c.step_settled.ensures.alone);
      clears = clears_then d.reads d.may_leave c.steps.after old was new here.all here.clears (Ok step) c.in-Ok.ensures.steps;
      so_far = elim c.if-step.branch [
        | then-step w ↦
            subst (λ (p : Purged). ForSome (d.reads old.disk) (λ (files : Files). SoFar old.state files (d.reads new.disk) (d.may_leave new.disk) (Some at) p.files p.manifests)) (sym w.purged-is)
            (so_far_gone d.reads d.may_leave c.steps.after old was new here.all here.clears step c.in-Ok.ensures.steps c.in-Ok.ensures.others c.steps.purged here.so_far at c.in-Some.is
            w.with_place-purged.result w.if-step.true w.with_place-purged.ensures.files w.with_place-purged.ensures.manifests)
        | else-step w ↦
            subst (λ (p : Purged). ForSome (d.reads old.disk) (λ (files : Files). SoFar old.state files (d.reads new.disk) (d.may_leave new.disk) (Some at) p.files p.manifests)) (sym w.purged-is)
            (so_far_kept d.reads d.may_leave c.steps.after old was new here.all here.clears step c.in-Ok.ensures.steps c.in-Ok.ensures.others c.steps.purged here.so_far at c.in-Some.is w.if-step.false)
      ];
    }
