use Rattle.std.proofs.Common.{ℕ, take, ◌∙◌}
use Rattle.cm_log.proofs.Frames.{only_start, only_then}
use Rattle.cm_pkglib.specs.declared.row.PkgRow.{PkgRow}
use Rattle.cm_pkglib.proofs.Among.{All-map}
use Rattle.cm_library.specs.Loads.{IsKept, IsDurable}
use Rattle.cm_library.proofs.MapKept.{still_durable, lacks_job_at}
use Rattle.cm_state.proofs.Lists.{all_next}
use Rattle.cm_library.proofs.loading.load_jobs.Goals as goal

pub loop-job-init : goal.loop-job-init
loop-job-init g c =
    let d = g.D.Disk in
    record {
      kept = λ x told. tt;
      durable = λ x told. tt;
      stays = λ x told r kept. kept;
      only = only_start d.reads d.may_leave d.moment d.left_since d.faults c.args.disk.now (g.met.D.Disk.only_now c.args.disk.now);
    }

pub loop-job-preserved : goal.loop-job-preserved
loop-job-preserved g c =
    let d = g.D.Disk in
    let i = c.loop-job.invariant in
    record {
      kept = λ x told.
          let one = c.in-Ok.ensures.kept x (i.only.same ∙ told) in
          all_next (λ (job : ℕ × PkgRow). IsKept x c.load_one.new.manifests job.1) c.args.jobs.now c.loop-job.job-index c.job-item.result c.loop-job-test.true c.job-item.is
          (All-map (λ (job : ℕ × PkgRow). IsKept x c.loop-job.manifests job.1) (λ (job : ℕ × PkgRow). IsKept x c.load_one.new.manifests job.1) (λ job kept. one.stays job.1 kept) (take c.loop-job.job-index c.args.jobs.now) (i.kept x told))
          one.kept;
      durable = λ x told.
          let one = c.in-Ok.ensures.kept x (i.only.same ∙ told) in
          all_next (λ (job : ℕ × PkgRow). IsDurable x (d.may_leave c.load_one.new.disk) job.1) c.args.jobs.now c.loop-job.job-index c.job-item.result c.loop-job-test.true c.job-item.is
          (All-map (λ (job : ℕ × PkgRow). IsDurable x (d.may_leave c.loop-job.disk) job.1) (λ (job : ℕ × PkgRow). IsDurable x (d.may_leave c.load_one.new.disk) job.1) (λ job. still_durable x (d.may_leave c.loop-job.disk) (d.may_leave c.load_one.new.disk) c.load_one.ensures.only.stop job.1) (take c.loop-job.job-index c.args.jobs.now) (i.durable x told))
          one.durable;
      stays = λ x told r kept. (c.in-Ok.ensures.kept x (i.only.same ∙ told)).stays r (i.stays x told r kept);
      only = only_then i.only c.load_one.ensures.only;
    }

pub returns-in-Err-clause-unreadable : goal.returns-in-Err-clause-unreadable
returns-in-Err-clause-unreadable g c place at is x told =
    let i = c.loop-job.invariant in
    let wrong = c.in-Err.ensures.unreadable place at is x (i.only.same ∙ told) in
    (lacks_job_at x c.loop-job.manifests c.args.jobs.now c.loop-job.job-index c.job-item.result place c.loop-job-test.true c.job-item.is (i.kept x told) wrong.0, wrong.1)

pub returns-in-Err-clause-only : goal.returns-in-Err-clause-only
returns-in-Err-clause-only g c = only_then c.loop-job.invariant.only c.load_one.ensures.only
