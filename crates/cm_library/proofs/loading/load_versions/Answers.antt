use Rattle.std.proofs.Common.{take, ◌∙◌}
use Rattle.cm_log.proofs.Frames.{only_start, only_then}
use Rattle.cm_pkglib.proofs.Among.{All-map}
use Rattle.cm_library.specs.Loads.{IsKept, IsDurable}
use Rattle.cm_library.proofs.MapKept.{still_durable, lacks_at}
use Rattle.cm_state.proofs.Lists.{all_next}
use Rattle.cm_library.proofs.loading.load_versions.Goals as goal

pub loop-row-init : goal.loop-row-init
loop-row-init g c =
    let d = g.D.Disk in
    record {
      kept = λ x told. tt;
      durable = λ x told. tt;
      stays = λ x told r kept. kept;
      only = only_start d.reads d.may_leave d.moment d.left_since d.faults c.args.disk.now (g.met.D.Disk.only_now c.args.disk.now);
    }

pub loop-row-preserved : goal.loop-row-preserved
loop-row-preserved g c =
    let d = g.D.Disk in
    let i = c.loop-row.invariant in
    record {
      kept = λ x told.
          let one = c.in-Ok.ensures.kept x (i.only.same ∙ told) in
          all_next (IsKept x c.load_one.new.manifests) c.args.rows.now c.loop-row.row-index c.row-item.result c.loop-row-test.true c.row-item.is
          (All-map (IsKept x c.loop-row.manifests) (IsKept x c.load_one.new.manifests) one.stays (take c.loop-row.row-index c.args.rows.now) (i.kept x told))
          one.kept;
      durable = λ x told.
          let one = c.in-Ok.ensures.kept x (i.only.same ∙ told) in
          all_next (IsDurable x (d.may_leave c.load_one.new.disk)) c.args.rows.now c.loop-row.row-index c.row-item.result c.loop-row-test.true c.row-item.is
          (All-map (IsDurable x (d.may_leave c.loop-row.disk)) (IsDurable x (d.may_leave c.load_one.new.disk)) (still_durable x (d.may_leave c.loop-row.disk) (d.may_leave c.load_one.new.disk) c.load_one.ensures.only.stop) (take c.loop-row.row-index c.args.rows.now) (i.durable x told))
          one.durable;
      stays = λ x told r kept. (c.in-Ok.ensures.kept x (i.only.same ∙ told)).stays r (i.stays x told r kept);
      only = only_then i.only c.load_one.ensures.only;
    }

pub returns-in-Err-clause-unreadable : goal.returns-in-Err-clause-unreadable
returns-in-Err-clause-unreadable g c place at is x told =
    let i = c.loop-row.invariant in
    let wrong = c.in-Err.ensures.unreadable place at is x (i.only.same ∙ told) in
    (lacks_at x c.loop-row.manifests c.args.rows.now c.loop-row.row-index c.row-item.result place c.loop-row-test.true c.row-item.is (i.kept x told) wrong.0, wrong.1)

pub returns-in-Err-clause-only : goal.returns-in-Err-clause-only
returns-in-Err-clause-only g c = only_then c.loop-row.invariant.only c.load_one.ensures.only
