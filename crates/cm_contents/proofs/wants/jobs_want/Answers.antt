use Rattle.std.proofs.Common.{ℕ}
use Rattle.std.specs.BTreeMap.{get}
use Rattle.std.specs.Ordering.{nat_cmp}
use Rattle.cm_pkglib.specs.declared.row.PkgRow.{PkgRow}
use Rattle.cm_state.proofs.Lists.{all_next}
use Rattle.cm_contents.specs.Contents.{manifest_in_map}
use Rattle.cm_contents.specs.Wants.{HasHashes}
use Rattle.cm_contents.proofs.Wanting.{wants_below, jobs_below}
use Rattle.cm_contents.proofs.wants.jobs_want.Goals as goal

pub loop-job-preserved : goal.loop-job-preserved
loop-job-preserved c =
    let jobs = c.args.jobs.now in
    let i = c.loop-job.job-index in
    let job = c.job-item.result in
    let f = manifest_in_map c.args.manifests.now in
    let old = get nat_cmp c.loop-job.wants in
    let new = get nat_cmp c.keep_row.new.wants in
    all_next (λ (u : ℕ × PkgRow). HasHashes (new u.0) (f u.1.package u.1.version)) jobs i job c.loop-job-test.true c.job-item.is
    (wants_below old new job.0 c.keep_row.ensures.others (λ (u : ℕ × PkgRow). u.0) (λ (u : ℕ × PkgRow). f u.1.package u.1.version) _ (jobs_below jobs i job c.loop-job-test.true c.job-item.is c.requires) c.loop-job.invariant)
    c.in_ok-keep_row.ensures.here
