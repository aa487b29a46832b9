use Rattle.std.proofs.Common.{◌∙◌, ◌≤◌, ℕ, length, take, ap, arith}
use Rattle.std.proofs.lemmas.List.{length-take-le}
use Rattle.std.proofs.lemmas.List.Sums.{sum_by_more}
use Rattle.cm_base.specs.declared.hash.Hash.{Hash}
use Rattle.cm_pkglib.specs.declared.row.PkgRow.{PkgRow}
use Rattle.cm_pkglib.specs.Counts.{times}
use Rattle.cm_state.proofs.Lists.{all_next}
use Rattle.cm_contents.specs.Contents.{manifest_in_map}
use Rattle.cm_contents.proofs.Counted.{sum_small, times_few}
use Rattle.cm_contents.proofs.counting.count_jobs.Goals as goal

pub count_row-requires : goal.count_row-requires
count_row-requires c hash =
    let f = λ (hash : Hash) (job : ℕ × PkgRow). times hash (manifest_in_map c.args.manifests.now job.1.package job.1.version) in
    let i = c.loop-job.job-index in
    let most = sum_small (f hash) (λ (job : ℕ × PkgRow). length (manifest_in_map c.args.manifests.now job.1.package job.1.version)) (λ job. times_few hash (manifest_in_map c.args.manifests.now job.1.package job.1.version)) (take i c.args.jobs.now) c.loop-job.invariant.small in
    let lt = c.loop-job-test.true in
    let before = c.loop-job.invariant.counts hash in
    let asked = c.requires hash in
    let many = length-take-le i c.args.jobs.now (omega (arith, lt)) in
    omega (arith, most, lt, before, asked, many)

pub loop-job-preserved : goal.loop-job-preserved
loop-job-preserved c =
    let f = λ (hash : Hash) (job : ℕ × PkgRow). times hash (manifest_in_map c.args.manifests.now job.1.package job.1.version) in
    let x = c.job-item.result in
    let i = c.loop-job.job-index in
    let is_item = c.job-item.is in
    record {
      counts = λ hash. let more = sum_by_more (f hash) c.args.jobs.now i x c.loop-job-test.true in
          let here = c.in_ok-count_row.ensures.counts hash in
          let before = c.loop-job.invariant.counts hash in
          let same = ap (f hash) is_item in
          omega (arith, more, here, before, same);
      small = all_next (λ (job : ℕ × PkgRow). length (manifest_in_map c.args.manifests.now job.1.package job.1.version) ≤ 20000) c.args.jobs.now i x c.loop-job-test.true is_item c.loop-job.invariant.small c.count_row.ensures.small;
      seals = λ hash. c.count_row.ensures.seals hash ∙ c.loop-job.invariant.seals hash;
    }
