use Rattle.std.proofs.Common.{refl, sym, List, ℕ, ◌∙◌, ap, subst, length, arith}
use Rattle.std.specs.Prelude.{map, vec_capacity}
use Rattle.std.specs.List.{AllByRecursion}
use Rattle.std.specs.BTreeMap.{get}
use Rattle.std.specs.Ordering.{nat_cmp}
use Rattle.cm_pkglib.specs.declared.row.PkgRow.{PkgRow}
use Rattle.cm_pkglib.specs.Valid.{JobsRise}
use Rattle.cm_state.specs.State.{version_row, job_row}
use Rattle.cm_state.proofs.Lists.{over_map}
use Rattle.cm_contents.specs.Contents.{held_with, job_held_with, manifest_in_map, HasWants}
use Rattle.cm_contents.specs.Wants.{HasHashes}
use Rattle.cm_contents.proofs.Keeping.{told_of}
use Rattle.cm_contents.proofs.contents.Contents.of.Goals as goal

pub jobs_want-requires : goal.jobs_want-requires
jobs_want-requires c = subst JobsRise (sym c.jobs-unfinished.ensures.value) c.jobs-unfinished.ensures.valid.jobs_rise

pub invariant_of-result : goal.invariant_of-result
invariant_of-result c =
    let f = manifest_in_map c.args.manifests in
    let wants = get nat_cmp c.in_ok-wants.wants in
    record {
      told = told_of f c.args.rows.rows c.in_ok-versions.versions.items c.in_ok-jobs.jobs.items (vec_capacity c.in_ok-versions.versions)
          (c.in_ok-versions.ensures.told ∙ ap (λ (rows : List PkgRow). map (λ row. version_row (held_with f row)) rows) c.versions.ensures.value)
          (c.in_ok-jobs.ensures ∙ ap (λ (jobs : List (ℕ × PkgRow)). map (λ job. job_row (job_held_with f job)) jobs) c.jobs-unfinished.ensures.value)
          (omega (arith, c.in_ok-versions.ensures.room, ap length c.versions.ensures.value, ap length c.jobs-unfinished.ensures.value));
      wanted = record {
        by_jobs = over_map (job_held_with f) (HasWants wants) c.args.rows.rows.jobs
            (subst (AllByRecursion (λ (job : ℕ × PkgRow). HasHashes (wants job.0) (f job.1.package job.1.version))) c.jobs-unfinished.ensures.value c.in_ok-wants.ensures);
        by_next = tt;
      };
      manifest_kept = refl;
      has_memory = tt;
    }
