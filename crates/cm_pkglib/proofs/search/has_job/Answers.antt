use Rattle.std.proofs.Common.{◌∙◌, sym, ℕ, ◌==◌}
use Rattle.std.specs.Cmp.{unsigned_ties}
use Rattle.std.specs.Ordering.{nat_cmp}
use Rattle.cm_pkglib.specs.declared.row.PkgRow.{PkgRow}
use Rattle.cm_pkglib.proofs.Halves.{find_place, is_some_map}
use Rattle.cm_pkglib.proofs.search.has_job.Goals as goal

pub returns : goal.returns
returns c =
    c.is_ok.ensures.value
    ∙ sym (is_some_map (λ (u : ℕ × PkgRow). u.1) _ ∙ find_place (λ (u : ℕ × PkgRow). u.0 == c.args.job) (λ (u : ℕ × PkgRow). nat_cmp u.0 c.args.job) (λ u. unsigned_ties u.0 c.args.job) c.args.jobs.now c.job_place.result c.job_place.ensures)
