use Rattle.std.proofs.Common.{◌≡◌, drop}
use Rattle.cm_pkglib.specs.Rows.{job_with}
use Rattle.cm_pkglib.proofs.search.job_of_version.Given as goal

abbrev pub invariant-loop-unfinished : goal.invariant-loop-unfinished
invariant-loop-unfinished l = job_with l.id l.version l.jobs ≡ job_with l.id l.version (drop l.unfinished-index l.jobs)
