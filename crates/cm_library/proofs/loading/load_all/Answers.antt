use Rattle.std.proofs.Common.{◌≡◌, ℕ, List, Result, Err, ◌∙◌, ap, subst}
use Rattle.std.specs.List.{AllByRecursion}
use Rattle.cm_log.proofs.Frames.{only_then}
use Rattle.cm_pkglib.specs.declared.row.PkgRow.{PkgRow}
use Rattle.cm_pkglib.proofs.Among.{All-map}
use Rattle.cm_state.specs.declared.fault.OpenFault.{OpenFault}
use Rattle.cm_state.specs.declared.fault.OpenFault.TheVariants.{Unreadable}
use Rattle.cm_state.specs.Look.{all_held, all_jobs}
use Rattle.cm_library.specs.Loads.{Map, IsKept, IsDurable}
use Rattle.cm_library.proofs.MapKept.{loads_all, no_versions, no_jobs, still_durable}
use Rattle.cm_library.proofs.Naming.{err_is}
use Rattle.cm_library.proofs.loading.load_all.Goals as goal

pub returns-in-Ok-load_jobs-clause-loads : goal.returns-in-Ok-load_jobs-clause-loads
returns-in-Ok-load_jobs-clause-loads g c x told =
    let d = g.D.Disk in
    let rows = c.args.rows.now.rows in
    let v = c.in-Ok.ensures.kept x told in
    let j = c.in-Ok-load_jobs.ensures.kept x (c.load_versions.ensures.only.same ∙ told) in
    let versions = subst (λ (rows : List PkgRow). AllByRecursion (IsKept x c.load_versions.new.manifests) rows) c.versions.ensures.value v.kept in
    let durable = subst (λ (rows : List PkgRow). AllByRecursion (IsDurable x (d.may_leave c.load_versions.new.disk)) rows) c.versions.ensures.value v.durable in
    let now = All-map (IsKept x c.load_versions.new.manifests) (IsKept x c.load_jobs.new.manifests) j.stays rows.versions versions in
    let jobs = subst (λ (jobs : List (ℕ × PkgRow)). AllByRecursion (λ (job : ℕ × PkgRow). IsKept x c.load_jobs.new.manifests job.1) jobs) c.jobs.ensures.value j.kept in
    record {
      state = loads_all x rows c.load_jobs.new.manifests now jobs;
      kept_versions = now;
      kept_jobs = jobs;
      versions = All-map (IsDurable x (d.may_leave c.load_versions.new.disk)) (IsDurable x (d.may_leave c.load_jobs.new.disk)) (still_durable x (d.may_leave c.load_versions.new.disk) (d.may_leave c.load_jobs.new.disk) c.load_jobs.ensures.only.stop) rows.versions durable;
      jobs = subst (λ (jobs : List (ℕ × PkgRow)). AllByRecursion (λ (job : ℕ × PkgRow). IsDurable x (d.may_leave c.load_jobs.new.disk) job.1) jobs) c.jobs.ensures.value j.durable;
    }

pub returns-in-Ok-load_jobs-clause-only : goal.returns-in-Ok-load_jobs-clause-only
returns-in-Ok-load_jobs-clause-only g c = only_then c.load_versions.ensures.only c.load_jobs.ensures.only

pub returns-in-Err-load_jobs-clause-only : goal.returns-in-Err-load_jobs-clause-only
returns-in-Err-load_jobs-clause-only g c = only_then c.load_versions.ensures.only c.load_jobs.ensures.only

pub returns-in-Err-clause-unreadable : goal.returns-in-Err-clause-unreadable
returns-in-Err-clause-unreadable g c place at is x told =
    let fault = err_is {T = Map} c.in-Err.fault (Unreadable place at) is in
    let wrong = c.in-Err.ensures.unreadable place at (ap (λ (f : OpenFault). let r : Result (Unit {0}) OpenFault = Err f in r) fault) x told in
    (no_versions x c.args.rows.now.rows place (subst (λ (rows : List PkgRow). all_held x rows ≡ Err place) c.versions.ensures.value wrong.0), wrong.1)

pub returns-in-Err-load_jobs-clause-unreadable : goal.returns-in-Err-load_jobs-clause-unreadable
returns-in-Err-load_jobs-clause-unreadable g c place at is x told =
    let rows = c.args.rows.now.rows in
    let m = c.load_versions.new.manifests in
    let fault = err_is {T = Map} c.in-Err-load_jobs.fault (Unreadable place at) is in
    let wrong = c.in-Err-load_jobs.ensures.unreadable place at (ap (λ (f : OpenFault). let r : Result (Unit {0}) OpenFault = Err f in r) fault) x (c.load_versions.ensures.only.same ∙ told) in
    let versions = subst (λ (rows : List PkgRow). AllByRecursion (IsKept x m) rows) c.versions.ensures.value (c.in-Ok.ensures.kept x told).kept in
    (no_jobs x rows m place versions (subst (λ (jobs : List (ℕ × PkgRow)). all_jobs x jobs ≡ Err place) c.jobs.ensures.value wrong.0), wrong.1)
