use Rattle.std.proofs.Common.{List, [], sym, ◌∙◌, ap}
use Rattle.std.specs.Prelude.{Option, None, Some, unwrap_or}
use Rattle.cm_tree.specs.declared.entry.Entry.{Entry}
use Rattle.cm_contents.specs.Contents.{InMemory, manifest_in_map}
use Rattle.cm_contents.specs.Seals.{job_manifest}
use Rattle.cm_contents.proofs.Counted.{job_entries}
use Rattle.cm_contents.proofs.contents.Contents.job_manifest.Goals as goal

pub returns-in-Some : goal.returns-in-Some
returns-in-Some c =
    let s = c.self.inside in
    let found = c.row_of_job.ensures ∙ ap (λ jobs. Rattle.cm_pkglib.specs.Rows.row_of_job c.args.job jobs) c.jobs.ensures.value in
    ap (λ (o : Option (List Entry)). unwrap_or o []) c.get.ensures.value
    ∙ job_entries (manifest_in_map s.manifests) c.args.job s.rows.rows (Some c.in-Some.row) (sym found ∙ c.in-Some.is)
    ∙ ap (λ (m : InMemory). job_manifest c.args.job m.state) c.self.view_is

pub returns-in-None : goal.returns-in-None
returns-in-None c =
    let s = c.self.inside in
    let found = c.row_of_job.ensures ∙ ap (λ jobs. Rattle.cm_pkglib.specs.Rows.row_of_job c.args.job jobs) c.jobs.ensures.value in
    job_entries (manifest_in_map s.manifests) c.args.job s.rows.rows None (sym found ∙ c.in-None.is)
    ∙ ap (λ (m : InMemory). job_manifest c.args.job m.state) c.self.view_is
