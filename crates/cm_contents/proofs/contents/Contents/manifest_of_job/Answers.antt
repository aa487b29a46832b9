use Rattle.std.proofs.Common.{List, [], sym, ◌∙◌, ap}
use Rattle.std.specs.Prelude.{Option, None, Some, option_map, unwrap_or}
use Rattle.cm_state.specs.State.{Held, held_by_job}
use Rattle.cm_tree.specs.declared.entry.Entry.{Entry}
use Rattle.cm_contents.specs.Contents.{InMemory, manifest_in_map}
use Rattle.cm_contents.proofs.Counted.{job_held}
use Rattle.cm_contents.proofs.contents.Contents.manifest_of_job.Goals as goal

pub returns-in-Some-clause-value : goal.returns-in-Some-clause-value
returns-in-Some-clause-value c =
    let s = c.self.inside in
    let found = c.row_of_job.ensures ∙ ap (λ jobs. Rattle.cm_pkglib.specs.Rows.row_of_job c.args.job jobs) c.jobs.ensures.value in
    ap (λ (entries : List Entry). Some entries) (c.entries_or_none.ensures.value ∙ ap (λ (o : Option (List Entry)). unwrap_or o []) c.get.ensures.value)
    ∙ job_held (manifest_in_map s.manifests) c.args.job s.rows.rows (Some c.in-Some.row) (sym found ∙ c.in-Some.is)
    ∙ ap (λ (m : InMemory). option_map (λ (held : Held). held.manifest) (held_by_job c.args.job m.state.jobs)) c.self.view_is

pub returns-in-None-clause-value : goal.returns-in-None-clause-value
returns-in-None-clause-value c =
    let s = c.self.inside in
    let found = c.row_of_job.ensures ∙ ap (λ jobs. Rattle.cm_pkglib.specs.Rows.row_of_job c.args.job jobs) c.jobs.ensures.value in
    job_held (manifest_in_map s.manifests) c.args.job s.rows.rows None (sym found ∙ c.in-None.is)
    ∙ ap (λ (m : InMemory). option_map (λ (held : Held). held.manifest) (held_by_job c.args.job m.state.jobs)) c.self.view_is
