use Rattle.std.proofs.Common.{ℕ, List, ◌∙◌, ap}
use Rattle.std.specs.Prelude.{Option, is_some}
use Rattle.cm_pkglib.specs.declared.row.PkgRow.{PkgRow}
use Rattle.cm_state.specs.State.{held_by_job}
use Rattle.cm_contents.specs.Contents.{InMemory, manifest_in_map}
use Rattle.cm_contents.proofs.Wanting.{held-row}
use Rattle.cm_contents.proofs.contents.Contents.is_unfinished.Goals as goal

pub returns : goal.returns
returns c =
    let s = c.self.inside in
    c.is_some.ensures
    ∙ ap (λ (o : Option PkgRow). is_some o) (c.row_of_job.ensures ∙ ap (λ (jobs : List (ℕ × PkgRow)). Rattle.cm_pkglib.specs.Rows.row_of_job c.args.job jobs) c.jobs.ensures.value)
    ∙ held-row (manifest_in_map s.manifests) c.args.job s.rows.rows
    ∙ ap (λ (m : InMemory). is_some (held_by_job c.args.job m.state.jobs)) c.self.view_is
