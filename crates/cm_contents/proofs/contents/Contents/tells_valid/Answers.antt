use Rattle.std.proofs.Common.{sym, ◌∙◌, ap, subst}
use Rattle.cm_pkglib.specs.Valid.{AreValid}
use Rattle.cm_state.specs.State.{rows_of}
use Rattle.cm_contents.specs.Contents.{InMemory, manifest_in_map}
use Rattle.cm_contents.proofs.Keeping.{rows_back}
use Rattle.cm_contents.proofs.contents.Contents.tells_valid.Goals as goal

pub returns : goal.returns
returns c =
    subst AreValid (sym (rows_back (manifest_in_map c.self.inside.manifests) c.self.inside.rows.rows) ∙ ap (λ (m : InMemory). rows_of m.state) c.self.view_is) c.versions-rising.ensures.valid
