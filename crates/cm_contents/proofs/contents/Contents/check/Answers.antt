use Rattle.std.proofs.Common.{◌∙◌, sym, ap}
use Rattle.cm_pkglib.specs.Rows.{Rows, fault_of}
use Rattle.cm_state.specs.State.{rows_of}
use Rattle.cm_contents.specs.Contents.{InMemory, manifest_in_map}
use Rattle.cm_contents.proofs.Keeping.{rows_back}
use Rattle.cm_contents.proofs.contents.Contents.check.Goals as goal

pub returns : goal.returns
returns c =
    c.check.ensures
    ∙ ap (λ (r : Rows). fault_of r c.args.change.now) (sym (rows_back (manifest_in_map c.self.inside.manifests) c.self.inside.rows.rows))
    ∙ ap (λ (m : InMemory). fault_of (rows_of m.state) c.args.change.now) c.self.view_is
