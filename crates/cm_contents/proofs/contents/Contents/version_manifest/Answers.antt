use Rattle.std.proofs.Common.{List, [], sym, ◌∙◌, ap}
use Rattle.std.specs.Prelude.{Option, unwrap_or}
use Rattle.cm_tree.specs.declared.entry.Entry.{Entry}
use Rattle.cm_contents.specs.Contents.{InMemory, manifest_in_map}
use Rattle.cm_contents.specs.Seals.{version_manifest}
use Rattle.cm_contents.proofs.Counted.{version_there, version_none}
use Rattle.cm_contents.proofs.contents.Contents.version_manifest.Goals as goal

pub returns-in-Ok : goal.returns-in-Ok
returns-in-Ok c =
    let s = c.self.inside in
    ap (λ (o : Option (List Entry)). unwrap_or o []) c.get.ensures.value
    ∙ version_there (manifest_in_map s.manifests) c.args.«package» c.args.version s.rows.rows (sym c.in-Ok.ensures)
    ∙ ap (λ (m : InMemory). version_manifest c.args.«package» c.args.version m.state) c.self.view_is

pub returns-in-Err : goal.returns-in-Err
returns-in-Err c =
    let s = c.self.inside in
    version_none (manifest_in_map s.manifests) c.args.«package» c.args.version s.rows.rows c.in-Err.field-0 (sym c.in-Err.ensures)
    ∙ ap (λ (m : InMemory). version_manifest c.args.«package» c.args.version m.state) c.self.view_is
