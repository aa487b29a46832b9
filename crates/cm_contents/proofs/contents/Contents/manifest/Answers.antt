use Rattle.std.proofs.Common.{List, [], sym, ◌∙◌, ap}
use Rattle.std.specs.Prelude.{Option, Some, find, option_map, unwrap_or}
use Rattle.cm_pkglib.specs.Rows.{is_of}
use Rattle.cm_state.specs.State.{Held}
use Rattle.cm_tree.specs.declared.entry.Entry.{Entry}
use Rattle.cm_contents.specs.Contents.{InMemory, manifest_in_map}
use Rattle.cm_contents.proofs.Counted.{version_held, version_lacks}
use Rattle.cm_contents.proofs.contents.Contents.manifest.Goals as goal

pub returns-in-Ok-clause-value : goal.returns-in-Ok-clause-value
returns-in-Ok-clause-value c =
    let s = c.self.inside in
    let id = c.args.«package» in
    let version = c.args.version in
    ap (λ (entries : List Entry). Some entries) (c.entries_or_none.ensures.value ∙ ap (λ (o : Option (List Entry)). unwrap_or o []) c.get.ensures.value)
    ∙ version_held (manifest_in_map s.manifests) id version s.rows.rows (sym c.in-Ok.ensures)
    ∙ ap (λ (m : InMemory). option_map (λ (held : Held). held.manifest) (find (λ (held : Held). is_of id version held.row) m.state.versions)) c.self.view_is

pub returns-in-Err-clause-value : goal.returns-in-Err-clause-value
returns-in-Err-clause-value c =
    let s = c.self.inside in
    let id = c.args.«package» in
    let version = c.args.version in
    version_lacks (manifest_in_map s.manifests) id version s.rows.rows c.in-Err.field-0 (sym c.in-Err.ensures)
    ∙ ap (λ (m : InMemory). option_map (λ (held : Held). held.manifest) (find (λ (held : Held). is_of id version held.row) m.state.versions)) c.self.view_is
