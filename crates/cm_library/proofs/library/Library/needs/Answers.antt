use Rattle.std.proofs.Common.{sym, ◌∙◌, ap}
use Rattle.std.specs.Prelude.{vec_capacity}
use Rattle.std.specs.List.{list_any}
use Rattle.std.specs.Str.{bytes_eq}
use Rattle.cm_datalib.specs.Places.{manifest_place}
use Rattle.cm_filelib.specs.Places.{file_place}
use Rattle.cm_state.specs.Needed.{needed}
use Rattle.cm_state.proofs.Purges.{needed_manifest, needed_file}
use Rattle.cm_library.specs.declared.stored.Stored.{Stored}
use Rattle.cm_library.specs.Kept.{Seen}
use Rattle.cm_library.specs.Purging.{stored_place}
use Rattle.cm_library.proofs.SettledCalls.{kept_idle}
use Rattle.cm_library.proofs.Stepping.{count_needed}
use Rattle.cm_library.proofs.library.Library.needs.Goals as goal

pub returns-in-Manifest : goal.returns-in-Manifest
returns-in-Manifest g c =
    let s = c.self.inside in
    let id = c.in-Manifest.package in
    let version = c.in-Manifest.version in
    c.holds.ensures
    ∙ sym (needed_manifest s.contents.state id version c.self.invariant.kept.standing.fit.named c.show_version.ensures.long c.show_version.ensures.small)
    ∙ ap (λ (v : Seen g.row.D.Denot). list_any (bytes_eq (manifest_place id version)) (needed v.state)) c.self.view_is
    ∙ ap (λ (stored : Stored). list_any (bytes_eq (stored_place stored)) (needed c.args.self.now.state)) (sym c.in-Manifest.is)

pub returns-in-File : goal.returns-in-File
returns-in-File g c =
    let d = g.D.Disk in
    let s = c.self.inside in
    let hash = c.in-File.hash in
    let kept = kept_idle d.reads d.may_leave d.moment d.left_since g.met.D.Disk.as_it_reads s.start.value s.disk s.log s.contents s.counts s.pending s.started.items (vec_capacity s.started) c.args.self.now c.self.view_is c.requires.settled c.self.invariant in
    count_needed s.contents.state hash c.of.result (c.of.ensures ∙ kept.counted.counted hash)
    ∙ sym (needed_file s.contents.state hash.0 c.show_bytes.ensures.bytes c.show_bytes.ensures.long)
    ∙ ap (λ (v : Seen g.row.D.Denot). list_any (bytes_eq (file_place hash.0)) (needed v.state)) c.self.view_is
    ∙ ap (λ (stored : Stored). list_any (bytes_eq (stored_place stored)) (needed c.args.self.now.state)) (sym c.in-File.is)
