use Rattle.std.proofs.Common.{◌≡◌, ℕ, List, Err, sym, ◌∙◌, ap, subst}
use Rattle.std.specs.Prelude.{Result, IsErrOf}
use Rattle.cm_log.specs.declared.state.Log.{Log}
use Rattle.cm_log.specs.declared.position.LogReader.{LogReader}
use Rattle.cm_log.specs.declared.faults.LogFault.{LogFault}
use Rattle.cm_contents.specs.declared.contents.Contents.{Contents}
use Rattle.cm_state.specs.declared.fault.OpenFault.{OpenFault}
use Rattle.cm_state.specs.declared.fault.OpenFault.TheVariants.{Unreadable}
use Rattle.cm_log.specs.Settled.{end_of, reader_place}
use Rattle.cm_log.proofs.Done.{settled_when_done}
use Rattle.cm_log.proofs.Frames.{only_then}
use Rattle.cm_pkglib.specs.declared.counts.Counts.{Counts}
use Rattle.cm_pkglib.specs.InMemory.{RowsInMemory}
use Rattle.cm_pkglib.specs.Rows.{Rows}
use Rattle.cm_state.specs.State.{State, rows_of}
use Rattle.cm_state.specs.Look.{Unreadable as UnreadableLibrary, has_room, look}
use Rattle.cm_state.specs.Sound.{AreFit}
use Rattle.cm_state.specs.Sure.{AreManifestsSure}
use Rattle.cm_contents.specs.Contents.{InMemory, manifest_in_map, state_with}
use Rattle.cm_contents.proofs.Keeping.{rows_back}
use Rattle.cm_state.proofs.Standing.{settled_kept}
use Rattle.cm_library.specs.Loads.{Map}
use Rattle.cm_library.proofs.MapKept.{manifests_sure, jobs_sure}
use Rattle.cm_library.proofs.Naming.{err_is, log_named, named}
use Rattle.cm_state.proofs.Opens.{look_broken, look_closed, look_unread, no_room, wrong_manifest, all_loaded}
use Rattle.cm_library.proofs.opening.read_library.Goals as goal

pub returns-in-Err-clause-unreadable : goal.returns-in-Err-clause-unreadable
returns-in-Err-clause-unreadable g c place at is x told =
    let fault = log_named {T = Log × Contents × Counts} c.in-Err.fault place at (subst (λ (e : OpenFault). IsErrOf {T = Log × Contents × Counts} (Err e) (Unreadable place at)) c.of_log.ensures is) in
    look_unread x place at (c.in-Err.ensures.unreadable place at (ap (λ (f : LogFault). let r : Result LogReader LogFault = Err f in r) fault) x told)

pub returns-in-Err-read_rows-clause-unreadable : goal.returns-in-Err-read_rows-clause-unreadable
returns-in-Err-read_rows-clause-unreadable g c place at is x told =
    let fault = err_is {T = Log × Contents × Counts} c.in-Err-read_rows.fault (Unreadable place at) is in
    look_broken x c.in-Ok.reader (UnreadableLibrary place at) (c.in-Ok.ensures.live x told)
    (c.in-Err-read_rows.ensures.unreadable place at (ap (λ (f : OpenFault). let r : Result RowsInMemory OpenFault = Err f in r) fault) x (c.open.ensures.only.same ∙ told))

pub returns-then-not-leaves_room-clause-unreadable : goal.returns-then-not-leaves_room-clause-unreadable
returns-then-not-leaves_room-clause-unreadable g c place at is x told =
    let d = g.D.Disk in
    let rows = c.in-Ok-read_rows.rows.rows in
    let first = c.in-Ok.reader in
    let end = c.end-end.result in
    let t = c.open.ensures.only.same ∙ told in
    named {T = Log × Contents × Counts} c.place-place.result place end at (look x) is
    (no_room x (reader_place first) end rows (sym c.leaves_room.ensures ∙ c.if-not-leaves_room.true)
    (look_closed x (d.may_leave c.read_rows.new.disk) first c.read_rows.new.reader rows end (c.in-Ok.ensures.live x told) (c.in-Ok-read_rows.ensures.rows x t) (c.read_rows.ensures.reading x (c.read_rows.ensures.only.same ∙ t)) c.in-Ok-read_rows.ensures.ended (c.end-end.ensures ∙ c.done-log.ensures.end))
    ∙ ap (λ (p : List ℕ). UnreadableLibrary p end) (sym c.place-place.ensures))

pub returns-in-Err-load_all-clause-unreadable : goal.returns-in-Err-load_all-clause-unreadable
returns-in-Err-load_all-clause-unreadable g c place at is x told =
    let d = g.D.Disk in
    let rows = c.in-Ok-read_rows.rows.rows in
    let first = c.in-Ok.reader in
    let end = c.end-end.result in
    let t = c.open.ensures.only.same ∙ told in
    let fault = err_is {T = Log × Contents × Counts} c.in-Err-load_all.fault (Unreadable place at) is in
    let wrong = c.in-Err-load_all.ensures.unreadable place at (ap (λ (f : OpenFault). let r : Result Map OpenFault = Err f in r) fault) x (c.read_rows.ensures.only.same ∙ t) in
    wrong_manifest x (reader_place first) place end rows (sym c.leaves_room.ensures ∙ c.if-not-leaves_room.false) wrong.0
    (look_closed x (d.may_leave c.read_rows.new.disk) first c.read_rows.new.reader rows end (c.in-Ok.ensures.live x told) (c.in-Ok-read_rows.ensures.rows x t) (c.read_rows.ensures.reading x (c.read_rows.ensures.only.same ∙ t)) c.in-Ok-read_rows.ensures.ended (c.end-end.ensures ∙ c.done-log.ensures.end))
    ∙ ap (λ (n : ℕ). UnreadableLibrary place n) (sym wrong.1)

pub returns-in-Ok-count_all-clause-ready : goal.returns-in-Ok-count_all-clause-ready
returns-in-Ok-count_all-clause-ready g c =
    let rows = c.in-Ok-read_rows.rows.rows in
    let back : rows_of c.in-Ok-of.contents.state ≡ rows = ap (λ (m : InMemory). rows_of m.state) c.in-Ok-of.ensures ∙ rows_back (manifest_in_map c.in-Ok-load_all.manifests) rows in
    record {
      idle = c.done-log.ensures.idle;
      shelf = c.done-log.ensures.shelf ∙ c.read_rows.ensures.shelf ∙ c.in-Ok.ensures.shelf;
      fit = record {
        room = ap (λ (r : Rows). has_room (end_of c.done-log.result) r) back ∙ ap (λ (n : ℕ). has_room n rows) (sym c.end-end.ensures) ∙ sym c.leaves_room.ensures ∙ c.if-not-leaves_room.false;
        sound = (subst AreFit (sym back) c.in-Ok-read_rows.ensures.fit).sound;
        named = (subst AreFit (sym back) c.in-Ok-read_rows.ensures.fit).named;
      };
    }

pub returns-in-Ok-count_all-clause-stands : goal.returns-in-Ok-count_all-clause-stands
returns-in-Ok-count_all-clause-stands g c x told =
    let d = g.D.Disk in
    let rows = c.in-Ok-read_rows.rows.rows in
    let first = c.in-Ok.reader in
    let end = c.end-end.result in
    let t2 = sym c.load_all.ensures.only.same ∙ told in
    let t1 = sym c.read_rows.ensures.only.same ∙ t2 in
    let t0 = sym c.open.ensures.only.same ∙ t1 in
    let reading = c.read_rows.ensures.reading x t2 in
    record {
      stands = all_loaded x (reader_place first) end rows (state_with (manifest_in_map c.in-Ok-load_all.manifests) rows) c.in-Ok-of.contents.state (sym c.leaves_room.ensures ∙ c.if-not-leaves_room.false) (c.in-Ok-load_all.ensures.loads x t2).state (ap (λ (m : InMemory). m.state) c.in-Ok-of.ensures)
          (look_closed x (d.may_leave c.read_rows.new.disk) first c.read_rows.new.reader rows end (c.in-Ok.ensures.live x t0) (c.in-Ok-read_rows.ensures.rows x t1) reading c.in-Ok-read_rows.ensures.ended (c.end-end.ensures ∙ c.done-log.ensures.end));
      settled = settled_kept x (d.may_leave c.read_rows.new.disk) (d.may_leave c.load_all.new.disk) c.done-log.result c.load_all.ensures.only.stop
          (settled_when_done x (d.may_leave c.read_rows.new.disk) c.read_rows.new.reader c.done-log.result c.done-log.ensures.shelf c.done-log.ensures.idle (c.done-log.ensures.ends x) reading);
    }

pub returns-in-Ok-count_all-clause-manifests : goal.returns-in-Ok-count_all-clause-manifests
returns-in-Ok-count_all-clause-manifests g c x told =
    let d = g.D.Disk in
    let rows = c.in-Ok-read_rows.rows.rows in
    let m = c.in-Ok-load_all.manifests in
    let l = c.in-Ok-load_all.ensures.loads x (sym c.load_all.ensures.only.same ∙ told) in
    subst (λ (s : State). AreManifestsSure (d.may_leave c.load_all.new.disk) s) (sym (ap (λ (m : InMemory). m.state) c.in-Ok-of.ensures))
    (record {
      versions = manifests_sure x (d.may_leave c.load_all.new.disk) m rows.versions l.kept_versions l.versions;
      jobs = jobs_sure x (d.may_leave c.load_all.new.disk) m rows.jobs l.kept_jobs l.jobs;
    })

pub returns-in-Err-load_all-clause-only : goal.returns-in-Err-load_all-clause-only
returns-in-Err-load_all-clause-only g c = only_then (only_then c.open.ensures.only c.read_rows.ensures.only) c.load_all.ensures.only

pub returns-in-Ok-count_all-clause-only : goal.returns-in-Ok-count_all-clause-only
returns-in-Ok-count_all-clause-only g c = only_then (only_then c.open.ensures.only c.read_rows.ensures.only) c.load_all.ensures.only

pub returns-in-Err-of-clause-only : goal.returns-in-Err-of-clause-only
returns-in-Err-of-clause-only g c = only_then (only_then c.open.ensures.only c.read_rows.ensures.only) c.load_all.ensures.only

pub returns-in-Err-count_all-clause-only : goal.returns-in-Err-count_all-clause-only
returns-in-Err-count_all-clause-only g c = only_then (only_then c.open.ensures.only c.read_rows.ensures.only) c.load_all.ensures.only
