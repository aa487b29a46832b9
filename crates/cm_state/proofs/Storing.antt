-- What a crash leaves of a library while a manifest is stored that its state does not need.
use Rattle.std.proofs.Common.{◌≡◌, ℕ, ◌<◌, ◌^◌, false, List, [], ◌∷◌, length, sym, ◌∙◌, subst}
use Rattle.std.specs.Prelude.{◌≢◌, None, find}
use Rattle.std.specs.List.{AllByRecursion}
use Rattle.cm_disk.specs.Disk.{File, Files}
use Rattle.cm_log.specs.declared.shelf.Shelf.{Shelf}
use Rattle.cm_log.specs.declared.shelf.Shelf.TheVariants.{PkgLib}
use Rattle.cm_log.specs.declared.state.Log.{Log}
use Rattle.cm_log.specs.Shelves.{ready_place, log_place}
use Rattle.cm_log.specs.Logs.{shelved}
use Rattle.cm_log.specs.Settled.{shelf_of, place_of, end_of}
use Rattle.cm_log.proofs.Shelveds.{alike}
use Rattle.cm_pkglib.specs.declared.row.PkgRow.{PkgRow}
use Rattle.cm_pkglib.specs.Rows.{is_of, opened_fault}
use Rattle.cm_pkglib.proofs.Among.{none_of_any, none_of_find}
use Rattle.cm_pkglib.proofs.Steps.{may_open}
use Rattle.cm_datalib.specs.Places.{manifest_place}
use Rattle.cm_filelib.specs.Places.{file_place}
use Rattle.cm_state.specs.State.{Held, State, rows_of}
use Rattle.cm_state.specs.Opens.{Opens, Stands}
use Rattle.cm_state.specs.Sound.{IsNamed, AreNamed}
use Rattle.cm_state.specs.Standing.{StandsIn}
use Rattle.cm_state.specs.Sure.{IsManifestSure, AreManifestsSure, AreVersionsSure}
use Rattle.cm_state.proofs.Begun.{other_place, both_versions, both_jobs}
use Rattle.cm_state.proofs.Elsewhere.{manifest_no_file, manifest_no_ready, manifest_no_log}
use Rattle.cm_state.proofs.ImagesOpen.{files_here}
use Rattle.cm_state.proofs.Lists.{no_some}
use Rattle.cm_state.proofs.Loaded.{HasHeld, HasJob}
use Rattle.cm_state.proofs.Replaying.{grounds_of, opened_by}
use Rattle.cm_state.proofs.Standing.{live_at}

-- the manifests of rows that have P, in an image that has what may be left at their places
module _ (may_leave : List ℕ → File → Type 0) (image : Files) (P : PkgRow → Type 0) (manifests : (row : PkgRow) → P row → may_leave (manifest_place row.package row.version) (image (manifest_place row.package row.version))) where
  held_where : (hs : List Held) → AllByRecursion (λ (h : Held). P h.row) hs → AllByRecursion (IsManifestSure may_leave) hs → AllByRecursion (HasHeld image) hs
  held_where [] p all = tt
  held_where (h ∷ hs) p all = (all.0 (image (manifest_place h.row.package h.row.version)) (manifests h.row p.0), held_where hs p.1 all.1)

  jobs_where : (js : List (ℕ × Held)) → AllByRecursion (λ (j : ℕ × Held). P j.1.row) js → AllByRecursion (λ (job : ℕ × Held). IsManifestSure may_leave job.1) js → AllByRecursion (HasJob image) js
  jobs_where [] p all = tt
  jobs_where (j ∷ js) p all = (all.0 (image (manifest_place j.1.row.package j.1.row.version)) (manifests j.1.row p.0), jobs_where js p.1 all.1)

-- while the manifest of a new version is stored, each image stands in the state
pub storing_stands : (files : Files) (may_leave : List ℕ → File → Type 0) (log : Log) (s : State) (id : List ℕ) (version entries : ℕ) → shelf_of log ≡ PkgLib → StandsIn files may_leave log s → AreManifestsSure may_leave s
    → AreNamed (rows_of s) → opened_fault (rows_of s) s.next id version entries ≡ None → length id ≡ 8 → version < 2 ^ 32
    → (image : Files) → ((q : List ℕ) → q ≢ manifest_place id version → may_leave q (image q)) → Stands image s
storing_stands files may_leave log s id version entries shelf st manifests_sure named free long below image others =
    let live = live_at files log shelf st.settled.ends in
    let g = grounds_of files (place_of log) st.settled.ends.entries (end_of log) s live st.stands in
    let may = may_open (rows_of s) s.next id version entries free in
    let P : PkgRow → Type 0 = λ row. IsNamed row × (is_of id version row ≡ false) in
    let manifests = λ (row : PkgRow) (p : IsNamed row × (is_of id version row ≡ false)). others (manifest_place row.package row.version) (other_place id version row long below p.0 p.1) in
    let same : shelved (shelf_of log) image ≡ shelved (shelf_of log) files = alike (shelf_of log) files image
    (st.settled.rests.ready (image (ready_place (shelf_of log))) (others (ready_place (shelf_of log)) (λ e. subst (λ (x : Shelf). ready_place x ≢ manifest_place id version) (sym shelf) (λ e. manifest_no_ready id version (sym e)) e)))
    (λ side. st.settled.rests.logs side (image (log_place (shelf_of log) side)) (others (log_place (shelf_of log) side) (λ e. subst (λ (x : Shelf). log_place x side ≢ manifest_place id version) (sym shelf) (λ e. manifest_no_log id version side (sym e)) e))) in
    opened_by image (place_of log) st.settled.ends.entries (end_of log) s (subst (λ (x : Shelf). shelved x image ≡ shelved x files) shelf same ∙ live) (record {
      rows = g.rows;
      room = g.room;
      versions = held_where may_leave image P manifests s.versions (both_versions IsNamed (λ (row : PkgRow). is_of id version row ≡ false) s.versions named.versions (none_of_any (is_of id version) (rows_of s).versions may.no_version)) manifests_sure.versions;
      jobs = jobs_where may_leave image P manifests s.jobs (both_jobs IsNamed (λ (row : PkgRow). is_of id version row ≡ false) s.jobs named.jobs
          (none_of_find (λ (u : ℕ × PkgRow). is_of id version u.1) (rows_of s).jobs (no_some (λ (u : ℕ × PkgRow). u.0) (find (λ (u : ℕ × PkgRow). is_of id version u.1) (rows_of s).jobs) may.no_job))) manifests_sure.jobs;
    })

-- and opens to it, where the files are sure too
pub storing_opens : (files : Files) (may_leave : List ℕ → File → Type 0) (log : Log) (s : State) (id : List ℕ) (version entries : ℕ) → shelf_of log ≡ PkgLib → StandsIn files may_leave log s → AreManifestsSure may_leave s → AreVersionsSure may_leave s
    → AreNamed (rows_of s) → opened_fault (rows_of s) s.next id version entries ≡ None → length id ≡ 8 → version < 2 ^ 32
    → (image : Files) → ((q : List ℕ) → q ≢ manifest_place id version → may_leave q (image q)) → Opens image s
storing_opens files may_leave log s id version entries shelf st manifests_sure versions_sure named free long below image others = record {
  stands = storing_stands files may_leave log s id version entries shelf st manifests_sure named free long below image others;
  whole = files_here may_leave image (λ hash. others (file_place hash) (λ e. manifest_no_file id version hash (sym e))) s.versions versions_sure;
}
