-- A change was committed, or was not: what the library stands on then.
use Rattle.std.proofs.Common.{◌≡◌, ℕ, ◌<◌, ◌^◌, false, List, [], ◌∷◌, length, sym, ◌∙◌, ap, subst}
use Rattle.std.specs.Prelude.{◌≢◌, Option, None, Some, IfSome, option_map, find, not, ◌==◌}
use Rattle.std.specs.List.{AllByRecursion}
use Rattle.cm_disk.specs.Disk.{File, Files, IsImage, Only}
use Rattle.cm_log.specs.declared.shelf.Shelf.{Shelf}
use Rattle.cm_log.specs.declared.shelf.Shelf.TheVariants.{PkgLib}
use Rattle.cm_log.specs.declared.state.Log.{Log}
use Rattle.cm_log.specs.Shelves.{IsElsewhere}
use Rattle.cm_log.specs.Logs.{Entry as Record, Shelved, Live, closed, shelved, added}
use Rattle.cm_log.specs.Settled.{shelf_of, place_of, end_of, IsSettled}
use Rattle.cm_pkglib.specs.Changes.{spelled}
use Rattle.cm_pkglib.specs.declared.row.PkgRow.{PkgRow}
use Rattle.cm_pkglib.specs.Rows.{is_of, opened_fault}
use Rattle.cm_pkglib.proofs.Among.{All-append, none_of_any, none_of_find}
use Rattle.cm_pkglib.proofs.Steps.{may_open}
use Rattle.cm_tree.specs.declared.entry.Entry.{Entry}
use Rattle.cm_tree.specs.Manifests.{IsManifest, spelling}
use Rattle.cm_filelib.specs.Places.{file_place}
use Rattle.cm_filelib.specs.Stored.{IsFileSure}
use Rattle.cm_datalib.specs.Places.{manifest_place}
use Rattle.cm_state.specs.State.{Held, State, held_of, held_by_job, rows_of}
use Rattle.cm_state.specs.Changes.{StateChange, Begun, Finished, Dropped, Removed, record_of, changed}
use Rattle.cm_state.specs.Commits.{MayCommit, BringsManifest, BringsFiles}
use Rattle.cm_state.specs.Look.{Opened, look}
use Rattle.cm_state.specs.Sound.{IsNamed, AreNamed}
use Rattle.cm_state.specs.Standing.{StandsIn}
use Rattle.cm_state.specs.Sure.{IsManifestSure, AreFilesSure, AreManifestsSure, AreVersionsSure}
use Rattle.cm_state.proofs.Begun.{other_place, both_versions, both_jobs}
use Rattle.cm_state.proofs.Elsewhere.{manifest_no_file}
use Rattle.cm_state.proofs.ImagesOpen.{done_more, stands_before, stands_after}
use Rattle.cm_state.proofs.Lists.{all_filter, found_one, no_some}
use Rattle.cm_state.proofs.Loaded.{manifest_held}
use Rattle.cm_state.proofs.Replaying.{grounds_of}
use Rattle.cm_state.proofs.Standing.{settled_apart, shelved_apart, file_elsewhere, manifest_elsewhere, live_at}
use Rattle.cm_state.proofs.Storing.{storing_stands}

-- the stored manifest of a job that begins
held_sure : (may_leave : List ℕ → File → Type 0) (id : List ℕ) (version : ℕ) (manifest : List Entry) → IsManifest manifest → Only (Some (spelling manifest)) (may_leave (manifest_place id version)) → IsManifestSure may_leave (held_of id version manifest)
held_sure may_leave id version manifest form only left l = manifest_held (λ q. left) id version manifest (only left l) form

-- the manifests that the changed state needs are sure
pub manifests_then : (may_leave : List ℕ → File → Type 0) (s : State) (change : StateChange) → BringsManifest may_leave change → AreManifestsSure may_leave s → AreManifestsSure may_leave (changed change s)
manifests_then may_leave s (Begun job id version manifest) brings sure = record {
  versions = sure.versions;
  jobs = All-append (λ (u : ℕ × Held). IsManifestSure may_leave u.1) s.jobs ((job, held_of id version manifest) ∷ []) sure.jobs (held_sure may_leave id version manifest brings.0 brings.1, tt);
}
manifests_then may_leave s (Finished job) brings sure = record {
  versions = done_more (IsManifestSure may_leave) (find (λ (u : ℕ × Held). u.0 == job) s.jobs) s.versions
      (λ u is. found_one (λ (u : ℕ × Held). IsManifestSure may_leave u.1) (λ (u : ℕ × Held). u.0 == job) s.jobs sure.jobs u is) sure.versions;
  jobs = all_filter (λ (u : ℕ × Held). IsManifestSure may_leave u.1) (λ (u : ℕ × Held). not (u.0 == job)) s.jobs sure.jobs;
}
manifests_then may_leave s (Dropped job) brings sure = record {
  versions = sure.versions;
  jobs = all_filter (λ (u : ℕ × Held). IsManifestSure may_leave u.1) (λ (u : ℕ × Held). not (u.0 == job)) s.jobs sure.jobs;
}
manifests_then may_leave s (Removed id version) brings sure = record {
  versions = all_filter (IsManifestSure may_leave) (λ (h : Held). not (is_of id version h.row)) s.versions sure.versions;
  jobs = sure.jobs;
}

-- what is sure stays so where no more is left at its place
pub all_through : {A : Type 0} (P Q : A → Type 0) → ((a : A) → P a → Q a) → (xs : List A) → AllByRecursion P xs → AllByRecursion Q xs
all_through P Q through [] all = tt
all_through P Q through (x ∷ xs) all = (through x all.0, all_through P Q through xs all.1)

all_both : {A : Type 0} (P Q : A → Type 0) (xs : List A) → AllByRecursion P xs → AllByRecursion Q xs → AllByRecursion (λ x. P x × Q x) xs
all_both P Q [] p q = tt
all_both P Q (x ∷ xs) p q = ((p.0, q.0), all_both P Q xs p.1 q.1)

module _ (old new : List ℕ → File → Type 0) where
  module _ (still : (id : List ℕ) (version : ℕ) (left : File) → new (manifest_place id version) left → old (manifest_place id version) left) where
    manifest_kept : (h : Held) → IsManifestSure old h → IsManifestSure new h
    manifest_kept h sure left l = sure left (still h.row.package h.row.version left l)

    pub manifests_kept : (s : State) → AreManifestsSure old s → AreManifestsSure new s
    manifests_kept s sure = record {
      versions = all_through (IsManifestSure old) (IsManifestSure new) manifest_kept s.versions sure.versions;
      jobs = all_through (λ (u : ℕ × Held). IsManifestSure old u.1) (λ (u : ℕ × Held). IsManifestSure new u.1) (λ u. manifest_kept u.1) s.jobs sure.jobs;
    }

    pub brought_kept : (change : StateChange) → BringsManifest old change → BringsManifest new change
    brought_kept (Begun job id version manifest) brings = (brings.0, λ left l. brings.1 left (still id version left l))
    brought_kept (Finished job) brings = tt
    brought_kept (Dropped job) brings = tt
    brought_kept (Removed id version) brings = tt

  module _ (still : (hash : List ℕ) (left : File) → new (file_place hash) left → old (file_place hash) left) where
    files_kept : (h : Held) → AreFilesSure old h → AreFilesSure new h
    files_kept h sure = all_through (λ (e : Entry). IsFileSure old e.hash.0 e.size) (λ (e : Entry). IsFileSure new e.hash.0 e.size) (λ e one left l. one left (still e.hash.0 left l)) h.manifest sure

    pub versions_kept : (s : State) → AreVersionsSure old s → AreVersionsSure new s
    versions_kept s sure = all_through (AreFilesSure old) (AreFilesSure new) files_kept s.versions sure

    job_kept : (o : Option Held) → IfSome o (AreFilesSure old) → IfSome o (AreFilesSure new)
    job_kept None sure = tt
    job_kept (Some held) sure = files_kept held sure

    pub brought_files_kept : (s : State) (change : StateChange) → BringsFiles old s change → BringsFiles new s change
    brought_files_kept s (Begun job id version manifest) brings = tt
    brought_files_kept s (Finished job) brings = job_kept (held_by_job job s.jobs) brings
    brought_files_kept s (Dropped job) brings = tt
    brought_files_kept s (Removed id version) brings = tt

-- the log has the record of a change, or it has not
module _ (before now : Files) (may_leave : List ℕ → File → Type 0) (log log' : Log) (s : State) (entries : List Record) (live : shelved PkgLib before ≡ Live (place_of log) (closed entries (end_of log))) (was : look before ≡ Opened s)
    (sure : AreManifestsSure may_leave s) (image : IsImage may_leave now) (settled : IsSettled now may_leave log') where
  pub stands_with : (change : StateChange) → MayCommit (end_of log) s change → BringsManifest may_leave change → shelved PkgLib now ≡ added (spelled (record_of change)) (shelved PkgLib before) → StandsIn now may_leave log' (changed change s)
  stands_with change may brings there =
      let g = grounds_of before (place_of log) entries (end_of log) s live was in
      record {
        stands = stands_after may_leave now (λ id version. image (manifest_place id version)) s sure (place_of log) entries (end_of log) g.rows change may brings (there ∙ ap (λ (x : Shelved). added (spelled (record_of change)) x) live);
        settled = settled;
      }

  pub stands_without : shelved PkgLib now ≡ shelved PkgLib before → StandsIn now may_leave log' s
  stands_without there =
      let g = grounds_of before (place_of log) entries (end_of log) s live was in
      record {
        stands = stands_before may_leave now (λ id version. image (manifest_place id version)) s sure (place_of log) entries (end_of log) g.rows g.room (there ∙ live);
        settled = settled;
      }

-- another place is written
module _ (files now : Files) (old new : List ℕ → File → Type 0) (log : Log) (s : State) (shelf : shelf_of log ≡ PkgLib) (st : StandsIn files old log s) (sure : AreManifestsSure old s) (image : IsImage new now) where
  -- that of a file
  pub filed_stands : (hash : List ℕ) → ((q : List ℕ) (left : File) → q ≢ file_place hash → new q left → old q left) → StandsIn now new log s
  filed_stands hash stop =
      let elsewhere = subst (λ (h : Shelf). IsElsewhere h (file_place hash)) (sym shelf) (file_elsewhere hash) in
      let live = live_at files log shelf st.settled.ends in
      let g = grounds_of files (place_of log) st.settled.ends.entries (end_of log) s live st.stands in
      let same = subst (λ (h : Shelf). shelved h now ≡ shelved h files) shelf (shelved_apart files now old new log (file_place hash) elsewhere stop image st.settled) in
      record {
        stands = stands_before old now (λ id version. stop (manifest_place id version) (now (manifest_place id version)) (manifest_no_file id version hash) (image (manifest_place id version))) s sure
            (place_of log) st.settled.ends.entries (end_of log) g.rows g.room (same ∙ live);
        settled = settled_apart files now old new log (file_place hash) elsewhere stop image st.settled;
      }

  -- that of the manifest of a version that may begin
  module _ (id : List ℕ) (version entries : ℕ) (named : AreNamed (rows_of s)) (free : opened_fault (rows_of s) s.next id version entries ≡ None) (long : length id ≡ 8) (below : version < 2 ^ 32)
      (stop : (q : List ℕ) (left : File) → q ≢ manifest_place id version → new q left → old q left) where
    pub stored_stands : StandsIn now new log s
    stored_stands = record {
      stands = storing_stands files old log s id version entries shelf st sure named free long below now (λ q ne. stop q (now q) ne (image q));
      settled = settled_apart files now old new log (manifest_place id version) (subst (λ (h : Shelf). IsElsewhere h (manifest_place id version)) (sym shelf) (manifest_elsewhere id version)) stop image st.settled;
    }

-- the manifests of a state are none of a version that may begin
pub manifests_apart : (old new : List ℕ → File → Type 0) (s : State) (id : List ℕ) (version entries : ℕ) → AreNamed (rows_of s) → opened_fault (rows_of s) s.next id version entries ≡ None → length id ≡ 8 → version < 2 ^ 32
    → ((q : List ℕ) (left : File) → q ≢ manifest_place id version → new q left → old q left) → AreManifestsSure old s → AreManifestsSure new s
manifests_apart old new s id version entries named free long below stop sure =
    let opening = may_open (rows_of s) s.next id version entries free in
    let P : PkgRow → Type 0 = λ row. IsNamed row × (is_of id version row ≡ false) in
    let kept = λ (h : Held) (all : P h.row × IsManifestSure old h) (left : File) (l : new (manifest_place h.row.package h.row.version) left).
    all.1 left (stop (manifest_place h.row.package h.row.version) left (other_place id version h.row long below all.0.0 all.0.1) l) in
    record {
      versions = all_through (λ (h : Held). P h.row × IsManifestSure old h) (IsManifestSure new) kept s.versions
          (all_both (λ (h : Held). P h.row) (IsManifestSure old) s.versions (both_versions IsNamed (λ (row : PkgRow). is_of id version row ≡ false) s.versions named.versions (none_of_any (is_of id version) (rows_of s).versions opening.no_version)) sure.versions);
      jobs = all_through (λ (u : ℕ × Held). P u.1.row × IsManifestSure old u.1) (λ (u : ℕ × Held). IsManifestSure new u.1) (λ u. kept u.1) s.jobs
          (all_both (λ (u : ℕ × Held). P u.1.row) (λ (u : ℕ × Held). IsManifestSure old u.1) s.jobs (both_jobs IsNamed (λ (row : PkgRow). is_of id version row ≡ false) s.jobs named.jobs
          (none_of_find (λ (u : ℕ × PkgRow). is_of id version u.1) (rows_of s).jobs (no_some (λ (u : ℕ × PkgRow). u.0) (find (λ (u : ℕ × PkgRow). is_of id version u.1) (rows_of s).jobs) opening.no_job))) sure.jobs);
    }

-- the files of the versions after a change are sure
pub versions_then_sure : (may_leave : List ℕ → File → Type 0) (s : State) (change : StateChange) → BringsFiles may_leave s change → AreVersionsSure may_leave s → AreVersionsSure may_leave (changed change s)
versions_then_sure may_leave s (Begun job id version manifest) brings sure = sure
versions_then_sure may_leave s (Finished job) brings sure = done_more (AreFilesSure may_leave) (find (λ (u : ℕ × Held). u.0 == job) s.jobs) s.versions
    (λ u is. subst (λ (o : Option (ℕ × Held)). IfSome (option_map (λ (u : ℕ × Held). u.1) o) (AreFilesSure may_leave)) is brings) sure
versions_then_sure may_leave s (Dropped job) brings sure = sure
versions_then_sure may_leave s (Removed id version) brings sure = all_filter (AreFilesSure may_leave) (λ (h : Held). not (is_of id version h.row)) s.versions sure
