-- What a crash leaves of a library, at rest, while a change is committed, and after that failed.
use Rattle.std.proofs.Common.{◌≡◌, inl, inr, ⊎_elim, ℕ, Bool, true, false, List, [], ◌∷◌, refl, sym, ◌∙◌, ap, subst}
use Rattle.std.specs.Prelude.{Option, None, Some, option_map, find, not, ◌==◌, cond, Ok, IfSome}
use Rattle.std.specs.List.{AllByRecursion}
use Rattle.cm_disk.specs.Disk.{File, Files, IsImage}
use Rattle.cm_log.specs.declared.shelf.Shelf.{Shelf}
use Rattle.cm_log.specs.declared.shelf.Shelf.TheVariants.{PkgLib}
use Rattle.cm_log.specs.declared.state.Log.{Log}
use Rattle.cm_log.specs.Logs.{Entry as Record, Shelved, Live, closed, shelved, added}
use Rattle.cm_log.specs.Settled.{shelf_of, place_of, end_of, IsBeforeOrAfter}
use Rattle.cm_log.proofs.Rest.{image_shelved}
use Rattle.cm_pkglib.specs.declared.row.PkgRow.{PkgRow}
use Rattle.cm_pkglib.specs.Changes.{spelled}
use Rattle.cm_pkglib.specs.Rows.{is_of, is_before, after, no_rows}
use Rattle.cm_pkglib.proofs.Records.{read_spelled}
use Rattle.cm_pkglib.proofs.Among.{All-append}
use Rattle.cm_tree.specs.declared.entry.Entry.{Entry}
use Rattle.cm_filelib.specs.Places.{file_place}
use Rattle.cm_filelib.specs.Stored.{IsFileSure}
use Rattle.cm_datalib.specs.Places.{manifest_place}
use Rattle.cm_state.specs.State.{Held, State, held_of, rows_of, with_held, with_done}
use Rattle.cm_state.specs.Changes.{StateChange, Begun, Finished, Dropped, Removed, record_of, changed}
use Rattle.cm_state.specs.Look.{has_room, rows_from}
use Rattle.cm_state.specs.Opens.{HasFile, HasFiles, Stands, OpensOr, StandsOr, EachOpens, EachStands}
use Rattle.cm_state.specs.Sure.{IsManifestSure, AreFilesSure, AreManifestsSure, AreVersionsSure}
use Rattle.cm_state.specs.Commits.{MayCommit, BringsManifest, BringsFiles, StandsUnsettled}
use Rattle.cm_state.specs.Standing.{StandsIn}
use Rattle.cm_state.proofs.Elsewhere.{manifest_no_log, file_no_log}
use Rattle.cm_state.proofs.Lists.{filter_map, all_filter}
use Rattle.cm_state.proofs.Loaded.{HasHeld, HasJob, row_of, job_of, rows_same, rows_begun, rows_finished, finished_versions, finished_jobs, manifest_held}
use Rattle.cm_state.proofs.Replaying.{grounds_of, opened_by, record_more}
use Rattle.cm_state.proofs.Standing.{live_at, log_side}

-- what is sure stands in each image that has the places of manifests and of files as they may be left
module _ (may_leave : List ℕ → File → Type 0) (image : Files) (manifests : (id : List ℕ) (version : ℕ) → may_leave (manifest_place id version) (image (manifest_place id version))) where
  pub held_here : (hs : List Held) → AllByRecursion (IsManifestSure may_leave) hs → AllByRecursion (HasHeld image) hs
  held_here [] all = tt
  held_here (h ∷ hs) all = (all.0 (image (manifest_place h.row.package h.row.version)) (manifests h.row.package h.row.version), held_here hs all.1)

  pub jobs_here : (js : List (ℕ × Held)) → AllByRecursion (λ (job : ℕ × Held). IsManifestSure may_leave job.1) js → AllByRecursion (HasJob image) js
  jobs_here [] all = tt
  jobs_here (j ∷ js) all = (all.0 (image (manifest_place j.1.row.package j.1.row.version)) (manifests j.1.row.package j.1.row.version), jobs_here js all.1)

module _ (may_leave : List ℕ → File → Type 0) (image : Files) (stored : (hash : List ℕ) → may_leave (file_place hash) (image (file_place hash))) where
  pub entries_here : (es : List Entry) → AllByRecursion (λ (entry : Entry). IsFileSure may_leave entry.hash.0 entry.size) es → AllByRecursion (HasFile image) es
  entries_here [] all = tt
  entries_here (e ∷ es) all = (all.0 (image (file_place e.hash.0)) (stored e.hash.0), entries_here es all.1)

  pub files_here : (hs : List Held) → AllByRecursion (AreFilesSure may_leave) hs → AllByRecursion (HasFiles image) hs
  files_here [] all = tt
  files_here (h ∷ hs) all = (entries_here h.manifest all.0, files_here hs all.1)

-- one version more
put_more : (P : Held → Type 0) (h : Held) (vs : List Held) → P h → AllByRecursion P vs → AllByRecursion P (with_held h vs)
put_more P h [] p all = (p, tt)
put_more P h (v ∷ vs) p all = by (is_before h.row v.row) (put_more P h vs p all.1)
  where
    by : (b : Bool) → AllByRecursion P (with_held h vs) → AllByRecursion P (cond b (h ∷ v ∷ vs) (v ∷ with_held h vs))
    by true rest = (p, (all.0, all.1))
    by false rest = (all.0, rest)

pub done_more : (P : Held → Type 0) (o : Option (ℕ × Held)) (vs : List Held) → ((j : ℕ × Held) → o ≡ Some j → P j.1) → AllByRecursion P vs → AllByRecursion P (with_done (option_map (λ (u : ℕ × Held). u.1) o) vs)
done_more P None vs one all = all
done_more P (Some j) vs one all = put_more P j.1 vs (one j refl) all

-- the rows after each change
pub rows_changed : (s : State) (change : StateChange) → rows_of (changed change s) ≡ after (record_of change) (rows_of s)
rows_changed s (Begun job id version manifest) = rows_begun s job id version manifest
rows_changed s (Finished job) = rows_finished s job
rows_changed s (Dropped job) = rows_same _ _ refl (sym (filter_map job_of (λ (u : ℕ × Held). not (u.0 == job)) (λ (u : ℕ × PkgRow). not (u.0 == job)) (λ u. refl) s.jobs)) refl refl
rows_changed s (Removed id version) = rows_same _ _ (sym (filter_map row_of (λ (h : Held). not (is_of id version h.row)) (λ (r : PkgRow). not (is_of id version r)) (λ h. refl) s.versions)) refl refl refl

module _ (may_leave : List ℕ → File → Type 0) (image : Files) (manifests : (id : List ℕ) (version : ℕ) → may_leave (manifest_place id version) (image (manifest_place id version))) (s : State) where
  -- the manifests that the changed state needs stand in the image
  versions_then : (change : StateChange) → AllByRecursion (HasHeld image) s.versions → AllByRecursion (HasJob image) s.jobs → AllByRecursion (HasHeld image) (changed change s).versions
  versions_then (Begun job id version manifest) vs js = vs
  versions_then (Finished job) vs js = finished_versions image s job vs js
  versions_then (Dropped job) vs js = vs
  versions_then (Removed id version) vs js = all_filter (HasHeld image) (λ (h : Held). not (is_of id version h.row)) s.versions vs

  jobs_then : (change : StateChange) → BringsManifest may_leave change → AllByRecursion (HasJob image) s.jobs → AllByRecursion (HasJob image) (changed change s).jobs
  jobs_then (Begun job id version manifest) brings js = All-append (HasJob image) s.jobs ((job, held_of id version manifest) ∷ []) js (manifest_held image id version manifest (brings.1 (image (manifest_place id version)) (manifests id version)) brings.0, tt)
  jobs_then (Finished job) brings js = finished_jobs image s job js
  jobs_then (Dropped job) brings js = all_filter (HasJob image) (λ (u : ℕ × Held). not (u.0 == job)) s.jobs js
  jobs_then (Removed id version) brings js = js

module _ (may_leave : List ℕ → File → Type 0) (image : Files) (stored : (hash : List ℕ) → may_leave (file_place hash) (image (file_place hash))) (s : State) where
  -- and so do the files of its versions
  files_then : (change : StateChange) → BringsFiles may_leave s change → AllByRecursion (HasFiles image) s.versions → AllByRecursion (HasFiles image) (changed change s).versions
  files_then (Begun job id version manifest) brings vs = vs
  files_then (Finished job) brings vs = done_more (HasFiles image) (find (λ (u : ℕ × Held). u.0 == job) s.jobs) s.versions
      (λ j is. entries_here may_leave image stored j.1.manifest (subst (λ (o : Option (ℕ × Held)). IfSome (option_map (λ (u : ℕ × Held). u.1) o) (AreFilesSure may_leave)) is brings)) vs
  files_then (Dropped job) brings vs = vs
  files_then (Removed id version) brings vs = all_filter (HasFiles image) (λ (h : Held). not (is_of id version h.row)) s.versions vs

-- an image that has the places of manifests as they may be left, and a log whose records make the rows of a state
module _ (may_leave : List ℕ → File → Type 0) (image : Files) (manifests : (id : List ℕ) (version : ℕ) → may_leave (manifest_place id version) (image (manifest_place id version))) (s : State) (sure : AreManifestsSure may_leave s)
    (place : List ℕ) (entries : List Record) (end : ℕ) (rows : rows_from (Ok no_rows) entries ≡ Ok (rows_of s)) where
  -- it stands in that state
  pub stands_before : has_room end (rows_of s) ≡ true → shelved PkgLib image ≡ Live place (closed entries end) → Stands image s
  stands_before room live = opened_by image place entries end s live (record {
    rows = rows;
    room = room;
    versions = held_here may_leave image manifests s.versions sure.versions;
    jobs = jobs_here may_leave image manifests s.jobs sure.jobs;
  })

  -- with the record of a change it stands in the changed one
  pub stands_after : (change : StateChange) → MayCommit end s change → BringsManifest may_leave change → shelved PkgLib image ≡ added (spelled (record_of change)) (Live place (closed entries end)) → Stands image (changed change s)
  stands_after change may brings live = record_more image place entries end s (changed change s) (spelled (record_of change)) (record_of change) live
      rows (read_spelled (record_of change) may.form) may.allowed (rows_changed s change) may.room
      (versions_then may_leave image manifests s change (held_here may_leave image manifests s.versions sure.versions) (jobs_here may_leave image manifests s.jobs sure.jobs))
      (jobs_then may_leave image manifests s change brings (jobs_here may_leave image manifests s.jobs sure.jobs))

-- each image of a library that rests stands in its state
pub each_stands : (files : Files) (may_leave : List ℕ → File → Type 0) (log : Log) (s : State) → shelf_of log ≡ PkgLib → StandsIn files may_leave log s → AreManifestsSure may_leave s → EachStands may_leave s
each_stands files may_leave log s shelf st sure image left =
    let live = live_at files log shelf st.settled.ends in
    let g = grounds_of files (place_of log) st.settled.ends.entries (end_of log) s live st.stands in
    let same = subst (λ (x : Shelf). shelved x image ≡ shelved x files) shelf (image_shelved (shelf_of log) files may_leave st.settled.rests image left) in
    stands_before may_leave image (λ id version. left (manifest_place id version)) s sure (place_of log) st.settled.ends.entries (end_of log) g.rows g.room (same ∙ live)

-- and opens to it, where the files are sure too
pub each_opens : (files : Files) (may_leave : List ℕ → File → Type 0) (log : Log) (s : State) → shelf_of log ≡ PkgLib → StandsIn files may_leave log s → AreManifestsSure may_leave s → AreVersionsSure may_leave s → EachOpens may_leave s
each_opens files may_leave log s shelf st sure versions image left =
    record { stands = each_stands files may_leave log s shelf st sure image left; whole = files_here may_leave image (λ hash. left (file_place hash)) s.versions versions }

-- with the files of the versions, before a change and after it
with_files : (may_leave : List ℕ → File → Type 0) (image : Files) (s : State) (change : StateChange) → ((hash : List ℕ) → may_leave (file_place hash) (image (file_place hash)))
    → AreVersionsSure may_leave s → BringsFiles may_leave s change → StandsOr s (Some change) image → OpensOr s (Some change) image
with_files may_leave image s change stored sure brings stands =
    let whole = files_here may_leave image stored s.versions sure in
    ⊎_elim
    (λ (st : Stands image s). inl (record { stands = st; whole = whole }))
    (λ (st : Stands image (changed change s)). inr (record { stands = st; whole = files_then may_leave image stored s change brings whole }))
    stands

-- each image of an unsettled library stands in the state before or after the failed change
pub unsettled_stands : (files : Files) (may_leave : List ℕ → File → Type 0) (log : Log) (s : State) (change : StateChange) → shelf_of log ≡ PkgLib
    → StandsUnsettled files may_leave log s change → MayCommit (end_of log) s change → AreManifestsSure may_leave s
    → (image : Files) → IsImage may_leave image → StandsOr s (Some change) image
unsettled_stands files may_leave log s change shelf st may sure image left =
    let u = st.either in
    let g = grounds_of st.before (place_of log) u.entries (end_of log) s u.live st.was in
    let manifests = λ (id : List ℕ) (version : ℕ). left (manifest_place id version) in
    let body = spelled (record_of change) in
    ⊎_elim
    (λ (e : shelved (shelf_of log) image ≡ shelved PkgLib st.before).
    inl (stands_before may_leave image manifests s sure (place_of log) u.entries (end_of log) g.rows g.room (subst (λ (x : Shelf). shelved x image ≡ shelved PkgLib st.before) shelf e ∙ u.live)))
    (λ (e : shelved (shelf_of log) image ≡ added body (shelved PkgLib st.before)).
    inr (stands_after may_leave image manifests s sure (place_of log) u.entries (end_of log) g.rows change may st.brings
    (subst (λ (x : Shelf). shelved x image ≡ added body (shelved PkgLib st.before)) shelf e ∙ ap (λ (x : Shelved). added body x) u.live)))
    (u.leaves image left)

pub unsettled_opens : (files : Files) (may_leave : List ℕ → File → Type 0) (log : Log) (s : State) (change : StateChange) → shelf_of log ≡ PkgLib
    → StandsUnsettled files may_leave log s change → MayCommit (end_of log) s change → AreManifestsSure may_leave s → AreVersionsSure may_leave s → BringsFiles may_leave s change
    → (image : Files) → IsImage may_leave image → OpensOr s (Some change) image
unsettled_opens files may_leave log s change shelf st may sure versions brings image left =
    with_files may_leave image s change (λ hash. left (file_place hash)) versions brings (unsettled_stands files may_leave log s change shelf st may sure image left)

-- each image of a commit stands in the state before or after its change
pub commit_stands : (files : Files) (may_leave : List ℕ → File → Type 0) (log : Log) (s : State) (change : StateChange) → shelf_of log ≡ PkgLib
    → StandsIn files may_leave log s → MayCommit (end_of log) s change → AreManifestsSure may_leave s → BringsManifest may_leave change
    → (image : Files) → IsBeforeOrAfter (shelf_of log) (place_of log) may_leave (shelved (shelf_of log) files) (spelled (record_of change)) image → StandsOr s (Some change) image
commit_stands files may_leave log s change shelf st may sure brings image b =
    let live = live_at files log shelf st.settled.ends in
    let side = log_side files (place_of log) (closed st.settled.ends.entries (end_of log)) live in
    let g = grounds_of files (place_of log) st.settled.ends.entries (end_of log) s live st.stands in
    let manifests = λ (id : List ℕ) (version : ℕ). b.others (manifest_place id version) (λ e. manifest_no_log id version side.0 (e ∙ side.1)) in
    let body = spelled (record_of change) in
    ⊎_elim
    (λ (e : shelved (shelf_of log) image ≡ shelved (shelf_of log) files).
    inl (stands_before may_leave image manifests s sure (place_of log) st.settled.ends.entries (end_of log) g.rows g.room (subst (λ (x : Shelf). shelved x image ≡ shelved x files) shelf e ∙ live)))
    (λ (e : shelved (shelf_of log) image ≡ added body (shelved (shelf_of log) files)).
    inr (stands_after may_leave image manifests s sure (place_of log) st.settled.ends.entries (end_of log) g.rows change may brings
    (subst (λ (x : Shelf). shelved x image ≡ added body (shelved x files)) shelf e ∙ ap (λ (x : Shelved). added body x) live)))
    b.log

pub commit_opens : (files : Files) (may_leave : List ℕ → File → Type 0) (log : Log) (s : State) (change : StateChange) → shelf_of log ≡ PkgLib
    → StandsIn files may_leave log s → MayCommit (end_of log) s change → AreManifestsSure may_leave s → AreVersionsSure may_leave s → BringsManifest may_leave change → BringsFiles may_leave s change
    → (image : Files) → IsBeforeOrAfter (shelf_of log) (place_of log) may_leave (shelved (shelf_of log) files) (spelled (record_of change)) image → OpensOr s (Some change) image
commit_opens files may_leave log s change shelf st may sure versions brings brings_files image b =
    let side = log_side files (place_of log) (closed st.settled.ends.entries (end_of log)) (live_at files log shelf st.settled.ends) in
    with_files may_leave image s change (λ hash. b.others (file_place hash) (λ e. file_no_log hash side.0 (e ∙ side.1))) versions brings_files
    (commit_stands files may_leave log s change shelf st may sure brings image b)
