-- What a crash leaves of a settled library while the file of a hash is written that is not sealed.
use Rattle.std.proofs.Common.{◌≡◌, inl, ℕ, List, sym, ◌∙◌, ap, subst}
use Rattle.std.specs.Prelude.{◌≢◌, Option, None, Some}
use Rattle.std.specs.Option.{ForSome}
use Rattle.std.specs.List.{AllByRecursion}
use Rattle.hex.specs.Hex.{IsBytes}
use Rattle.cm_base.specs.declared.hash.Hash.{Hash}
use Rattle.cm_disk.specs.Disk.{File, Files, IsImage, LeavesOnly}
use Rattle.cm_disk.proofs.Moments.{weaker}
use Rattle.cm_log.specs.declared.shelf.Shelf.{Shelf}
use Rattle.cm_log.specs.declared.shelf.Shelf.TheVariants.{PkgLib}
use Rattle.cm_log.specs.declared.state.Log.{Log}
use Rattle.cm_log.specs.Shelves.{ready_place, log_place}
use Rattle.cm_log.specs.Logs.{shelved}
use Rattle.cm_log.specs.Settled.{shelf_of, place_of, end_of}
use Rattle.cm_log.proofs.Shelveds.{alike}
use Rattle.cm_pkglib.specs.declared.counts.Counts.{Counts}
use Rattle.cm_pkglib.specs.Counts.{sealed_of}
use Rattle.cm_tree.specs.declared.entry.Entry.{Entry}
use Rattle.cm_datalib.specs.Places.{manifest_place}
use Rattle.cm_filelib.specs.Places.{file_place}
use Rattle.cm_filelib.specs.Stored.{IsFileSure}
use Rattle.cm_state.specs.State.{State}
use Rattle.cm_state.specs.Opens.{Stands, OpensOr, StandsOr, HasFile, HasFiles, EachOpensSome}
use Rattle.cm_state.specs.Standing.{StandsIn}
use Rattle.cm_state.specs.Sure.{AreFilesSure, AreManifestsSure, AreVersionsSure}
use Rattle.cm_state.proofs.Elsewhere.{manifest_no_file, file_no_ready, file_no_log, file_names}
use Rattle.cm_state.proofs.ImagesOpen.{held_here, jobs_here}
use Rattle.cm_state.proofs.Members.{each_member, at_member}
use Rattle.cm_state.proofs.Replaying.{grounds_of, opened_by}
use Rattle.cm_state.proofs.Standing.{live_at}
use Rattle.cm_contents.specs.Contents.{InMemory}
use Rattle.cm_contents.specs.Seals.{IsSealedAll}
use Rattle.cm_library.specs.Kept.{IsKept}
use Rattle.cm_library.proofs.Sure.{sure_bytes}

-- while the place of a file is written, each image stands in the state
filing_stands : (files : Files) (may_leave : List ℕ → File → Type 0) (log : Log) (s : State) (hash : List ℕ) → shelf_of log ≡ PkgLib → StandsIn files may_leave log s → AreManifestsSure may_leave s
    → (image : Files) → ((q : List ℕ) → q ≢ file_place hash → may_leave q (image q)) → Stands image s
filing_stands files may_leave log s hash shelf st manifests_sure image others =
    let live = live_at files log shelf st.settled.ends in
    let g = grounds_of files (place_of log) st.settled.ends.entries (end_of log) s live st.stands in
    let manifests = λ (id : List ℕ) (version : ℕ). others (manifest_place id version) (manifest_no_file id version hash) in
    let same : shelved (shelf_of log) image ≡ shelved (shelf_of log) files = alike (shelf_of log) files image
    (st.settled.rests.ready (image (ready_place (shelf_of log))) (others (ready_place (shelf_of log)) (subst (λ (x : Shelf). ready_place x ≢ file_place hash) (sym shelf) (λ e. file_no_ready hash (sym e)))))
    (λ side. st.settled.rests.logs side (image (log_place (shelf_of log) side)) (others (log_place (shelf_of log) side) (subst (λ (x : Shelf). log_place x side ≢ file_place hash) (sym shelf) (λ e. file_no_log hash side (sym e))))) in
    opened_by image (place_of log) st.settled.ends.entries (end_of log) s (subst (λ (x : Shelf). shelved x image ≡ shelved x files) shelf same ∙ live) (record {
      rows = g.rows;
      room = g.room;
      versions = held_here may_leave image manifests s.versions manifests_sure.versions;
      jobs = jobs_here may_leave image manifests s.jobs manifests_sure.jobs;
    })

-- and has the files of its versions, whose hashes are sealed
filing_whole : (may_leave : List ℕ → File → Type 0) (reads : Files) (s : State) (counts : Counts) (hash : Hash) → IsBytes hash.0 → sealed_of counts hash ≡ None → IsImage may_leave reads
    → AllByRecursion (IsSealedAll counts) s.versions → AreVersionsSure may_leave s
    → (image : Files) → ((q : List ℕ) → q ≢ file_place hash.0 → may_leave q (image q)) → AllByRecursion (HasFiles image) s.versions
filing_whole may_leave reads s counts hash bytes unsealed read sealed sure image others =
    each_member (HasFiles image) s.versions (λ held among. each_member (HasFile image) held.manifest
    (λ e of.
    let here = at_member (λ (e : Entry). IsFileSure may_leave e.hash.0 e.size) held.manifest (at_member (AreFilesSure may_leave) s.versions sure held among) e of in
    let there = at_member (λ (e : Entry). sealed_of counts e.hash ≢ None) held.manifest (at_member (IsSealedAll counts) s.versions sealed held among) e of in
    let other : file_place e.hash.0 ≢ file_place hash.0 = λ same. there (ap (λ (h : List ℕ). sealed_of counts (record { 0 = h })) (file_names e.hash.0 hash.0 (sure_bytes may_leave reads e.hash.0 e.size read here) bytes same) ∙ unsealed) in
    here (image (file_place e.hash.0)) (others (file_place e.hash.0) other)))

module _ {D : Type 0} (reads : D → Option Files) (may_leave : D → List ℕ → File → Type 0) (moment : D → ℕ) (left_since : D → ℕ → Files → Type 0) (start old new : D) (log : Log) (m : InMemory) (counts : Counts) (kept : IsKept reads may_leave start old log m counts None)
    (hash : Hash) (run : LeavesOnly moment left_since old new (λ (left : Files). (q : List ℕ) → q ≢ file_place hash.0 → may_leave old q (left q))) where
  pub filing_leaves_standing : ForSome (reads old) (λ _. LeavesOnly moment left_since old new (StandsOr m.state None))
  filing_leaves_standing x told =
      weaker moment left_since old new (λ (left : Files). (q : List ℕ) → q ≢ file_place hash.0 → may_leave old q (left q)) (StandsOr m.state None) run
      (λ image others. inl (filing_stands x (may_leave old) log m.state hash.0 kept.standing.shelf (kept.standing.stands x told) (kept.standing.manifests x told) image others))

  pub filing_leaves_open : ((x : Files) → reads old ≡ Some x → IsImage (may_leave old) x) → IsBytes hash.0 → sealed_of counts hash ≡ None → EachOpensSome (may_leave start) → ForSome (reads old) (λ _. LeavesOnly moment left_since old new (OpensOr m.state None))
  filing_leaves_open image bytes unsealed whole x told =
      weaker moment left_since old new (λ (left : Files). (q : List ℕ) → q ≢ file_place hash.0 → may_leave old q (left q)) (OpensOr m.state None) run
      (λ left others. inl (record {
        stands = filing_stands x (may_leave old) log m.state hash.0 kept.standing.shelf (kept.standing.stands x told) (kept.standing.manifests x told) left others;
        whole = filing_whole (may_leave old) x m.state counts hash bytes unsealed (image x told) kept.counted.versions_sealed (kept.sure.versions whole x told) left others;
      }))
