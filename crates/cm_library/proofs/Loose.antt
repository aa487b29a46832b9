-- A settled library stays whole where no place has changed but loose ones.
use Rattle.std.proofs.Common.{◌≡◌, inl, ⊎_elim, ℕ, Bool, true, false, List, refl, sym, ◌∙◌, ap, subst}
use Rattle.std.specs.Prelude.{◌≢◌, Contains, Option, None, Some, IfSome, if◌then◌else◌}
use Rattle.std.specs.Option.{ForSome}
use Rattle.std.proofs.lemmas.Option.{none-some}
use Rattle.cm_base.specs.declared.hash.Hash.{Hash}
use Rattle.cm_disk.specs.Disk.{File, Files, IsImage, LeavesOnly}
use Rattle.cm_disk.proofs.Moments.{weaker}
use Rattle.cm_disk.proofs.Puts.{told_before}
use Rattle.cm_log.specs.declared.shelf.Shelf.{Shelf}
use Rattle.cm_log.specs.declared.shelf.Shelf.TheVariants.{PkgLib}
use Rattle.cm_log.specs.declared.shelf.Side.{Side}
use Rattle.cm_log.specs.declared.state.Log.{Log}
use Rattle.cm_log.specs.Frames.{LeavesAlone}
use Rattle.cm_log.specs.Settled.{shelf_of, end_of, IsSettled}
use Rattle.cm_log.specs.Shelves.{ready_place, log_place}
use Rattle.cm_log.proofs.Shelveds.{alike}
use Rattle.cm_pkglib.specs.declared.change.Change.{Change}
use Rattle.cm_pkglib.specs.declared.counts.Seal.{Seal}
use Rattle.cm_pkglib.specs.declared.counts.Counts.{Counts}
use Rattle.cm_pkglib.specs.Counts.{sealed_of, seals_in}
use Rattle.cm_tree.specs.declared.entry.Entry.{Entry}
use Rattle.cm_filelib.specs.declared.writing.Writing.{Writing}
use Rattle.cm_filelib.specs.Places.{file_place}
use Rattle.cm_filelib.specs.Stored.{IsFileSure}
use Rattle.cm_filelib.specs.Writings.{hash_of, size_of, place_of, IsWriting}
use Rattle.cm_state.specs.Needed.{own_place}
use Rattle.cm_state.specs.Opens.{StandsOr, OpensOr}
use Rattle.cm_state.specs.Purged.{is_loose}
use Rattle.cm_state.specs.Standing.{StandsIn}
use Rattle.cm_state.specs.State.{Held, State}
use Rattle.cm_state.specs.Sure.{IsManifestSure, AreFilesSure, AreManifestsSure, AreVersionsSure}
use Rattle.cm_state.proofs.ImagesOpen.{each_stands}
use Rattle.cm_state.proofs.Members.{each_member, at_member}
use Rattle.cm_state.proofs.Purges.{needed_firm, own_needed, entry_needed, file_needed, version_among, job_among, ready_firm, log_firm, firm_stands, firm_opens}
use Rattle.cm_contents.specs.Contents.{InMemory}
use Rattle.cm_library.specs.Kept.{Seen, pending_in, IsLibrary}
use Rattle.cm_library.specs.Purging.{IsFirm}
use Rattle.cm_library.specs.Started.{IsStarted, AreStarted}
use Rattle.cm_library.proofs.SettledCalls.{idle, kept_idle, files_idle}
use Rattle.cm_library.proofs.StartedFiles.{still_writing, told_of, all_join, wanted_needed}

-- what a stop left at places that are not loose, with what reads gave at the others
firm_or : State → Files → Files → Files
firm_or s before left q = if is_loose s q then before q else left q

firm_image : (s : State) (may_leave : List ℕ → File → Type 0) (before left : Files) → IsImage may_leave before → ((q : List ℕ) → IsFirm s q → may_leave q (left q)) → IsImage may_leave (firm_or s before left)
unfolding firm_or
firm_image s may_leave before left image firm q = by (is_loose s q) refl
  where
    by : (b : Bool) → is_loose s q ≡ b → may_leave q (if b then before q else left q)
    by true loose = image q
    by false is = firm q is

firm_same : (s : State) (before left : Files) (q : List ℕ) → IsFirm s q → left q ≡ firm_or s before left q
unfolding firm_or
firm_same s before left q firm = sym (ap (λ (b : Bool). if b then before q else left q) firm)

-- what a stop leaves stands in the state, or opens to it
pub left_stands : (s : State) (may_leave : List ℕ → File → Type 0) (before left : Files) → IsImage may_leave before → ((image : Files) → IsImage may_leave image → StandsOr s None image) → ((q : List ℕ) → IsFirm s q → may_leave q (left q)) → StandsOr s None left
left_stands s may_leave before left image each firm =
    let here = firm_or s before left in
    inl (firm_stands s here left (firm_same s before left) (⊎_elim (λ is. is) (λ is. is) (each here (firm_image s may_leave before left image firm))))

pub left_opens : (s : State) (may_leave : List ℕ → File → Type 0) (before left : Files) → IsImage may_leave before → ((image : Files) → IsImage may_leave image → OpensOr s None image) → ((q : List ℕ) → IsFirm s q → may_leave q (left q)) → OpensOr s None left
left_opens s may_leave before left image each firm =
    let here = firm_or s before left in
    inl (firm_opens s here left (firm_same s before left) (⊎_elim (λ is. is) (λ is. is) (each here (firm_image s may_leave before left image firm))))

module _ {D : Type 0} {reads : D → Option Files} {may_leave : D → List ℕ → File → Type 0} {moment : D → ℕ} {left_since : D → ℕ → Files → Type 0} {faults : D → ℕ} (s : State) (old new : D) (alone : LeavesAlone (IsFirm s) reads may_leave moment left_since faults old new) where
  -- at each moment
  pub moments_stand : (before : Files) → IsImage (may_leave old) before → ((image : Files) → IsImage (may_leave old) image → StandsOr s None image) → LeavesOnly moment left_since old new (StandsOr s None)
  moments_stand before image each =
      weaker moment left_since old new (λ (left : Files). (q : List ℕ) → IsFirm s q → may_leave old q (left q)) (StandsOr s None) alone.run (λ left firm. left_stands s (may_leave old) before left image each firm)

  pub moments_open : (before : Files) → IsImage (may_leave old) before → ((image : Files) → IsImage (may_leave old) image → OpensOr s None image) → LeavesOnly moment left_since old new (OpensOr s None)
  moments_open before image each =
      weaker moment left_since old new (λ (left : Files). (q : List ℕ) → IsFirm s q → may_leave old q (left q)) (OpensOr s None) alone.run (λ left firm. left_opens s (may_leave old) before left image each firm)

  -- what is needed is left alone
  own_still : (h : Held) → Contains (s.versions) h → (left : File) → may_leave new (own_place h) left → may_leave old (own_place h) left
  own_still h among left l = alone.others (own_place h) left (needed_firm s (own_place h) (own_needed s h (version_among s h among))) l

  job_still : (job : ℕ × Held) → Contains (s.jobs) job → (left : File) → may_leave new (own_place job.1) left → may_leave old (own_place job.1) left
  job_still job among left l = alone.others (own_place job.1) left (needed_firm s (own_place job.1) (own_needed s job.1 (job_among s job among))) l

  manifests_still : AreManifestsSure (may_leave old) s → AreManifestsSure (may_leave new) s
  manifests_still sure = record {
    versions = each_member (IsManifestSure (may_leave new)) s.versions (λ h among left l. at_member (IsManifestSure (may_leave old)) s.versions sure.versions h among left (own_still h among left l));
    jobs = each_member (λ (job : ℕ × Held). IsManifestSure (may_leave new) job.1) s.jobs (λ job among left l. at_member (λ (job : ℕ × Held). IsManifestSure (may_leave old) job.1) s.jobs sure.jobs job among left (job_still job among left l));
  }

  versions_still : AreVersionsSure (may_leave old) s → AreVersionsSure (may_leave new) s
  versions_still sure =
      each_member (AreFilesSure (may_leave new)) s.versions (λ h among. each_member (λ (e : Entry). IsFileSure (may_leave new) e.hash.0 e.size) h.manifest
      (λ e of left l. at_member (λ (e : Entry). IsFileSure (may_leave old) e.hash.0 e.size) h.manifest (at_member (AreFilesSure (may_leave old)) s.versions sure h among) e of left
      (alone.others (file_place e.hash.0) left (needed_firm s (file_place e.hash.0) (entry_needed s h e (version_among s h among) of)) l)))

  module _ (image : (x : Files) → reads old ≡ Some x → IsImage (may_leave old) x) (new_image : (x : Files) → reads new ≡ Some x → IsImage (may_leave new) x) where
    module _ (log : Log) (shelf : shelf_of log ≡ PkgLib) where
      firm_ready : IsFirm s (ready_place (shelf_of log))
      firm_ready = subst (λ (h : Shelf). IsFirm s (ready_place h)) (sym shelf) (ready_firm s)

      firm_log : (side : Side) → IsFirm s (log_place (shelf_of log) side)
      firm_log side = subst (λ (h : Shelf). IsFirm s (log_place h side)) (sym shelf) (log_firm s side)

      module _ (files now : Files) (left : IsImage (may_leave new) now) (settled : IsSettled files (may_leave old) log) where
        ready_apart : now (ready_place (shelf_of log)) ≡ files (ready_place (shelf_of log))
        ready_apart = settled.rests.ready (now (ready_place (shelf_of log))) (alone.others (ready_place (shelf_of log)) (now (ready_place (shelf_of log))) firm_ready (left (ready_place (shelf_of log))))

        logs_apart : (side : Side) → now (log_place (shelf_of log) side) ≡ files (log_place (shelf_of log) side)
        logs_apart side = settled.rests.logs side (now (log_place (shelf_of log) side)) (alone.others (log_place (shelf_of log) side) (now (log_place (shelf_of log) side)) (firm_log side) (left (log_place (shelf_of log) side)))

        settled_still : IsSettled now (may_leave new) log
        settled_still = record {
          ends = record { entries = settled.ends.entries; live = alike (shelf_of log) files now ready_apart logs_apart ∙ settled.ends.live; number = settled.ends.number };
          rests = record {
            ready = λ file l. settled.rests.ready file (alone.others (ready_place (shelf_of log)) file firm_ready l) ∙ sym ready_apart;
            logs = λ side file l. settled.rests.logs side file (alone.others (log_place (shelf_of log) side) file (firm_log side) l) ∙ sym (logs_apart side);
          };
          idle = settled.idle;
        }

    stands_still : (log : Log) (x : Files) → reads new ≡ Some x → shelf_of log ≡ PkgLib → ForSome (reads old) (λ files. StandsIn files (may_leave old) log s) → ForSome (reads old) (λ files. AreManifestsSure (may_leave old) s) → StandsIn x (may_leave new) log s
    stands_still log x told shelf stands manifests =
        let before = told_before (reads old) (reads new) alone.silent x told in
        let st = stands before.0 before.1 in
        let left = new_image x told in
        let firm = λ (q : List ℕ) (is : IsFirm s q). alone.others q (x q) is (left q) in
        let here = firm_or s before.0 x in
        record {
          stands = firm_stands s here x (firm_same s before.0 x) (each_stands before.0 (may_leave old) log s shelf st (manifests before.0 before.1) here (firm_image s (may_leave old) before.0 x (image before.0 before.1) firm));
          settled = settled_still log shelf before.0 x left st.settled;
        }

  -- the files of seals that are needed
  since_still : (hash : Hash) (seal : Option Seal) → (seal ≢ None → IsFirm s (file_place hash.0)) → IfSome seal (λ seal. seal.since ≡ true → IsFileSure (may_leave old) hash.0 seal.size) → IfSome seal (λ seal. seal.since ≡ true → IsFileSure (may_leave new) hash.0 seal.size)
  since_still hash None firm sure = tt
  since_still hash (Some seal) firm sure = λ since left l. sure since left (alone.others (file_place hash.0) left (firm (λ none. none-some seal (sym none))) l)

  seal_still : (hash : Hash) (seal : Option Seal) → (seal ≢ None → IsFirm s (file_place hash.0)) → IfSome seal (λ seal. IsFileSure (may_leave old) hash.0 seal.size) → IfSome seal (λ seal. IsFileSure (may_leave new) hash.0 seal.size)
  seal_still hash None firm sure = tt
  seal_still hash (Some seal) firm sure = λ left l. sure left (alone.others (file_place hash.0) left (firm (λ none. none-some seal (sym none))) l)

  -- started files are needed
  files_still : (seals : Hash → Option Seal) (started : List (ℕ × Writing)) → AreStarted (reads old) s seals None started → AreStarted (reads new) s seals None started
  files_still seals started are = record {
    each = are.each;
    apart = are.apart;
    written = λ now after.
        let before = told_before (reads old) (reads new) alone.silent now after in
        let same = told_of (λ files now. (q : List ℕ) → IsFirm s q → now q ≡ files q) (reads old) (reads new) before.0 now alone.kept before.1 after in
        all_join (IsStarted s seals) (λ (file : ℕ × Writing). IsWriting before.0 file.1) (λ (file : ℕ × Writing). IsWriting now file.1)
        (λ file is writing. still_writing before.0 now file.1 (same (place_of file.1) (needed_firm s (place_of file.1) (file_needed s (hash_of file.1).0 (wanted_needed s file.0 (hash_of file.1) (size_of file.1) is.wanted)))) writing) started are.each (are.written before.0 before.1);
    ending = tt;
  }

module _ {D : Type 0} (reads : D → Option Files) (may_leave : D → List ℕ → File → Type 0) (moment : D → ℕ) (left_since : D → ℕ → Files → Type 0) (faults : D → ℕ) (as_it_reads : (disk : D) (x : Files) → reads disk ≡ Some x → IsImage (may_leave disk) x)
    (start disk : D) (log : Log) (m : InMemory) (counts : Counts) (pending : Option Change) (files : List (ℕ × Writing)) (room : ℕ) (view : Seen D)
    (is : (let v : Seen D = record { disk = disk; start = start; state = m.state; seals = seals_in counts; started = files; end = end_of log; pending = pending_in m.taken pending } in v) ≡ view)
    (settled : view.pending ≡ None) (library : IsLibrary reads may_leave start disk log m counts pending files room) where
  pub library_still : (new : D) → LeavesAlone (IsFirm m.state) reads may_leave moment left_since faults disk new → IsLibrary reads may_leave start new log m counts pending files room
  library_still new alone =
      let kept = kept_idle reads may_leave moment left_since as_it_reads start disk log m counts pending files room view is settled library in
      let none = idle reads may_leave moment left_since as_it_reads start disk log m counts pending files room view is settled library in
      let needed = λ (hash : Hash) (sealed : sealed_of counts hash ≢ None). needed_firm m.state (file_place hash.0) (file_needed m.state hash.0 (kept.counted.sealed_needed hash sealed)) in
      let before = told_before (reads disk) (reads new) alone.silent in
      subst (λ (p : Option Change). IsLibrary reads may_leave start new log m counts p files room) (sym none) (record {
        kept = record {
          standing = record {
            shelf = kept.standing.shelf;
            idle_or = kept.standing.idle_or;
            fit = kept.standing.fit;
            stands = λ x told. stands_still m.state disk new alone (as_it_reads disk) (as_it_reads new) log x told kept.standing.shelf kept.standing.stands kept.standing.manifests;
            manifests = λ x told. let b = before x told in manifests_still m.state disk new alone (kept.standing.manifests b.0 b.1);
          };
          counted = kept.counted;
          stored = tt;
          sure = record {
            since = λ x told hash. let b = before x told in since_still m.state disk new alone hash (sealed_of counts hash) (needed hash) (kept.sure.since b.0 b.1 hash);
            seals = λ whole x told hash. let b = before x told in seal_still m.state disk new alone hash (sealed_of counts hash) (needed hash) (kept.sure.seals whole b.0 b.1 hash);
            versions = λ whole x told. let b = before x told in versions_still m.state disk new alone (kept.sure.versions whole b.0 b.1);
          };
        };
        files = files_still m.state disk new alone (λ hash. sealed_of counts hash) files (files_idle reads may_leave moment left_since as_it_reads start disk log m counts pending files room view is settled library);
        enough = library.enough;
      })
