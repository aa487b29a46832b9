-- A library stays standing.
use Rattle.std.proofs.Common.{◌≡◌, inl, ℕ, ◌+◌, ◌<◌, ◌^◌, true, false, List, length, sym, ◌∙◌, ap, subst}
use Rattle.std.specs.Prelude.{◌≢◌, Option, None, Some}
use Rattle.std.specs.Option.{ForSome}
use Rattle.std.proofs.lemmas.Option.{same_Some, none-some}
use Rattle.cm_disk.specs.Disk.{File, Files, IsImage, LeavesNoMore}
use Rattle.cm_disk.proofs.Puts.{told_before}
use Rattle.cm_log.specs.declared.shelf.Shelf.{Shelf}
use Rattle.cm_log.specs.declared.shelf.Shelf.TheVariants.{PkgLib}
use Rattle.cm_log.specs.declared.state.Log.{Log}
use Rattle.cm_log.specs.Logs.{Shelved, closed, shelved, added}
use Rattle.cm_log.specs.Outcomes.{IsPending, IsFound}
use Rattle.cm_log.specs.Settled.{shelf_of, place_of, end_of, is_settled, IsSettled, IsUnsettled, Adds}
use Rattle.cm_pkglib.specs.declared.change.Change.{Change}
use Rattle.cm_pkglib.specs.Changes.{spelled}
use Rattle.cm_pkglib.specs.Rows.{opened_fault}
use Rattle.cm_pkglib.specs.Valid.{AreValid}
use Rattle.cm_filelib.specs.Places.{file_place}
use Rattle.cm_datalib.specs.Places.{manifest_place}
use Rattle.cm_state.specs.State.{State, rows_of}
use Rattle.cm_state.specs.Changes.{StateChange, record_of, changed}
use Rattle.cm_state.specs.Commits.{MayCommit, BringsManifest}
use Rattle.cm_state.specs.Look.{Opened, look}
use Rattle.cm_state.specs.Opens.{StandsOr}
use Rattle.cm_state.specs.Standing.{StandsIn, IsFitAt}
use Rattle.cm_state.specs.Sure.{AreManifestsSure}
use Rattle.cm_state.proofs.Committed.{manifests_then, manifests_kept, brought_kept, stands_with, stands_without, filed_stands, stored_stands, manifests_apart}
use Rattle.cm_state.proofs.Elsewhere.{manifest_no_file, manifest_no_log, file_no_log}
use Rattle.cm_state.proofs.ImagesOpen.{each_stands, unsettled_stands}
use Rattle.cm_state.proofs.Ready.{fit_then}
use Rattle.cm_state.proofs.Standing.{log_side, live_at}
use Rattle.cm_contents.specs.Contents.{InMemory, change_in, IsTakenFor}
use Rattle.cm_library.specs.Kept.{pending_in, IsPendingAt, IsStanding}

-- the places of manifests and of files, where the log's alone is written
module _ (files : Files) (old new : List ℕ → File → Type 0) (log : Log) (s : State) (shelf : shelf_of log ≡ PkgLib) (st : StandsIn files old log s) (others : (q : List ℕ) (left : File) → q ≢ place_of log → new q left → old q left) where
  pub manifest_apart : (id : List ℕ) (version : ℕ) (left : File) → new (manifest_place id version) left → old (manifest_place id version) left
  manifest_apart id version left l =
      let side = log_side files (place_of log) (closed st.settled.ends.entries (end_of log)) (live_at files log shelf st.settled.ends) in
      others (manifest_place id version) left (λ e. manifest_no_log id version side.0 (e ∙ side.1)) l

  pub file_apart : (hash : List ℕ) (left : File) → new (file_place hash) left → old (file_place hash) left
  file_apart hash left l =
      let side = log_side files (place_of log) (closed st.settled.ends.entries (end_of log)) (live_at files log shelf st.settled.ends) in
      others (file_place hash) left (λ e. file_no_log hash side.0 (e ∙ side.1)) l

-- what was added, where the files have names of their own
adds_told : (old new : Option Files) (log : Log) (files x : Files) (body : List ℕ) → shelf_of log ≡ PkgLib → (now : Files) × (new ≡ Some now) × Adds (shelf_of log) (place_of log) files now body → new ≡ Some x
    → shelved PkgLib x ≡ added body (shelved PkgLib files)
adds_told old new log files x body shelf adds told =
    subst (λ (h : Shelf). shelved h x ≡ added body (shelved h files)) shelf
    (subst (λ (f : Files). shelved (shelf_of log) f ≡ added body (shelved (shelf_of log) files)) (same_Some adds.0 x (sym adds.1 ∙ told)) adds.2.log)

module _ {D : Type 0} (reads : D → Option Files) (may_leave : D → List ℕ → File → Type 0) where
  -- a change was committed
  pub kept_done : (old new : D) (log log' : Log) (m m' : InMemory) (change : StateChange) → IsStanding reads may_leave old log m None → AreValid (rows_of m.state) → MayCommit (end_of log) m.state change
      → ForSome (reads old) (λ files. BringsManifest (may_leave old) change)
      → m'.state ≡ changed change m.state → is_settled log' ≡ true → shelf_of log' ≡ shelf_of log → end_of log' ≡ end_of log + 5 + length (spelled (record_of change))
      → (reads old ≡ None → reads new ≡ None) → ((q : List ℕ) (left : File) → q ≢ place_of log → may_leave new q left → may_leave old q left)
      → ForSome (reads old) (λ files. (now : Files) × (reads new ≡ Some now) × Adds (shelf_of log) (place_of log) files now (spelled (record_of change)))
      → ForSome (reads new) (λ files. IsSettled files (may_leave new) log') → ((files : Files) → reads new ≡ Some files → IsImage (may_leave new) files)
      → IsStanding reads may_leave new log' m' None
  kept_done old new log log' m m' change kept valid may brings is idle shelf end silent others adds settled image = record {
    shelf = shelf ∙ kept.shelf;
    idle_or = idle;
    fit = subst (IsFitAt (end_of log')) (sym is) (fit_then (end_of log) (end_of log') m.state change kept.fit valid may end);
    stands = λ x told.
        let before = told_before (reads old) (reads new) silent x told in
        let st = kept.stands before.0 before.1 in
        let still = manifest_apart before.0 (may_leave old) (may_leave new) log m.state kept.shelf st others in
        subst (λ (s : State). StandsIn x (may_leave new) log' s) (sym is)
        (stands_with before.0 x (may_leave new) log log' m.state st.settled.ends.entries (live_at before.0 log kept.shelf st.settled.ends) st.stands
        (manifests_kept (may_leave old) (may_leave new) still m.state (kept.manifests before.0 before.1)) (image x told) (settled x told) change may
        (brought_kept (may_leave old) (may_leave new) still change (brings before.0 before.1))
        (adds_told (reads old) (reads new) log before.0 x (spelled (record_of change)) kept.shelf (adds before.0 before.1) told));
    manifests = λ x told.
        let before = told_before (reads old) (reads new) silent x told in
        let still = manifest_apart before.0 (may_leave old) (may_leave new) log m.state kept.shelf (kept.stands before.0 before.1) others in
        subst (AreManifestsSure (may_leave new)) (sym is)
        (manifests_then (may_leave new) m.state change (brought_kept (may_leave old) (may_leave new) still change (brings before.0 before.1))
        (manifests_kept (may_leave old) (may_leave new) still m.state (kept.manifests before.0 before.1)));
  }

  -- it failed, and is pending
  pub kept_failed : (old new : D) (log log' : Log) (m : InMemory) (change : Change) → IsStanding reads may_leave old log m None → MayCommit (end_of log) m.state (change_in m.taken change) → IsTakenFor m.taken change
      → ForSome (reads old) (λ files. BringsManifest (may_leave old) (change_in m.taken change))
      → IsPending log log' (spelled change) → shelf_of log' ≡ shelf_of log
      → (reads old ≡ None → reads new ≡ None) → ((q : List ℕ) (left : File) → q ≢ place_of log → may_leave new q left → may_leave old q left)
      → ForSome (reads old) (λ files. (now : Files) × (reads new ≡ Some now) × IsUnsettled now (may_leave new) log' (shelved (shelf_of log) files) (spelled change))
      → IsStanding reads may_leave new log' m (Some change)
  kept_failed old new log log' m change kept may taken brings pending shelf silent others unsettled = record {
    shelf = shelf ∙ kept.shelf;
    idle_or = record {
      unsettled = pending.idle;
      end_with = pending.end_with ∙ ap (λ (n : ℕ). n + 5 + length (spelled change)) (sym pending.end);
      may = subst (λ (n : ℕ). MayCommit n m.state (change_in m.taken change)) (sym pending.end) may;
      taken_for = taken;
    };
    fit = subst (λ (n : ℕ). IsFitAt n m.state) (sym pending.end) kept.fit;
    stands = λ x told.
        let before = told_before (reads old) (reads new) silent x told in
        let st = kept.stands before.0 before.1 in
        let still = manifest_apart before.0 (may_leave old) (may_leave new) log m.state kept.shelf st others in
        let u = unsettled before.0 before.1 in
        record {
          before = before.0;
          was = st.stands;
          either = subst (λ (b : List ℕ). IsUnsettled x (may_leave new) log' (shelved PkgLib before.0) b) (ap (λ (c : Change). spelled c) (sym taken.says))
              (subst (λ (h : Shelf). IsUnsettled x (may_leave new) log' (shelved h before.0) (spelled change)) kept.shelf
              (subst (λ (f : Files). IsUnsettled f (may_leave new) log' (shelved (shelf_of log) before.0) (spelled change)) (same_Some u.0 x (sym u.1 ∙ told)) u.2));
          brings = brought_kept (may_leave old) (may_leave new) still (change_in m.taken change) (brings before.0 before.1);
        };
    manifests = λ x told.
        let before = told_before (reads old) (reads new) silent x told in
        manifests_kept (may_leave old) (may_leave new) (manifest_apart before.0 (may_leave old) (may_leave new) log m.state kept.shelf (kept.stands before.0 before.1) others) m.state (kept.manifests before.0 before.1);
  }

  -- it was found committed
  pub kept_there : (old new : D) (log log' : Log) (m m' : InMemory) (change : Change) → IsStanding reads may_leave old log m (Some change) → AreValid (rows_of m.state)
      → m'.state ≡ changed (change_in m.taken change) m.state → IsFound log log' true → shelf_of log' ≡ shelf_of log
      → reads new ≡ reads old → LeavesNoMore (may_leave old) (may_leave new)
      → ForSome (reads old) (λ files. (before : Shelved) (body : List ℕ) → IsUnsettled files (may_leave old) log before body → shelved (shelf_of log) files ≡ added body before)
      → ForSome (reads new) (λ files. IsSettled files (may_leave new) log') → ((files : Files) → reads new ≡ Some files → IsImage (may_leave new) files)
      → IsStanding reads may_leave new log' m' None
  kept_there old new log log' m m' change kept valid is found shelf same stop there settled image =
      let c = change_in m.taken change in
      let at = kept.idle_or in
      let still = λ (id : List ℕ) (version : ℕ) (left : File). stop (manifest_place id version) left in
      let end : end_of log' ≡ end_of log + 5 + length (spelled (record_of c)) = found.end ∙ at.end_with ∙ ap (λ (r : Change). end_of log + 5 + length (spelled r)) (sym at.taken_for.says) in
      record {
        shelf = shelf ∙ kept.shelf;
        idle_or = found.idle;
        fit = subst (IsFitAt (end_of log')) (sym is) (fit_then (end_of log) (end_of log') m.state c kept.fit valid at.may end);
        stands = λ x told.
            let t = sym same ∙ told in
            let st = kept.stands x t in
            subst (λ (s : State). StandsIn x (may_leave new) log' s) (sym is)
            (stands_with st.before x (may_leave new) log log' m.state st.either.entries st.either.live st.was
            (manifests_kept (may_leave old) (may_leave new) still m.state (kept.manifests x t)) (image x told) (settled x told) c at.may
            (brought_kept (may_leave old) (may_leave new) still c st.brings)
            (subst (λ (h : Shelf). shelved h x ≡ added (spelled (record_of c)) (shelved PkgLib st.before)) kept.shelf (there x t (shelved PkgLib st.before) (spelled (record_of c)) st.either)));
        manifests = λ x told.
            let t = sym same ∙ told in
            subst (AreManifestsSure (may_leave new)) (sym is)
            (manifests_then (may_leave new) m.state c (brought_kept (may_leave old) (may_leave new) still c (kept.stands x t).brings)
            (manifests_kept (may_leave old) (may_leave new) still m.state (kept.manifests x t)));
      }

  -- it was not
  pub kept_not_there : (old new : D) (log log' : Log) (m : InMemory) (change : Change) → IsStanding reads may_leave old log m (Some change) → IsFound log log' false → shelf_of log' ≡ shelf_of log
      → reads new ≡ reads old → LeavesNoMore (may_leave old) (may_leave new)
      → ForSome (reads old) (λ files. (before : Shelved) (body : List ℕ) → IsUnsettled files (may_leave old) log before body → shelved (shelf_of log) files ≡ before)
      → ForSome (reads new) (λ files. IsSettled files (may_leave new) log') → ((files : Files) → reads new ≡ Some files → IsImage (may_leave new) files)
      → IsStanding reads may_leave new log' m None
  kept_not_there old new log log' m change kept found shelf same stop there settled image =
      let still = λ (id : List ℕ) (version : ℕ) (left : File). stop (manifest_place id version) left in
      record {
        shelf = shelf ∙ kept.shelf;
        idle_or = found.idle;
        fit = subst (λ (n : ℕ). IsFitAt n m.state) (sym found.end) kept.fit;
        stands = λ x told.
            let t = sym same ∙ told in
            let st = kept.stands x t in
            stands_without st.before x (may_leave new) log log' m.state st.either.entries st.either.live st.was
            (manifests_kept (may_leave old) (may_leave new) still m.state (kept.manifests x t)) (image x told) (settled x told)
            (subst (λ (h : Shelf). shelved h x ≡ shelved PkgLib st.before) kept.shelf (there x t (shelved PkgLib st.before) (spelled (record_of (change_in m.taken change))) st.either));
        manifests = λ x told. manifests_kept (may_leave old) (may_leave new) still m.state (kept.manifests x (sym same ∙ told));
      }

  -- settling failed
  pub kept_unsettled : (old new : D) (log log' : Log) (m : InMemory) (change : Change) → IsStanding reads may_leave old log m (Some change) → log' ≡ log
      → reads new ≡ reads old → LeavesNoMore (may_leave old) (may_leave new)
      → ForSome (reads old) (λ files. (before : Shelved) (body : List ℕ) → IsUnsettled files (may_leave old) log before body → IsUnsettled files (may_leave new) log' before body)
      → IsStanding reads may_leave new log' m (Some change)
  kept_unsettled old new log log' m change kept log_is same stop unsettled =
      let still = λ (id : List ℕ) (version : ℕ) (left : File). stop (manifest_place id version) left in
      record {
        shelf = ap (λ (l : Log). shelf_of l) log_is ∙ kept.shelf;
        idle_or = subst (λ (l : Log). IsPendingAt l m change) (sym log_is) kept.idle_or;
        fit = subst (λ (l : Log). IsFitAt (end_of l) m.state) (sym log_is) kept.fit;
        stands = λ x told.
            let t = sym same ∙ told in
            let st = kept.stands x t in
            record {
              before = st.before;
              was = st.was;
              either = unsettled x t (shelved PkgLib st.before) (spelled (record_of (change_in m.taken change))) st.either;
              brings = brought_kept (may_leave old) (may_leave new) still (change_in m.taken change) st.brings;
            };
        manifests = λ x told. manifests_kept (may_leave old) (may_leave new) still m.state (kept.manifests x (sym same ∙ told));
      }

  module _ (old new : D) (log : Log) (m : InMemory) (kept : IsStanding reads may_leave old log m None) (silent : reads old ≡ None → reads new ≡ None) (image : (files : Files) → reads new ≡ Some files → IsImage (may_leave new) files) where
    -- the place of a file was written
    pub kept_filed : (hash : List ℕ) → ((q : List ℕ) (left : File) → q ≢ file_place hash → may_leave new q left → may_leave old q left) → IsStanding reads may_leave new log m None
    kept_filed hash stop = record {
      shelf = kept.shelf;
      idle_or = kept.idle_or;
      fit = kept.fit;
      stands = λ x told.
          let before = told_before (reads old) (reads new) silent x told in
          filed_stands before.0 x (may_leave old) (may_leave new) log m.state kept.shelf (kept.stands before.0 before.1) (kept.manifests before.0 before.1) (image x told) hash stop;
      manifests = λ x told.
          let before = told_before (reads old) (reads new) silent x told in
          manifests_kept (may_leave old) (may_leave new) (λ id version left. stop (manifest_place id version) left (manifest_no_file id version hash)) m.state (kept.manifests before.0 before.1);
    }

    -- that of the manifest of a version that may begin was
    pub kept_stored : (id : List ℕ) (version entries : ℕ) → opened_fault (rows_of m.state) m.state.next id version entries ≡ None → length id ≡ 8 → version < 2 ^ 32
        → ((q : List ℕ) (left : File) → q ≢ manifest_place id version → may_leave new q left → may_leave old q left) → IsStanding reads may_leave new log m None
    kept_stored id version entries free long below stop = record {
      shelf = kept.shelf;
      idle_or = kept.idle_or;
      fit = kept.fit;
      stands = λ x told.
          let before = told_before (reads old) (reads new) silent x told in
          stored_stands before.0 x (may_leave old) (may_leave new) log m.state kept.shelf (kept.stands before.0 before.1) (kept.manifests before.0 before.1) (image x told) id version entries kept.fit.named free long below stop;
      manifests = λ x told.
          let before = told_before (reads old) (reads new) silent x told in
          manifests_apart (may_leave old) (may_leave new) m.state id version entries kept.fit.named free long below stop (kept.manifests before.0 before.1);
    }

  -- memory was taken
  pub kept_taken : (disk : D) (log : Log) (m m' : InMemory) → m'.state ≡ m.state → IsStanding reads may_leave disk log m None → IsStanding reads may_leave disk log m' None
  kept_taken disk log m m' is kept = record {
    shelf = kept.shelf;
    idle_or = kept.idle_or;
    fit = subst (IsFitAt (end_of log)) (sym is) kept.fit;
    stands = λ x told. subst (λ (s : State). StandsIn x (may_leave disk) log s) (sym is) (kept.stands x told);
    manifests = λ x told. subst (AreManifestsSure (may_leave disk)) (sym is) (kept.manifests x told);
  }

  -- what a crash leaves of it
  pub kept_stands : (disk : D) (log : Log) (m : InMemory) (pending : Option Change) → IsStanding reads may_leave disk log m pending
      → ForSome (reads disk) (λ files. (image : Files) → IsImage (may_leave disk) image → StandsOr m.state (pending_in m.taken pending) image)
  kept_stands disk log m None kept x told image left = inl (each_stands x (may_leave disk) log m.state kept.shelf (kept.stands x told) (kept.manifests x told) image left)
  kept_stands disk log m (Some change) kept x told image left = unsettled_stands x (may_leave disk) log m.state (change_in m.taken change) kept.shelf (kept.stands x told) kept.idle_or.may (kept.manifests x told) image left

  -- of a settled one what reads give is its state
  pub kept_files : (disk : D) (log : Log) (m : InMemory) (pending : Option Change) → IsStanding reads may_leave disk log m pending → ForSome (reads disk) (λ files. pending_in m.taken pending ≡ None → look files ≡ Opened m.state)
  kept_files disk log m None kept x told none = (kept.stands x told).stands
  kept_files disk log m (Some change) kept x told none = absurd (none-some (change_in m.taken change) (sym none))
