-- The manifest of a version that may begin is stored.
use Rattle.std.proofs.Common.{◌≡◌, inl, ℕ, List, length, sym, subst}
use Rattle.std.specs.Prelude.{◌≢◌, Option, None, Some}
use Rattle.std.specs.Option.{ForSome}
use Rattle.cm_disk.specs.Disk.{File, Files, IsImage, LeavesOnly}
use Rattle.cm_disk.proofs.Moments.{weaker}
use Rattle.cm_log.specs.declared.state.Log.{Log}
use Rattle.cm_log.specs.Settled.{end_of}
use Rattle.cm_pkglib.specs.declared.change.Change.{Change}
use Rattle.cm_pkglib.specs.declared.counts.Counts.{Counts}
use Rattle.cm_pkglib.specs.Rows.{opened_fault}
use Rattle.cm_tree.specs.declared.entry.Entry.{Entry}
use Rattle.cm_datalib.specs.Places.{manifest_place}
use Rattle.cm_filelib.specs.Places.{file_place}
use Rattle.cm_state.specs.Changes.{Begun}
use Rattle.cm_state.specs.Opens.{OpensOr, StandsOr, EachOpensSome}
use Rattle.cm_state.specs.State.{rows_of}
use Rattle.cm_state.proofs.Elsewhere.{manifest_no_file}
use Rattle.cm_state.proofs.Storing.{storing_stands, storing_opens}
use Rattle.cm_contents.specs.Contents.{InMemory}
use Rattle.cm_library.specs.Begins.{MayBegin}
use Rattle.cm_library.specs.Kept.{IsStanding, AreSure}
use Rattle.cm_library.proofs.Keeps.{kept_stored}
use Rattle.cm_library.proofs.Sure.{sure_apart}

module _ {D : Type 0} (reads : D → Option Files) (may_leave : D → List ℕ → File → Type 0) (start disk mid : D) (log : Log) (m : InMemory) (counts : Counts) (pending : Option Change) (job : ℕ) (id : List ℕ) (version : ℕ) (manifest : List Entry)
    (idle : pending ≡ None) (standing : IsStanding reads may_leave disk log m pending) (sure : AreSure reads may_leave start disk m.state counts) (may : MayBegin (end_of log) m.state job id version manifest) where
  kept : IsStanding reads may_leave disk log m None
  kept = subst (λ (p : Option Change). IsStanding reads may_leave disk log m p) idle standing

  free : opened_fault (rows_of m.state) m.state.next id version (length manifest) ≡ None
  free = subst (λ (j : ℕ). opened_fault (rows_of m.state) j id version (length manifest) ≡ None) may.next may.free

  -- the library stands
  module _ (silent : reads disk ≡ None → reads mid ≡ None) (others : (q : List ℕ) (left : File) → q ≢ manifest_place id version → may_leave mid q left → may_leave disk q left) where
    pub still_standing : ((files : Files) → reads mid ≡ Some files → IsImage (may_leave mid) files) → IsStanding reads may_leave mid log m None
    still_standing image = kept_stored reads may_leave disk mid log m kept silent image id version (length manifest) free may.long may.version_range.1 others

    pub still_sure : AreSure reads may_leave start mid m.state counts
    still_sure = sure_apart reads may_leave start disk mid m.state counts silent (λ x told hash left. others (file_place hash) left (λ e. manifest_no_file id version hash (sym e))) sure

  -- at each moment a crash leaves the state
  module _ (moment : D → ℕ) (left_since : D → ℕ → Files → Type 0) (run : LeavesOnly moment left_since disk mid (λ (left : Files). (q : List ℕ) → q ≢ manifest_place id version → may_leave disk q (left q))) where
    pub storing_leaves_standing : ForSome (reads disk) (λ _. LeavesOnly moment left_since disk mid (StandsOr m.state (Some (Begun job id version manifest))))
    storing_leaves_standing x told =
        weaker moment left_since disk mid (λ (left : Files). (q : List ℕ) → q ≢ manifest_place id version → may_leave disk q (left q)) (StandsOr m.state (Some (Begun job id version manifest))) run
        (λ left others. inl (storing_stands x (may_leave disk) log m.state id version (length manifest) kept.shelf (kept.stands x told) (kept.manifests x told) kept.fit.named free may.long may.version_range.1 left others))

    pub storing_leaves_open : EachOpensSome (may_leave start) → ForSome (reads disk) (λ _. LeavesOnly moment left_since disk mid (OpensOr m.state (Some (Begun job id version manifest))))
    storing_leaves_open whole x told =
        weaker moment left_since disk mid (λ (left : Files). (q : List ℕ) → q ≢ manifest_place id version → may_leave disk q (left q)) (OpensOr m.state (Some (Begun job id version manifest))) run
        (λ left others. inl (storing_opens x (may_leave disk) log m.state id version (length manifest) kept.shelf (kept.stands x told) (kept.manifests x told) (sure.versions whole x told) kept.fit.named free may.long may.version_range.1 left others))
