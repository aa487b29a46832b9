-- A library that was opened whole.
use Rattle.std.proofs.Common.{◌≡◌, ⊎_elim, ℕ, Bool, true, false, List, [], ◌∷◌, refl, sym, ◌∙◌, subst}
use Rattle.std.specs.Prelude.{if◌then◌else◌}
use Rattle.std.specs.List.{AllByRecursion}
use Rattle.std.specs.Str.{bytes_eq}
use Rattle.std.proofs.lemmas.Slice.Eq.{bytes_eq-Decides}
use Rattle.cm_disk.specs.Disk.{File, Files, IsImage, put}
use Rattle.cm_disk.proofs.Puts.{put_here, put_there}
use Rattle.cm_log.specs.declared.shelf.Shelf.TheVariants.{PkgLib}
use Rattle.cm_log.specs.Shelves.{ready_place, log_place}
use Rattle.cm_tree.specs.declared.entry.Entry.{Entry}
use Rattle.cm_filelib.specs.Places.{file_place}
use Rattle.cm_filelib.specs.Stored.{is_file_of, IsFileSure}
use Rattle.cm_datalib.specs.Places.{manifest_place}
use Rattle.cm_state.specs.State.{Held, State}
use Rattle.cm_state.specs.Look.{Missing, Opened, look}
use Rattle.cm_state.specs.Opens.{HasFile, HasFiles, Opens, EachOpensSome}
use Rattle.cm_state.specs.Sure.{AreFilesSure, AreVersionsSure}
use Rattle.cm_state.proofs.Elsewhere.{file_no_ready, file_no_log, manifest_no_file}
use Rattle.cm_state.proofs.OneState.{same_state}
use Rattle.cm_state.proofs.Replaying.{look_same}

-- another file at one place of an image
put_image : (may_leave : List ℕ → File → Type 0) (files : Files) (place : List ℕ) (left : File) → IsImage may_leave files → may_leave place left → IsImage may_leave (put files place left)
put_image may_leave files place left image may q = at (bytes_eq place q) refl
  where
    at : (b : Bool) → bytes_eq place q ≡ b → may_leave q (put files place left q)
    at true is =
        let same = (bytes_eq-Decides place q).0 is in
        subst (λ (p : List ℕ). may_leave p (put files place left p)) same (subst (λ (f : File). may_leave place f) (sym (put_here files place left)) may)
    at false is = subst (λ (b : Bool). may_leave q (if b then left else files q)) (sym is) (image q)

not_missing_here : (s : State) → Missing ≡ Opened s → ⊥
not_missing_here s e = cc

module _ (files : Files) (start now : List ℕ → File → Type 0) (state : State) (whole : EachOpensSome start) (fewer : (q : List ℕ) (file : File) → now q file → start q file) (image : IsImage now files) (is : look files ≡ Opened state) where
  -- with any file that may be left at one place of a file, the state is whole
  opens_with : (hash : List ℕ) (left : File) → now (file_place hash) left → AllByRecursion (HasFiles (put files (file_place hash) left)) state.versions
  opens_with hash left may =
      let place = file_place hash in
      let other = put files place left in
      let o = whole other (λ q. fewer q (other q) (put_image now files place left image may q)) in
      let same : look other ≡ look files = look_same files other
      (put_there files place left (ready_place PkgLib) (λ e. file_no_ready hash (sym e)))
      (λ side. put_there files place left (log_place PkgLib side) (λ e. file_no_log hash side (sym e)))
      (λ id version. put_there files place left (manifest_place id version) (manifest_no_file id version hash)) in
      ⊎_elim
      (λ (none : look other ≡ Missing). absurd (not_missing_here state (sym none ∙ same ∙ is)))
      (λ (o : (s : State) × Opens other s). subst (λ (s : State). AllByRecursion (HasFiles other) s.versions) (same_state o.0 state (sym o.1.stands ∙ same ∙ is)) o.1.whole)
      o

  -- from each version, one entry
  entry_sure : (es : List Entry) → ((hash : List ℕ) (left : File) → now (file_place hash) left → AllByRecursion (HasFile (put files (file_place hash) left)) es) → AllByRecursion (λ (entry : Entry). IsFileSure now entry.hash.0 entry.size) es
  entry_sure [] all = tt
  entry_sure (e ∷ es) all =
      ((λ left may. subst (λ (f : File). is_file_of e.hash.0 e.size f ≡ true) (put_here files (file_place e.hash.0) left) (all e.hash.0 left may).0), entry_sure es (λ hash left may. (all hash left may).1))

  held_sure : (hs : List Held) → ((hash : List ℕ) (left : File) → now (file_place hash) left → AllByRecursion (HasFiles (put files (file_place hash) left)) hs) → AllByRecursion (AreFilesSure now) hs
  held_sure [] all = tt
  held_sure (h ∷ hs) all = (entry_sure h.manifest (λ hash left may. (all hash left may).0), held_sure hs (λ hash left may. (all hash left may).1))

  pub versions_sure : AreVersionsSure now state
  versions_sure = held_sure state.versions opens_with
