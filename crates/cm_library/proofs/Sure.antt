-- What is sure of stored files stays so.
use Rattle.std.proofs.Common.{◌≡◌, inl, ℕ, Bool, true, false, cond, List, [], ◌∷◌, refl, sym, ◌∙◌, ap, subst}
use Rattle.std.specs.Prelude.{◌≢◌, Option, None, Some, IfSome, find, option_map}
use Rattle.std.specs.Option.{ForSome}
use Rattle.std.specs.List.{AllByRecursion, flat_map}
use Rattle.std.specs.Str.{bytes_eq}
use Rattle.std.proofs.lemmas.Bool.{false≢true, eqb-true, and_parts}
use Rattle.std.proofs.lemmas.Option.{none-some}
use Rattle.std.proofs.lemmas.Slice.Eq.{bytes_eq-Decides}
use Rattle.sha2.specs.Sha256.{sha256}
use Rattle.hex.specs.Hex.{IsBytes}
use Rattle.cm_base.specs.declared.hash.Hash.{Hash}
use Rattle.cm_disk.specs.Disk.{File, Files, IsImage}
use Rattle.cm_disk.proofs.Puts.{told_before}
use Rattle.cm_log.specs.declared.state.Log.{Log}
use Rattle.cm_pkglib.specs.declared.change.Change.{Change}
use Rattle.cm_pkglib.specs.declared.counts.Seal.{Seal}
use Rattle.cm_pkglib.specs.declared.counts.Counts.{Counts}
use Rattle.cm_pkglib.specs.Counts.{sealed_of}
use Rattle.cm_pkglib.proofs.Among.{All-append}
use Rattle.cm_tree.specs.declared.entry.Entry.{Entry}
use Rattle.cm_filelib.specs.Places.{file_place}
use Rattle.cm_filelib.specs.Stored.{is_file_of, IsFileSure}
use Rattle.cm_state.specs.State.{Held, State, held_by_job}
use Rattle.cm_state.specs.Changes.{StateChange, Begun, Finished, Dropped, Removed, changed}
use Rattle.cm_state.specs.Commits.{BringsFiles}
use Rattle.cm_state.specs.Needed.{is_needed}
use Rattle.cm_state.specs.Opens.{OpensOr, EachOpensSome}
use Rattle.cm_state.specs.Sure.{AreFilesSure, AreVersionsSure}
use Rattle.cm_state.proofs.Committed.{all_through, versions_kept, versions_then_sure}
use Rattle.cm_state.proofs.Digests.{sha256_bytes}
use Rattle.cm_state.proofs.Elsewhere.{file_names}
use Rattle.cm_state.proofs.ImagesOpen.{each_opens, unsettled_opens}
use Rattle.cm_state.proofs.Lists.{found_one}
use Rattle.cm_state.proofs.Members.{each_member, at_member}
use Rattle.cm_contents.specs.Contents.{InMemory, change_in}
use Rattle.cm_contents.specs.Seals.{has_size, is_stored, if_needed, manifest_or_none, IsSealedAll, IsCounted, AreStored, found_seal, version_entries}
use Rattle.cm_contents.proofs.Counted.{found_passes}
use Rattle.cm_library.specs.Calls.{KeepsNeeded, KeepsSeals}
use Rattle.cm_library.specs.Kept.{pending_in, AreSealsSure, AreSure, IsKept}
use Rattle.cm_library.proofs.Keeps.{kept_filed}

-- a seal whose file is left alone
if_sure : (old new : List ℕ → File → Type 0) (hash : List ℕ) → ((left : File) → new (file_place hash) left → old (file_place hash) left) → (seal : Option Seal) → IfSome seal (λ seal. IsFileSure old hash seal.size) → IfSome seal (λ seal. IsFileSure new hash seal.size)
if_sure old new hash still None sure = tt
if_sure old new hash still (Some seal) sure = λ left l. sure left (still left l)

if_since : (old new : List ℕ → File → Type 0) (hash : List ℕ) → ((left : File) → new (file_place hash) left → old (file_place hash) left) → (seal : Option Seal) → IfSome seal (λ seal. seal.since ≡ true → IsFileSure old hash seal.size) → IfSome seal (λ seal. seal.since ≡ true → IsFileSure new hash seal.size)
if_since old new hash still None sure = tt
if_since old new hash still (Some seal) sure = λ since left l. sure since left (still left l)

-- a seal that is kept where it is needed
if_kept : (P : Seal → Type 0) (b : Bool) (seal : Option Seal) → IfSome seal P → IfSome (if_needed b seal) P
if_kept P true seal sure = sure
if_kept P false seal sure = tt

-- a stored entry has its file
stored_sure : (may_leave : List ℕ → File → Type 0) (hash : List ℕ) (size : ℕ) (seal : Option Seal) → has_size size seal ≡ true → IfSome seal (λ seal. IsFileSure may_leave hash seal.size) → IsFileSure may_leave hash size
stored_sure may_leave hash size None is sure = absurd (false≢true is)
stored_sure may_leave hash size (Some seal) is sure = subst (IsFileSure may_leave hash) (eqb-true seal.size size is) sure

-- so a change brings the files of its version
pub brings_of : (may_leave : List ℕ → File → Type 0) (counts : Counts) (s : State) (change : StateChange) → AreStored (sealed_of counts) change s → AreSealsSure may_leave (sealed_of counts) → BringsFiles may_leave s change
brings_of may_leave counts s (Begun job id version manifest) stored sure = tt
brings_of may_leave counts s (Finished job) stored sure = by (held_by_job job s.jobs) stored
  where
    by : (o : Option Held) → AllByRecursion (λ (e : Entry). is_stored (sealed_of counts) e ≡ true) (manifest_or_none o) → IfSome o (AreFilesSure may_leave)
    by None all = tt
    by (Some held) all = all_through (λ (e : Entry). is_stored (sealed_of counts) e ≡ true) (λ (e : Entry). IsFileSure may_leave e.hash.0 e.size) (λ e is. stored_sure may_leave e.hash.0 e.size (sealed_of counts e.hash) is (sure e.hash)) held.manifest all
brings_of may_leave counts s (Dropped job) stored sure = tt
brings_of may_leave counts s (Removed id version) stored sure = tt

-- a file that is sure is named by bytes
named_bytes : (hash : List ℕ) (size : ℕ) (file : File) → is_file_of hash size file ≡ true → IsBytes hash
named_bytes hash size None is = absurd (false≢true is)
named_bytes hash size (Some bytes) is =
    let parts = and_parts _ _ is in
    subst IsBytes ((bytes_eq-Decides (sha256 bytes) hash).0 parts.1) (sha256_bytes bytes)

pub sure_bytes : (may_leave : List ℕ → File → Type 0) (files : Files) (hash : List ℕ) (size : ℕ) → IsImage may_leave files → IsFileSure may_leave hash size → IsBytes hash
sure_bytes may_leave files hash size image sure = named_bytes hash size (files (file_place hash)) (sure (files (file_place hash)) (image (file_place hash)))

-- the entries of versions, one after another
entries_sure : (may_leave : List ℕ → File → Type 0) (vs : List Held) → AllByRecursion (AreFilesSure may_leave) vs → AllByRecursion (λ (e : Entry). IsFileSure may_leave e.hash.0 e.size) (flat_map (λ (held : Held). held.manifest) vs)
entries_sure may_leave [] all = tt
entries_sure may_leave (v ∷ vs) all = All-append (λ (e : Entry). IsFileSure may_leave e.hash.0 e.size) v.manifest (flat_map (λ (held : Held). held.manifest) vs) all.0 (entries_sure may_leave vs all.1)

module _ {D : Type 0} (reads : D → Option Files) (may_leave : D → List ℕ → File → Type 0) (start : D) where
  -- the places of files were left alone
  pub sure_apart : (old new : D) (s : State) (counts : Counts) → (reads old ≡ None → reads new ≡ None)
      → ((x : Files) → reads old ≡ Some x → (hash : List ℕ) (left : File) → may_leave new (file_place hash) left → may_leave old (file_place hash) left)
      → AreSure reads may_leave start old s counts → AreSure reads may_leave start new s counts
  sure_apart old new s counts silent still sure = record {
    since = λ x told hash. let b = told_before (reads old) (reads new) silent x told in if_since (may_leave old) (may_leave new) hash.0 (still b.0 b.1 hash.0) (sealed_of counts hash) (sure.since b.0 b.1 hash);
    seals = λ whole x told hash. let b = told_before (reads old) (reads new) silent x told in if_sure (may_leave old) (may_leave new) hash.0 (still b.0 b.1 hash.0) (sealed_of counts hash) (sure.seals whole b.0 b.1 hash);
    versions = λ whole x told. let b = told_before (reads old) (reads new) silent x told in versions_kept (may_leave old) (may_leave new) (still b.0 b.1) s (sure.versions whole b.0 b.1);
  }

  -- the seals are the same
  pub sure_same : (disk : D) (s : State) (counts counts' : Counts) → ((hash : Hash) → sealed_of counts' hash ≡ sealed_of counts hash) → AreSure reads may_leave start disk s counts → AreSure reads may_leave start disk s counts'
  sure_same disk s counts counts' same sure = record {
    since = λ x told hash. subst (λ (o : Option Seal). IfSome o (λ seal. seal.since ≡ true → IsFileSure (may_leave disk) hash.0 seal.size)) (sym (same hash)) (sure.since x told hash);
    seals = λ whole x told hash. subst (λ (o : Option Seal). IfSome o (λ seal. IsFileSure (may_leave disk) hash.0 seal.size)) (sym (same hash)) (sure.seals whole x told hash);
    versions = sure.versions;
  }

  -- a change was made in memory
  pub sure_then : (disk : D) (s t : State) (counts counts' : Counts) (change : StateChange) → AreStored (sealed_of counts) change s → t ≡ changed change s → KeepsNeeded t (sealed_of counts) (sealed_of counts') → AreSure reads may_leave start disk s counts → AreSure reads may_leave start disk t counts'
  sure_then disk s t counts counts' change stored is seals sure = record {
    since = λ x told hash. subst (λ (o : Option Seal). IfSome o (λ seal. seal.since ≡ true → IsFileSure (may_leave disk) hash.0 seal.size)) (sym (seals hash)) (if_kept _ (is_needed hash.0 t) (sealed_of counts hash) (sure.since x told hash));
    seals = λ whole x told hash. subst (λ (o : Option Seal). IfSome o (λ seal. IsFileSure (may_leave disk) hash.0 seal.size)) (sym (seals hash)) (if_kept _ (is_needed hash.0 t) (sealed_of counts hash) (sure.seals whole x told hash));
    versions = λ whole x told. subst (AreVersionsSure (may_leave disk)) (sym is) (versions_then_sure (may_leave disk) s change (brings_of (may_leave disk) counts s change stored (sure.seals whole x told)) (sure.versions whole x told));
  }

  module _ (old new : D) (s : State) (counts : Counts) (hash : Hash) (bytes : IsBytes hash.0) (unsealed : sealed_of counts hash ≡ None) (silent : reads old ≡ None → reads new ≡ None)
      (others : (q : List ℕ) (left : File) → q ≢ file_place hash.0 → may_leave new q left → may_leave old q left) (image : (x : Files) → reads old ≡ Some x → IsImage (may_leave old) x) where
    -- another hash has another place
    other_place : (x : Files) → reads old ≡ Some x → (other : Hash) (size : ℕ) → sealed_of counts other ≢ None → IsFileSure (may_leave old) other.0 size → file_place other.0 ≢ file_place hash.0
    other_place x told other size sealed sure same =
        let e : other.0 ≡ hash.0 = file_names other.0 hash.0 (sure_bytes (may_leave old) x other.0 size (image x told) sure) bytes same in
        sealed (ap (λ (h : List ℕ). sealed_of counts (record { 0 = h })) e ∙ unsealed)

    -- the file of a hash was written that is not sealed
    pub sure_filed : AllByRecursion (IsSealedAll counts) s.versions → AreSure reads may_leave start old s counts → AreSure reads may_leave start new s counts
    sure_filed sealed sure = record {
      since = λ x told other. let b = told_before (reads old) (reads new) silent x told in at_since b.0 b.1 other (sealed_of counts other) refl (sure.since b.0 b.1 other);
      seals = λ whole x told other. let b = told_before (reads old) (reads new) silent x told in at_seal b.0 b.1 other (sealed_of counts other) refl (sure.seals whole b.0 b.1 other);
      versions = λ whole x told.
          let b = told_before (reads old) (reads new) silent x told in
          each_member (AreFilesSure (may_leave new)) s.versions (λ held among. each_member (λ (e : Entry). IsFileSure (may_leave new) e.hash.0 e.size) held.manifest
          (λ e of left l.
          let here = at_member (λ (e : Entry). IsFileSure (may_leave old) e.hash.0 e.size) held.manifest (at_member (AreFilesSure (may_leave old)) s.versions (sure.versions whole b.0 b.1) held among) e of in
          let there = at_member (λ (e : Entry). sealed_of counts e.hash ≢ None) held.manifest (at_member (IsSealedAll counts) s.versions sealed held among) e of in
          here left (others (file_place e.hash.0) left (other_place b.0 b.1 e.hash e.size there here) l)));
    }
      where
        at_since : (x : Files) → reads old ≡ Some x → (other : Hash) (o : Option Seal) → sealed_of counts other ≡ o → IfSome o (λ seal. seal.since ≡ true → IsFileSure (may_leave old) other.0 seal.size) → IfSome o (λ seal. seal.since ≡ true → IsFileSure (may_leave new) other.0 seal.size)
        at_since x told other None is sure = tt
        at_since x told other (Some seal) is sure = λ since left l. sure since left (others (file_place other.0) left (other_place x told other seal.size (λ none. none-some seal (sym none ∙ is)) (sure since)) l)

        at_seal : (x : Files) → reads old ≡ Some x → (other : Hash) (o : Option Seal) → sealed_of counts other ≡ o → IfSome o (λ seal. IsFileSure (may_leave old) other.0 seal.size) → IfSome o (λ seal. IsFileSure (may_leave new) other.0 seal.size)
        at_seal x told other None is sure = tt
        at_seal x told other (Some seal) is sure = λ left l. sure left (others (file_place other.0) left (other_place x told other seal.size (λ none. none-some seal (sym none ∙ is)) sure) l)

  -- its hash is sealed
  pub sure_sealed : (disk : D) (s : State) (counts counts' : Counts) (hash : Hash) (seal : Seal) → ForSome (reads disk) (λ _. IsFileSure (may_leave disk) hash.0 seal.size)
      → ((other : Hash) → sealed_of counts' other ≡ cond (bytes_eq hash.0 other.0) (Some seal) (sealed_of counts other)) → AreSure reads may_leave start disk s counts → AreSure reads may_leave start disk s counts'
  sure_sealed disk s counts counts' hash seal here seals sure = record {
    since = λ x told other. subst (λ (o : Option Seal). IfSome o (λ seal. seal.since ≡ true → IsFileSure (may_leave disk) other.0 seal.size)) (sym (seals other)) (at_since x told other (bytes_eq hash.0 other.0) refl (sure.since x told other));
    seals = λ whole x told other. subst (λ (o : Option Seal). IfSome o (λ seal. IsFileSure (may_leave disk) other.0 seal.size)) (sym (seals other)) (at_seal x told other (bytes_eq hash.0 other.0) refl (sure.seals whole x told other));
    versions = sure.versions;
  }
    where
      at_since : (x : Files) → reads disk ≡ Some x → (other : Hash) (b : Bool) → bytes_eq hash.0 other.0 ≡ b → IfSome (sealed_of counts other) (λ seal. seal.since ≡ true → IsFileSure (may_leave disk) other.0 seal.size)
          → IfSome (cond b (Some seal) (sealed_of counts other)) (λ seal. seal.since ≡ true → IsFileSure (may_leave disk) other.0 seal.size)
      at_since x told other true is sure = λ since. subst (λ (h : List ℕ). IsFileSure (may_leave disk) h seal.size) ((bytes_eq-Decides hash.0 other.0).0 is) (here x told)
      at_since x told other false is sure = sure

      at_seal : (x : Files) → reads disk ≡ Some x → (other : Hash) (b : Bool) → bytes_eq hash.0 other.0 ≡ b → IfSome (sealed_of counts other) (λ seal. IsFileSure (may_leave disk) other.0 seal.size)
          → IfSome (cond b (Some seal) (sealed_of counts other)) (λ seal. IsFileSure (may_leave disk) other.0 seal.size)
      at_seal x told other true is sure = subst (λ (h : List ℕ). IsFileSure (may_leave disk) h seal.size) ((bytes_eq-Decides hash.0 other.0).0 is) (here x told)
      at_seal x told other false is sure = sure

  -- as an opening leaves it
  pub sure_opened : (disk : D) (s : State) (counts : Counts) → ((hash : Hash) → sealed_of counts hash ≡ found_seal None hash (version_entries s)) → (EachOpensSome (may_leave start) → ForSome (reads disk) (λ x. AreVersionsSure (may_leave disk) s))
      → AreSure reads may_leave start disk s counts
  sure_opened disk s counts seals versions = record {
    since = λ x told hash. subst (λ (o : Option Seal). IfSome o (λ seal. seal.since ≡ true → IsFileSure (may_leave disk) hash.0 seal.size)) (sym (seals hash)) (never hash (find (λ (e : Entry). bytes_eq e.hash.0 hash.0) (version_entries s)));
    seals = λ whole x told hash. subst (λ (o : Option Seal). IfSome o (λ seal. IsFileSure (may_leave disk) hash.0 seal.size)) (sym (seals hash))
        (found hash (entries_sure (may_leave disk) s.versions (versions whole x told)) (find (λ (e : Entry). bytes_eq e.hash.0 hash.0) (version_entries s)) refl);
    versions = versions;
  }
    where
      never : (hash : Hash) (o : Option Entry) → IfSome (option_map (λ (e : Entry). let seal : Seal = record { size = e.size; since = false } in seal) o) (λ seal. seal.since ≡ true → IsFileSure (may_leave disk) hash.0 seal.size)
      never hash None = tt
      never hash (Some e) = λ since. absurd (false≢true since)

      found : (hash : Hash) → AllByRecursion (λ (e : Entry). IsFileSure (may_leave disk) e.hash.0 e.size) (version_entries s) → (o : Option Entry) → find (λ (e : Entry). bytes_eq e.hash.0 hash.0) (version_entries s) ≡ o
          → IfSome (option_map (λ (e : Entry). let seal : Seal = record { size = e.size; since = false } in seal) o) (λ seal. IsFileSure (may_leave disk) hash.0 seal.size)
      found hash all None is = tt
      found hash all (Some e) is =
          subst (λ (h : List ℕ). IsFileSure (may_leave disk) h e.size) ((bytes_eq-Decides e.hash.0 hash.0).0 (found_passes (λ (x : Entry). bytes_eq x.hash.0 hash.0) (version_entries s) e is))
          (found_one (λ (x : Entry). IsFileSure (may_leave disk) x.hash.0 x.size) (λ (x : Entry). bytes_eq x.hash.0 hash.0) (version_entries s) all e is)

-- a hash that had no seal has none
pub needed_none : (s : State) (old new : Hash → Option Seal) → KeepsNeeded s old new → (hash : Hash) → old hash ≡ None → new hash ≡ None
needed_none s old new needed hash is = needed hash ∙ ap (λ (o : Option Seal). if_needed (is_needed hash.0 s) o) is ∙ by (is_needed hash.0 s)
  where
    by : (b : Bool) → if_needed b None ≡ None
    by true = refl
    by false = refl

-- seals that stay are those that are needed
pub kept_needed : (counts counts' : Counts) (s : State) (more : List Entry) → IsCounted counts s more → KeepsSeals (sealed_of counts) (sealed_of counts') → KeepsNeeded s (sealed_of counts) (sealed_of counts')
kept_needed counts counts' s more counted same hash = same hash ∙ by (is_needed hash.0 s) refl (sealed_of counts hash) refl
  where
    by : (b : Bool) → is_needed hash.0 s ≡ b → (o : Option Seal) → sealed_of counts hash ≡ o → o ≡ if_needed b o
    by true is o seal = refl
    by false is None seal = refl
    by false is (Some seal) some = absurd (false≢true (sym is ∙ counted.sealed_needed hash (λ none. none-some seal (sym none ∙ some))))

-- what a crash leaves of a library opens, with all files of its versions
module _ {D : Type 0} (reads : D → Option Files) (may_leave : D → List ℕ → File → Type 0) (start disk : D) (log : Log) (m : InMemory) (counts : Counts) where
  pub kept_opens : (pending : Option Change) → IsKept reads may_leave start disk log m counts pending → EachOpensSome (may_leave start)
      → ForSome (reads disk) (λ x. (image : Files) → IsImage (may_leave disk) image → OpensOr m.state (pending_in m.taken pending) image)
  kept_opens None kept whole x told image left =
      inl (each_opens x (may_leave disk) log m.state kept.standing.shelf (kept.standing.stands x told) (kept.standing.manifests x told) (kept.sure.versions whole x told) image left)
  kept_opens (Some change) kept whole x told image left =
      unsettled_opens x (may_leave disk) log m.state (change_in m.taken change) kept.standing.shelf (kept.standing.stands x told) kept.standing.idle_or.may (kept.standing.manifests x told) (kept.sure.versions whole x told)
      (brings_of (may_leave disk) counts m.state (change_in m.taken change) kept.stored (kept.sure.seals whole x told)) image left

-- the file of a hash was written that is not sealed
module _ {D : Type 0} (reads : D → Option Files) (may_leave : D → List ℕ → File → Type 0) (start old new : D) (log : Log) (m : InMemory) (counts : Counts) (kept : IsKept reads may_leave start old log m counts None)
    (silent : reads old ≡ None → reads new ≡ None) (old_image : (x : Files) → reads old ≡ Some x → IsImage (may_leave old) x) (image : (x : Files) → reads new ≡ Some x → IsImage (may_leave new) x)
    (hash : Hash) (bytes : IsBytes hash.0) (unsealed : sealed_of counts hash ≡ None) (others : (q : List ℕ) (left : File) → q ≢ file_place hash.0 → may_leave new q left → may_leave old q left) where
  pub file_kept : IsKept reads may_leave start new log m counts None
  file_kept = record {
    standing = kept_filed reads may_leave old new log m kept.standing silent image hash.0 others;
    counted = kept.counted;
    stored = tt;
    sure = sure_filed reads may_leave start old new m.state counts hash bytes unsealed silent others old_image kept.counted.versions_sealed kept.sure;
  }

  -- and then it is
  pub file_sealed : (counts' : Counts) (seal : Seal) → ForSome (reads new) (λ _. IsFileSure (may_leave new) hash.0 seal.size) → IsCounted counts' m.state []
      → ((other : Hash) → sealed_of counts' other ≡ cond (bytes_eq hash.0 other.0) (Some seal) (sealed_of counts other)) → IsKept reads may_leave start new log m counts' None
  file_sealed counts' seal here counted seals = record {
    standing = file_kept.standing;
    counted = counted;
    stored = tt;
    sure = sure_sealed reads may_leave start new m.state counts counts' hash seal here seals file_kept.sure;
  }
