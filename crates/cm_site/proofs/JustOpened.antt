-- A library that was found on a disk was just opened.
use Rattle.std.proofs.Common.{◌≡◌, ℕ, ◌≤◌, Bool, true, false, List, [], ◌∷◌, refl, sym, ◌∙◌, ap, subst}
use Rattle.std.specs.Prelude.{◌||◌, cond, Option, None, Some, option_map, is_some}
use Rattle.std.specs.List.{list_any, find, flat_map}
use Rattle.std.specs.Str.{bytes_eq}
use Rattle.std.proofs.lemmas.List.Folds.{list_any-append}
use Rattle.cm_base.specs.declared.hash.Hash.{Hash}
use Rattle.cm_contents.specs.Seals.{found_seal, version_entries}
use Rattle.cm_disk.specs.Disk.{File, Files, IsImage, LeavesOnly}
use Rattle.cm_library.specs.Kept.{Seen}
use Rattle.cm_library.specs.Opening.{HasFound}
use Rattle.cm_pkglib.specs.declared.counts.Seal.{Seal}
use Rattle.cm_state.specs.Needed.{has_hash, is_named}
use Rattle.cm_state.specs.State.{Held, State}
use Rattle.cm_tree.specs.declared.entry.Entry.{Entry}
use Rattle.cm_state.specs.Opens.{EachOpens, EachOpensSome}
use Rattle.std.specs.Option.{ForSome}
use Rattle.cm_records.specs.Opening.{HasFound as HasFoundRecords}
use Rattle.cm_records.specs.Seen.{Seen as SeenRecords}
use Rattle.cm_register.specs.Opens.{EachOpens as EachOpensRecords}
use Rattle.cm_site.specs.Opened.{IsOpened, AreOpened}

abbrev is_of : Hash → Entry → Bool
is_of hash entry = bytes_eq entry.hash.0 hash.0

module _ (hash : Hash) where
  -- an entry with the hash is found where there is one
  found_among : (entries : List Entry) → is_some (found_seal None hash entries) ≡ list_any (is_of hash) entries
  found_among [] = refl
  found_among (entry ∷ rest) = by (is_of hash entry) (found_among rest)
    where
      by : (b : Bool) → is_some (found_seal None hash rest) ≡ list_any (is_of hash) rest
          → is_some (option_map (λ (e : Entry). let seal : Seal = record { size = e.size; since = false } in seal) (cond b (Some entry) (find (is_of hash) rest))) ≡ (b || list_any (is_of hash) rest)
      by true here = refl
      by false here = here

  -- the versions have one where one of them has
  among_versions : (versions : List Held) → list_any (is_of hash) (flat_map (λ (held : Held). held.manifest) versions) ≡ list_any (λ (held : Held). has_hash hash.0 held.manifest) versions
  among_versions [] = refl
  among_versions (held ∷ rest) =
      list_any-append (is_of hash) held.manifest (flat_map (λ (held : Held). held.manifest) rest) ∙ ap (λ (b : Bool). has_hash hash.0 held.manifest || b) (among_versions rest)

-- the hashes of the versions are sealed, and no others
sealed_named : (hash : Hash) (state : State) (seal : Option Seal) → seal ≡ found_seal None hash (version_entries state) → is_some seal ≡ is_named hash.0 state
sealed_named hash state seal is = ap (λ (s : Option Seal). is_some s) is ∙ (found_among hash (version_entries state) ∙ among_versions hash state.versions)

module _ {D : Type 0} (reads : D → Option Files) (may_leave : D → List ℕ → File → Type 0) (moment : D → ℕ) (left_since : D → ℕ → Files → Type 0) (faults : D → ℕ) (start : D) where
  pub just_opened : (library : Seen D) → HasFound (reads start) (reads library.disk) (may_leave library.disk) start library → LeavesOnly moment left_since start library.disk (IsImage (may_leave start)) → faults start ≤ faults library.disk
      → (EachOpensSome (may_leave start) → ForSome (reads start) (λ _. EachOpens (may_leave library.disk) library.state)) → IsOpened reads may_leave moment left_since faults library
  just_opened library found run later whole =
      let back : start ≡ library.start = sym found.start_is in
      record {
        settled = found.settled;
        free = found.started;
        same = found.same ∙ ap reads back;
        stands = λ files told. found.stands files (ap reads back ∙ told);
        gate = λ files told. found.gate files (ap reads back ∙ told);
        sealed = λ hash. sealed_named hash library.state _ (found.seals hash);
        moments = subst (λ (d : D). LeavesOnly moment left_since d library.disk (IsImage (may_leave d))) back run;
        whole = subst (λ (d : D). EachOpensSome (may_leave d) → ForSome (reads d) (λ _. EachOpens (may_leave library.disk) library.state)) back whole;
        later = subst (λ (d : D). faults d ≤ faults library.disk) back later;
      }

  -- the same of records
  pub records_opened : (records : SeenRecords D) → HasFoundRecords (reads start) (reads records.disk) start records → LeavesOnly moment left_since start records.disk (IsImage (may_leave start)) → faults start ≤ faults records.disk
      → ForSome (reads start) (λ _. EachOpensRecords (may_leave records.disk) records.kept) → AreOpened reads may_leave moment left_since faults records
  records_opened records found run later whole =
      let back : start ≡ records.start = sym found.start_is in
      record {
        settled = found.settled;
        same = found.same ∙ ap reads back;
        stands = λ files told. found.files files (ap reads back ∙ told);
        moments = subst (λ (d : D). LeavesOnly moment left_since d records.disk (IsImage (may_leave d))) back run;
        whole = subst (λ (d : D). ForSome (reads d) (λ _. EachOpensRecords (may_leave records.disk) records.kept)) back whole;
        later = subst (λ (d : D). faults d ≤ faults records.disk) back later;
      }
