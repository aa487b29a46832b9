-- The places of the two folders, and what stands there.
use Rattle.std.proofs.Common.{◌≡◌, ℕ, ◌<◌, ◌≤◌, Bool, true, false, List, ◌++◌, length, take, drop, refl, sym, ◌∙◌, ap, subst, arith, length-take}
use Rattle.std.specs.Prelude.{◌≢◌, ◌||◌, codes, Option, None, Some, is_some, option_map, Result}
use Rattle.std.specs.Str.{bytes_eq}
use Rattle.std.proofs.lemmas.Bool.{false≢true}
use Rattle.std.proofs.lemmas.List.{take-append-drop}
use Rattle.std.proofs.lemmas.Slice.Eq.{bytes_eq-Decides}
use Rattle.cm_base.specs.declared.hash.Hash.{Hash}
use Rattle.cm_disk.specs.Disk.{File, Files, Does, LeavesOnly, is_above, removed}
use Rattle.cm_disk.proofs.Rises.{above_above}
use Rattle.cm_log.specs.Frames.{LeavesAlone}
use Rattle.cm_log.proofs.Keeping.{keeps_others}
use Rattle.cm_datalib.specs.Places.{folder as manifest_folder, manifest_place, version_named}
use Rattle.cm_datalib.proofs.Names.{named_place as manifest_named}
use Rattle.cm_filelib.specs.Places.{folder as file_folder, folder_end, file_place, hash_named, is_file_place}
use Rattle.cm_filelib.proofs.Names.{named_place as file_named}
use Rattle.cm_state.specs.Purged.{is_stored_place}
use Rattle.cm_state.proofs.Purges.{other_bytes}
use Rattle.cm_library.specs.Purging.{in_folders, IsOther}

front : (q folder : List ℕ) → bytes_eq (take 8 q) folder ≡ true → q ≡ folder ++ drop 8 q
front q folder is = sym (take-append-drop 8 q) ∙ ap (λ (l : List ℕ). l ++ drop 8 q) ((bytes_eq-Decides (take 8 q) folder).0 is)

-- what holds in each folder
in_each : (P : List ℕ → Type 0) → ((rest : List ℕ) → P (manifest_folder ++ rest)) → ((rest : List ℕ) → P (file_folder ++ rest)) → (q : List ℕ) → in_folders q ≡ true → P q
in_each P one two q is = by (bytes_eq (take 8 q) manifest_folder) refl
  where
    by : (b : Bool) → bytes_eq (take 8 q) manifest_folder ≡ b → P q
    by true first = subst P (sym (front q manifest_folder first)) (one (drop 8 q))
    by false other =
        subst P (sym (front q file_folder (sym (ap (λ (b : Bool). b || bytes_eq (take 8 q) file_folder) other) ∙ is))) (two (drop 8 q))

pub above_start : (q : List ℕ) → in_folders q ≡ true → is_above (Some (codes "DataLib")) q ≡ true
above_start = in_each (λ q. is_above (Some (codes "DataLib")) q ≡ true) (λ rest. refl) (λ rest. refl)

not_behind : (q : List ℕ) → in_folders q ≡ true → is_above (Some folder_end) q ≡ false
not_behind = in_each (λ q. is_above (Some folder_end) q ≡ false) (λ rest. refl) (λ rest. refl)

pub past_both : (place q : List ℕ) → is_above (Some folder_end) place ≡ true → is_above (Some place) q ≡ true → in_folders q ≡ false
past_both place q past above = by (in_folders q) refl
  where
    by : (b : Bool) → in_folders q ≡ b → b ≡ false
    by true is = absurd (false≢true (sym (not_behind q is) ∙ above_above folder_end place q past above))
    by false is = refl

-- a place that is too short is in neither
short_other : (q folder : List ℕ) → length folder ≡ 8 → length q < 8 → bytes_eq (take 8 q) folder ≡ false
short_other q folder long short = other_bytes (take 8 q) folder (λ same. absurd (omega (arith, length-take 8 q, ap length same, long, short)))

pub too_short : (q : List ℕ) → length q < 8 → false ≡ in_folders q
too_short q short = sym (ap (λ (b : Bool). b || bytes_eq (take 8 q) file_folder) (short_other q manifest_folder refl short) ∙ short_other q file_folder refl short)

-- what is read of a place
pub manifest_form : (place : List ℕ) (named : List ℕ × ℕ) → Some named ≡ version_named place → true ≡ is_stored_place place
manifest_form place named is = ap (λ (o : Option (List ℕ × ℕ)). is_some o || is_file_place place) is

pub manifest_place_is : (place : List ℕ) (named : List ℕ × ℕ) → Some named ≡ version_named place → manifest_place named.0 named.1 ≡ place
manifest_place_is place named is = sym (manifest_named place named (sym is)).1

pub file_form : (place : List ℕ) (read : Option Hash) → None ≡ version_named place → option_map (λ (hash : Hash). hash.0) read ≡ hash_named place → is_some read ≡ is_stored_place place
file_form place read none is = at read is ∙ ap (λ (o : Option (List ℕ × ℕ)). is_some o || is_file_place place) none
  where
    at : (read : Option Hash) → option_map (λ (hash : Hash). hash.0) read ≡ hash_named place → is_some read ≡ is_file_place place
    at None is = ap (λ (o : Option (List ℕ)). is_some o) is
    at (Some hash) is = ap (λ (o : Option (List ℕ)). is_some o) is

pub file_place_is : (place : List ℕ) (hash : Hash) → Some hash.0 ≡ hash_named place → file_place hash.0 ≡ place
file_place_is place hash is = sym (file_named place hash.0 (sym is))

-- one place was worked on
pub alone_erased : {D : Type 0} (reads : D → Option Files) (may_leave : D → List ℕ → File → Type 0) (moment : D → ℕ) (left_since : D → ℕ → Files → Type 0) (faults : D → ℕ) (old new : D) {T E : Type 0} (place : List ℕ) (result : Result T E)
    → Does (reads old) (reads new) place removed result → ((q : List ℕ) (file : File) → q ≢ place → may_leave new q file → may_leave old q file)
    → LeavesOnly moment left_since old new (λ (left : Files). (q : List ℕ) → q ≢ place → may_leave old q (left q)) → faults old ≤ faults new → LeavesAlone (IsOther place) reads may_leave moment left_since faults old new
alone_erased reads may_leave moment left_since faults old new place result does others run later = record {
  silent = does.silent;
  kept = keeps_others (reads old) (reads new) place removed result does;
  others = others;
  run = run;
  later = later;
}
