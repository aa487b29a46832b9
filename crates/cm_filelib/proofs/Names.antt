-- The places of files, by their names.
use Rattle.std.proofs.Common.{◌≡◌, ℕ, Bool, true, false, List, [], ◌∷◌, ◌++◌, length, take, drop, refl, sym, ◌∙◌, ap, subst, arith}
use Rattle.std.specs.Prelude.{Option, None, Some, is_some, option_map, cond, IfSome}
use Rattle.std.specs.Str.{bytes_eq}
use Rattle.std.proofs.lemmas.Bool.{false≢true}
use Rattle.std.proofs.lemmas.List.{take-append-drop}
use Rattle.std.proofs.lemmas.Option.{none-some}
use Rattle.std.proofs.lemmas.Slice.Eq.{bytes_eq-Decides}
use Rattle.hex.specs.Hex.{IsBytes, encode_lower}
use Rattle.cm_base.specs.declared.hash.Hash.{Hash}
use Rattle.cm_base.specs.Hashes.{hash_of_text}
use Rattle.cm_disk.specs.Disk.{is_above}
use Rattle.cm_disk.proofs.Rises.{above_above}
use Rattle.cm_filelib.specs.Places.{folder, folder_end, file_place, hash_named, is_file_place}
use Rattle.cm_filelib.proofs.Digits.{text_of_hash, text_long, hash_again}

pub is_there : {A : Type 0} (o : Option A) → is_some o ≡ true → (a : A) × (o ≡ Some a)
is_there None is = absurd (false≢true is)
is_there (Some a) is = (a, refl)

named_parts : (place hash : List ℕ) → hash_named place ≡ Some hash → (take 8 place ≡ folder) × (hash_of_text (drop 8 place) ≡ Some hash)
named_parts place hash is = by (bytes_eq (take 8 place) folder) refl
  where
    by : (b : Bool) → bytes_eq (take 8 place) folder ≡ b → (take 8 place ≡ folder) × (hash_of_text (drop 8 place) ≡ Some hash)
    by false other = absurd (none-some hash (sym (ap (λ (b : Bool). cond b (hash_of_text (drop 8 place)) None) other) ∙ is))
    by true same = ((bytes_eq-Decides (take 8 place) folder).0 same, sym (ap (λ (b : Bool). cond b (hash_of_text (drop 8 place)) None) same) ∙ is)

pub named_place : (place hash : List ℕ) → hash_named place ≡ Some hash → place ≡ file_place hash
named_place place hash is =
    let parts = named_parts place hash is in
    sym (take-append-drop 8 place) ∙ ap (λ (l : List ℕ). l ++ drop 8 place) parts.0 ∙ ap (λ (l : List ℕ). folder ++ l) (text_of_hash (drop 8 place) hash parts.1)

pub place_named : (hash : List ℕ) → IsBytes hash → length hash ≡ 32 → hash_named (file_place hash) ≡ Some hash
place_named hash bytes long = hash_again hash bytes long

above_folder : (text : List ℕ) → length text ≡ 64 → is_above (Some folder) (folder ++ text) ≡ true
above_folder [] long = absurd (omega arith)
above_folder (b ∷ text) long = refl

-- the place of a file is above the folder, and not above its end
pub is_within : (q : List ℕ) → is_file_place q ≡ true → is_above (Some folder) q ≡ true
is_within q form =
    let h = is_there (hash_named q) form in
    let parts = named_parts q h.0 h.1 in
    let text = text_of_hash (drop 8 q) h.0 parts.1 in
    let long : length (encode_lower h.0) ≡ 64 = ap length (sym text) ∙ text_long (drop 8 q) h.0 parts.1 in
    subst (λ (p : List ℕ). is_above (Some folder) p ≡ true) (sym (named_place q h.0 h.1)) (above_folder (encode_lower h.0) long)

not_past : (q : List ℕ) → is_file_place q ≡ true → is_above (Some folder_end) q ≡ true → ⊥
not_past q form past =
    let h = is_there (hash_named q) form in
    false≢true (ap (λ (p : List ℕ). is_above (Some folder_end) p) (sym (named_place q h.0 h.1)) ∙ past)

pub past_file : (place q : List ℕ) → is_above (Some folder_end) place ≡ true → is_above (Some place) q ≡ true → is_file_place q ≡ false
past_file place q past above = by (is_file_place q) refl
  where
    by : (b : Bool) → is_file_place q ≡ b → b ≡ false
    by true form = absurd (not_past q form (above_above folder_end place q past above))
    by false form = refl

-- what is read of a place
pub named_form : (read : Option Hash) (place : List ℕ) → option_map (λ (hash : Hash). hash.0) read ≡ hash_named place → is_some read ≡ is_file_place place
named_form None place is = ap (λ (o : Option (List ℕ)). is_some o) is
named_form (Some hash) place is = ap (λ (o : Option (List ℕ)). is_some o) is

pub named_back : (read : Option Hash) (place : List ℕ) → option_map (λ (hash : Hash). hash.0) read ≡ hash_named place → IfSome read (λ (hash : Hash). file_place hash.0 ≡ place)
named_back None place is = tt
named_back (Some hash) place is = sym (named_place place hash.0 (sym is))
