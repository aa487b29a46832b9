-- The places of manifests, by their names.
use Rattle.std.proofs.Common.{◌≡◌, ℕ, ◌+◌, ◌-◌, ◌<◌, ◌≤◌, ◌^◌, Bool, true, false, List, [], ◌∷◌, ◌++◌, length, take, drop, refl, sym, ◌∙◌, ap, subst, arith, length-append, length-drop}
use Rattle.std.specs.Prelude.{◌&&◌, ◌==◌, nat_le, nat_lt, Option, None, Some, is_some, cond, IfSome}
use Rattle.std.specs.List.{list_all}
use Rattle.std.specs.Str.{bytes_eq}
use Rattle.std.specs.Str.Parse.{digits_value}
use Rattle.std.specs.Fmt.{decimal}
use Rattle.std.proofs.lemmas.Bool.{false≢true, eqb-true, leb-true, leb-false, ltb-true, ltb-false}
use Rattle.std.proofs.lemmas.Fmt.{decimal_is_IsNumeral, decimal_nonempty}
use Rattle.std.proofs.lemmas.List.{take_all}
use Rattle.std.proofs.lemmas.Option.{none-some, same_Some}
use Rattle.std.proofs.lemmas.Slice.Eq.{bytes_eq-Decides}
use Rattle.cm_base.specs.Names.{is_package_id, is_code_byte, is_upper_hex, text_if}
use Rattle.cm_disk.specs.Disk.{is_above}
use Rattle.cm_disk.proofs.Rises.{above_above}
use Rattle.cm_datalib.specs.Places.{folder, folder_end, manifest_place, is_version, named_if, version_named, is_manifest_place}

pub both : (a b : Bool) → (a && b) ≡ true → (a ≡ true) × (b ≡ true)
both true true is = (refl, refl)
both true false is = absurd (false≢true is)
both false b is = absurd (false≢true is)

pub is_there : {A : Type 0} (o : Option A) → is_some o ≡ true → (a : A) × (o ≡ Some a)
is_there None is = absurd (false≢true is)
is_there (Some a) is = (a, refl)

-- what a version is
pub record Version (id : List ℕ) (version : ℕ) : Type 0 where
  pub id_is : is_package_id id ≡ true
  pub long : length id ≡ 8
  pub some : 1 ≤ version
  pub small : version < 2 ^ 32

pub version_is : (id : List ℕ) (version : ℕ) → is_version id version ≡ true → Version id version
version_is id version is =
    let first = both (is_package_id id && nat_le 1 version) (nat_lt version (2 ^ 32)) is in
    let second = both (is_package_id id) (nat_le 1 version) first.0 in
    record {
      id_is = second.0;
      long = eqb-true (length id) 8 (both (length id == 8) (list_all is_code_byte (take 3 id)) (both (length id == 8 && list_all is_code_byte (take 3 id)) (list_all is_upper_hex (drop 3 id)) second.0).0).0;
      some = leb-true 1 version second.1;
      small = ltb-true version (2 ^ 32) first.1;
    }

-- the parts of a manifest's place
pub record Parts (id : List ℕ) (version : ℕ) : Type 0 where
  pub id_in : take 8 (drop 8 (manifest_place id version)) ≡ id
  pub number_in : drop 17 (manifest_place id version) ≡ decimal version

pub parts_of : (id : List ℕ) (version : ℕ) → length id ≡ 8 → Parts id version
parts_of [] version long = absurd (omega arith)
parts_of (a ∷ []) version long = absurd (omega arith)
parts_of (a ∷ b ∷ []) version long = absurd (omega arith)
parts_of (a ∷ b ∷ c ∷ []) version long = absurd (omega arith)
parts_of (a ∷ b ∷ c ∷ d ∷ []) version long = absurd (omega arith)
parts_of (a ∷ b ∷ c ∷ d ∷ e ∷ []) version long = absurd (omega arith)
parts_of (a ∷ b ∷ c ∷ d ∷ e ∷ f ∷ []) version long = absurd (omega arith)
parts_of (a ∷ b ∷ c ∷ d ∷ e ∷ f ∷ g ∷ []) version long = absurd (omega arith)
parts_of (a ∷ b ∷ c ∷ d ∷ e ∷ f ∷ g ∷ h ∷ []) version long = record { id_in = refl; number_in = refl }
parts_of (a ∷ b ∷ c ∷ d ∷ e ∷ f ∷ g ∷ h ∷ i ∷ rest) version long = absurd (omega arith)

if_named : (id : List ℕ) (version : ℕ) (place : List ℕ) (named : List ℕ × ℕ) → named_if id version place ≡ Some named → (is_version named.0 named.1 ≡ true) × (place ≡ manifest_place named.0 named.1)
if_named id version place named is = by (is_version id version && bytes_eq (manifest_place id version) place) refl
  where
    by : (b : Bool) → (is_version id version && bytes_eq (manifest_place id version) place) ≡ b → (is_version named.0 named.1 ≡ true) × (place ≡ manifest_place named.0 named.1)
    by false other = absurd (none-some named (sym (ap (λ (b : Bool). cond b (Some (id, version)) None) other) ∙ is))
    by true holds =
        let these : (id, version) ≡ named = same_Some (id, version) named (sym (ap (λ (b : Bool). cond b (Some (id, version)) None) holds) ∙ is) in
        let parts = both (is_version id version) (bytes_eq (manifest_place id version) place) holds in (
          sym (ap (λ (n : List ℕ × ℕ). is_version n.0 n.1) these) ∙ parts.0,
          sym ((bytes_eq-Decides (manifest_place id version) place).0 parts.1) ∙ ap (λ (n : List ℕ × ℕ). manifest_place n.0 n.1) these,
        )

-- a place that names a version is its place
pub named_place : (place : List ℕ) (named : List ℕ × ℕ) → version_named place ≡ Some named → (is_version named.0 named.1 ≡ true) × (place ≡ manifest_place named.0 named.1)
named_place place named is = if_named (take 8 (drop 8 place)) (digits_value 10 (drop 17 place)) place named is

-- and the place of a version names it
pub place_named : (id : List ℕ) (version : ℕ) → is_version id version ≡ true → version_named (manifest_place id version) ≡ Some (id, version)
place_named id version is =
    let place = manifest_place id version in
    let v = version_is id version is in
    let parts = parts_of id version v.long in
    let number : digits_value 10 (drop 17 place) ≡ version = ap (digits_value 10) parts.number_in ∙ (decimal_is_IsNumeral version (omega (arith, v.small))).1 in
    ap (λ (i : List ℕ). named_if i (digits_value 10 (drop 17 place)) place) parts.id_in
    ∙ ap (λ (n : ℕ). named_if id n place) number
    ∙ ap (λ (b : Bool). cond (b && bytes_eq place place) (Some (id, version)) None) is
    ∙ ap (λ (b : Bool). cond b (Some (id, version)) None) ((bytes_eq-Decides place place).1 refl)

-- a place that is that of no version names none
pub not_named : (place : List ℕ) → ((id : List ℕ) (version : ℕ) → Version id version → place ≡ manifest_place id version → ⊥) → version_named place ≡ None
not_named place other = by (version_named place) refl
  where
    by : (o : Option (List ℕ × ℕ)) → version_named place ≡ o → o ≡ None
    by None is = refl
    by (Some named) is = let n = named_place place named is in absurd (other named.0 named.1 (version_is named.0 named.1 n.0) n.1)

-- how long a place is
pub place_long : (id : List ℕ) (version : ℕ) → length id ≡ 8 → length (manifest_place id version) ≡ 17 + length (decimal version)
place_long id version long = omega (arith, length-append (folder ++ id) (46 ∷ decimal version), length-append folder id, long)

pub place_short : (id : List ℕ) (version : ℕ) → Version id version → length (manifest_place id version) < 18 → ⊥
place_short id version v short = omega (arith, place_long id version v.long, decimal_nonempty version (omega (arith, v.small)))

above_folder : (id : List ℕ) (version : ℕ) → is_above (Some folder) (manifest_place id version) ≡ true
above_folder [] version = refl
above_folder (b ∷ id) version = refl

-- the place of a manifest is above the folder, and not above its end
pub is_within : (q : List ℕ) → is_manifest_place q ≡ true → is_above (Some folder) q ≡ true
is_within q form =
    let h = is_there (version_named q) form in
    subst (λ (p : List ℕ). is_above (Some folder) p ≡ true) (sym (named_place q h.0 h.1).1) (above_folder h.0.0 h.0.1)

not_past : (q : List ℕ) → is_manifest_place q ≡ true → is_above (Some folder_end) q ≡ true → ⊥
not_past q form past =
    let h = is_there (version_named q) form in
    false≢true (ap (λ (p : List ℕ). is_above (Some folder_end) p) (sym (named_place q h.0 h.1).1) ∙ past)

pub past_manifest : (place q : List ℕ) → is_above (Some folder_end) place ≡ true → is_above (Some place) q ≡ true → is_manifest_place q ≡ false
past_manifest place q past above = by (is_manifest_place q) refl
  where
    by : (b : Bool) → is_manifest_place q ≡ b → b ≡ false
    by true form = absurd (not_past q form (above_above folder_end place q past above))
    by false form = refl

-- what is read of a place
pub named_back : (read : Option (List ℕ × ℕ)) (place : List ℕ) → read ≡ version_named place → IfSome read (λ (named : List ℕ × ℕ). manifest_place named.0 named.1 ≡ place)
named_back None place is = tt
named_back (Some named) place is = sym (named_place place named (sym is)).1

-- what is read of the place of a version
pub id_read : (bytes id : List ℕ) (version : ℕ) → Version id version → bytes ≡ manifest_place id version → text_if (is_package_id (take 8 (drop 8 bytes))) (take 8 (drop 8 bytes)) ≡ Some id
id_read bytes id version is same =
    let text : take 8 (drop 8 bytes) ≡ id = ap (λ (l : List ℕ). take 8 (drop 8 l)) same ∙ (parts_of id version is.long).id_in in
    ap (λ (l : List ℕ). text_if (is_package_id l) l) text ∙ ap (λ (b : Bool). text_if b id) is.id_is

pub number_read : (bytes id : List ℕ) (version : ℕ) → Version id version → bytes ≡ manifest_place id version → take (length bytes - 17) (drop 17 bytes) ≡ decimal version
number_read bytes id version is same =
    take_all (length bytes - 17) (drop 17 bytes) (omega (arith, length-drop 17 bytes)) ∙ ap (λ (l : List ℕ). drop 17 l) same ∙ (parts_of id version is.long).number_in

pub text_some : (b : Bool) (text id : List ℕ) → text_if b text ≡ Some id → (b ≡ true) × (text ≡ id)
text_some true text id is = (refl, same_Some text id is)
text_some false text id is = absurd (none-some id is)

nat_le_is : (m n : ℕ) → m ≤ n → nat_le m n ≡ true
nat_le_is m n le = by (nat_le m n) refl
  where
    by : (b : Bool) → nat_le m n ≡ b → b ≡ true
    by true is = refl
    by false is = let lt = leb-false m n is in absurd (omega (arith, lt, le))

nat_lt_is : (m n : ℕ) → m < n → nat_lt m n ≡ true
nat_lt_is m n lt = by (nat_lt m n) refl
  where
    by : (b : Bool) → nat_lt m n ≡ b → b ≡ true
    by true is = refl
    by false is = let le = ltb-false m n is in absurd (omega (arith, lt, le))

pub is_version_by : (id : List ℕ) (version : ℕ) → is_package_id id ≡ true → 1 ≤ version → version < 2 ^ 32 → is_version id version ≡ true
is_version_by id version form some small =
    ap (λ (b : Bool). b && nat_le 1 version && nat_lt version (2 ^ 32)) form
    ∙ ap (λ (b : Bool). b && nat_lt version (2 ^ 32)) (nat_le_is 1 version some)
    ∙ nat_lt_is version (2 ^ 32) small
