-- The library of a bay is found among members, whose names are compared one by one.
use Rattle.std.proofs.Common.{◌≡◌, ℕ, ◌+◌, ◌<◌, ◌≤◌, zero, suc, false, true, Bool, List, [], ◌∷◌, length, slice_index_or, Option, None, Some, refl, sym, ◌∙◌, ap, subst, arith}
use Rattle.std.specs.Prelude.{cond}
use Rattle.std.specs.Option.{option_and_then}
use Rattle.std.specs.Str.{bytes_eq}
use Rattle.std.proofs.lemmas.Slice.Eq.{bytes_eq-Decides}
use Rattle.cm_library.specs.Kept.{Seen}
use Rattle.cm_records.specs.Seen.{Seen as SeenRecords}
use Rattle.cm_site.specs.Found.{IsLibraryAt}
use Rattle.cm_site.specs.Opened.{content_of, part_of, world_of}
use Rattle.cm_site.specs.Worlds.{Part, library_at, part_at, state_in}
use Rattle.cm_site.specs.declared.member.Hold.TheVariants as hold
use Rattle.cm_site.specs.declared.member.Member.{Member}

-- none of the first n members has the name
abbrev pub AreOther : {D : Type 0} → List ℕ → ℕ → List (Member D) → Type 0
AreOther bay zero members = Unit {0}
AreOther bay (suc n) [] = Unit {0}
AreOther bay (suc n) (member ∷ members) = (bytes_eq member.name bay ≡ false) × AreOther bay n members

pub others_more : {D : Type 0} (bay : List ℕ) (n : ℕ) (members : List (Member D)) (d : Member D) → AreOther bay n members → bytes_eq (slice_index_or members n d).name bay ≡ false → AreOther bay (n + 1) members
others_more {D = D} bay n members d others other = subst (λ (m : ℕ). AreOther bay m members) (let e : suc n ≡ n + 1 = omega arith in e) (by n members others other)
  where
    by : (k : ℕ) (ms : List (Member D)) → AreOther bay k ms → bytes_eq (slice_index_or ms k d).name bay ≡ false → AreOther bay (suc k) ms
    by zero [] none other = tt
    by zero (m ∷ ms) none other = (other, tt)
    by (suc k) [] none other = tt
    by (suc k) (m ∷ ms) some other = (some.0, by k ms some.1 other)

pub found_at : {D : Type 0} (bay : List ℕ) (n : ℕ) (members : List (Member D)) (d e : Member D) (library : Seen D) → AreOther bay n members → n < length members → (slice_index_or members n d).name ≡ bay
    → (slice_index_or members n e).hold ≡ hold.Library library → IsLibraryAt bay n members
found_at bay n [] d e library others lt name held = absurd (omega arith)
found_at bay zero (m ∷ ms) d e library others lt name held = (name, (library, held))
found_at bay (suc n) (m ∷ ms) d e library others lt name held = (others.0, found_at bay n ms d e library others.1 (omega arith) name held)

-- the member of the name is no library
pub none_records : {D : Type 0} (bay : List ℕ) (n : ℕ) (members : List (Member D)) (d e : Member D) (records : SeenRecords D) → AreOther bay n members → n < length members → (slice_index_or members n d).name ≡ bay
    → (slice_index_or members n e).hold ≡ hold.Records records → library_at bay (world_of members) ≡ None
none_records bay n [] d e records others lt name held = absurd (omega arith)
none_records bay zero (m ∷ ms) d e records others lt name held =
    ap (λ (b : Bool). option_and_then (λ (p : Part). state_in p.content) (cond b (Some (part_of m)) (part_at bay (world_of ms)))) ((bytes_eq-Decides m.name bay).1 name)
    ∙ ap (λ h. state_in (content_of h)) held
none_records bay (suc n) (m ∷ ms) d e records others lt name held =
    ap (λ (b : Bool). option_and_then (λ (p : Part). state_in p.content) (cond b (Some (part_of m)) (part_at bay (world_of ms)))) others.0
    ∙ none_records bay n ms d e records others.1 (omega arith) name held

-- no member has the name
pub none_left : {D : Type 0} (bay : List ℕ) (n : ℕ) (members : List (Member D)) → length members ≤ n → AreOther bay n members → library_at bay (world_of members) ≡ None
none_left bay n [] le others = refl
none_left bay zero (m ∷ ms) le others = absurd (omega arith)
none_left bay (suc n) (m ∷ ms) le others =
    ap (λ (b : Bool). option_and_then (λ (p : Part). state_in p.content) (cond b (Some (part_of m)) (part_at bay (world_of ms)))) others.0
    ∙ none_left bay n ms (omega arith) others.1
