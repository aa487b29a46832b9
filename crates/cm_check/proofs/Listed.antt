-- Places are listed by a walk over them.
use Rattle.std.proofs.Common.{◌≡◌, inl, inr, ℕ, Bool, true, false, List, [], ◌∷◌, ◌++◌, refl, sym, ◌∙◌, ap, subst}
use Rattle.std.specs.Prelude.{◌&&◌, ◌||◌, is_some, Option, None, Some}
use Rattle.std.specs.List.{list_any}
use Rattle.std.specs.Str.{bytes_eq}
use Rattle.std.specs.Ordering.{nat_cmp, is_lt}
use Rattle.std.specs.Cmp.Lexicographic.{slice_cmp}
use Rattle.std.specs.declared.cmp.Ordering.TheVariants.{Less}
use Rattle.std.proofs.lemmas.Bool.{false≢true, and_parts}
use Rattle.std.proofs.lemmas.Cmp.{nat_list_cmp_total, tied_itself}
use Rattle.std.proofs.lemmas.Option.{none-some, same_Some}
use Rattle.std.proofs.lemmas.Slice.Eq.{bytes_eq-Decides}
use Rattle.cm_disk.specs.Disk.{Files, is_above, IsNext}
use Rattle.cm_disk.specs.Walks.{rises, AreListed}
use Rattle.cm_disk.proofs.Rises.{above_above}

-- the last of some places, or the one before them
abbrev last_or : Option (List ℕ) → List (List ℕ) → Option (List ℕ)
last_or before [] = before
last_or before (place ∷ places) = last_or (Some place) places

-- So far these are listed, of the places up to one.
pub record ListedTo (files : Files) (after : Option (List ℕ)) (places : List (List ℕ)) : Type 0 where
  pub rising : rises None places ≡ true
  pub last : last_or None places ≡ after
  pub all : (q : List ℕ) → is_above after q ≡ false → is_some (files q) ≡ list_any (bytes_eq q) places
  pub none : (q : List ℕ) → is_above after q ≡ true → list_any (bytes_eq q) places ≡ false

pub none_listed : (files : Files) → ListedTo files None []
none_listed files = record { rising = refl; last = refl; all = λ q below. absurd (false≢true (sym below)); none = λ q above. refl }

-- one place more behind the last
rises_more : (before : Option (List ℕ)) (places : List (List ℕ)) (place : List ℕ) → rises before places ≡ true → is_above (last_or before places) place ≡ true → rises before (places ++ place ∷ []) ≡ true
rises_more before [] place rising above = ap (λ (b : Bool). b && true) above
rises_more before (first ∷ places) place rising above =
    let parts = and_parts (is_above before first) (rises (Some first) places) rising in
    ap (λ (b : Bool). b && rises (Some first) (places ++ place ∷ [])) parts.0 ∙ rises_more (Some first) places place parts.1 above

or_false : (b : Bool) → (b || false) ≡ b
or_false true = refl
or_false false = refl

any_more : (q : List ℕ) (places : List (List ℕ)) (place : List ℕ) → list_any (bytes_eq q) (places ++ place ∷ []) ≡ (list_any (bytes_eq q) places || bytes_eq q place)
any_more q [] place = or_false (bytes_eq q place)
any_more q (first ∷ places) place = by (bytes_eq q first) (any_more q places place)
  where
    by : (b : Bool) → list_any (bytes_eq q) (places ++ place ∷ []) ≡ (list_any (bytes_eq q) places || bytes_eq q place)
        → (b || list_any (bytes_eq q) (places ++ place ∷ [])) ≡ ((b || list_any (bytes_eq q) places) || bytes_eq q place)
    by true rest = refl
    by false rest = rest

above_then : (after : Option (List ℕ)) (place q : List ℕ) → is_above after place ≡ true → is_above (Some place) q ≡ true → is_above after q ≡ true
above_then None place q first then = refl
above_then (Some after) place q first then = above_above after place q first then

-- no place is above itself
not_itself : (place : List ℕ) → is_above (Some place) place ≡ true → ⊥
not_itself place above = false≢true (sym (ap is_lt (tied_itself nat_list_cmp_total place)) ∙ above)

less_above : (place q : List ℕ) → slice_cmp nat_cmp place q ≡ Less → is_above (Some place) q ≡ true
less_above place q less = ap is_lt less

same_bytes : (q place : List ℕ) → bytes_eq q place ≡ true → q ≡ place
same_bytes q place is = (bytes_eq-Decides q place).0 is

module _ (files : Files) (after : Option (List ℕ)) (places : List (List ℕ)) (place : List ℕ) (so_far : ListedTo files after places) (above : is_above after place ≡ true) (next : IsNext files after (Some place)) where
  all_then : (q : List ℕ) → is_above (Some place) q ≡ false → is_some (files q) ≡ (list_any (bytes_eq q) places || bytes_eq q place)
  all_then q below = by (is_above after q) refl (bytes_eq q place) refl
    where
      by : (b : Bool) → is_above after q ≡ b → (same : Bool) → bytes_eq q place ≡ same → is_some (files q) ≡ (list_any (bytes_eq q) places || bytes_eq q place)
      by false old true same = absurd (false≢true (sym old ∙ ap (λ (p : List ℕ). is_above after p) (same_bytes q place same) ∙ above))
      by false old false other = so_far.all q old ∙ sym (or_false (list_any (bytes_eq q) places)) ∙ ap (λ (b : Bool). list_any (bytes_eq q) places || b) (sym other)
      by true new true same =
          ap (λ (p : List ℕ). is_some (files p)) (same_bytes q place same) ∙ next.there place refl
          ∙ sym (ap (λ (b : Bool). b || bytes_eq q place) (so_far.none q new) ∙ same)
      by true new false other =
          absent (is_some (files q)) refl
          ∙ sym (ap (λ (b : Bool). b || bytes_eq q place) (so_far.none q new) ∙ other)
        where
          absent : (b : Bool) → is_some (files q) ≡ b → b ≡ false
          absent false is = refl
          absent true is =
              let least = next.least q new is in
              let own : least.0 ≡ place = same_Some least.0 place (sym least.1) in
              elim least.2 [
                | inl same ↦ absurd (false≢true (sym other ∙ (bytes_eq-Decides q place).1 (sym same ∙ own)))
                | inr less ↦ absurd (false≢true (sym below ∙ less_above place q (subst (λ (p : List ℕ). slice_cmp nat_cmp p q ≡ Less) own less)))
              ]

  none_then : (q : List ℕ) → is_above (Some place) q ≡ true → (list_any (bytes_eq q) places || bytes_eq q place) ≡ false
  none_then q beyond = ap (λ (b : Bool). b || bytes_eq q place) (so_far.none q (above_then after place q above beyond)) ∙ by (bytes_eq q place) refl
    where
      by : (b : Bool) → bytes_eq q place ≡ b → b ≡ false
      by false is = refl
      by true is = absurd (not_itself place (subst (λ (p : List ℕ). is_above (Some place) p ≡ true) (same_bytes q place is) beyond))

  pub listed_more : ListedTo files (Some place) (places ++ place ∷ [])
  listed_more = record {
    rising = rises_more None places place so_far.rising (ap (λ (last : Option (List ℕ)). is_above last place) so_far.last ∙ above);
    last = last_more None places;
    all = λ q below. all_then q below ∙ sym (any_more q places place);
    none = λ q beyond. any_more q places place ∙ none_then q beyond;
  }
    where
      last_more : (before : Option (List ℕ)) (l : List (List ℕ)) → last_or before (l ++ place ∷ []) ≡ Some place
      last_more before [] = refl
      last_more before (first ∷ l) = last_more (Some first) l

-- what is no place is none
pub not_some : (o : Option (List ℕ)) → ((place : List ℕ) → o ≡ Some place → ⊥) → o ≡ None
not_some None other = refl
not_some (Some place) other = absurd (other place refl)

-- no place is behind the last
pub listed_all : (files : Files) (after : Option (List ℕ)) (places : List (List ℕ)) → ListedTo files after places → IsNext files after None → AreListed files places
listed_all files after places so_far next = record { rising = so_far.rising; all = λ q. by q (is_above after q) refl }
  where
    absent : (q : List ℕ) → is_above after q ≡ true → (b : Bool) → is_some (files q) ≡ b → b ≡ false
    absent q above false is = refl
    absent q above true is = let least = next.least q above is in absurd (none-some least.0 least.1)

    by : (q : List ℕ) → (b : Bool) → is_above after q ≡ b → is_some (files q) ≡ list_any (bytes_eq q) places
    by q false below = so_far.all q below
    by q true above = absent q above (is_some (files q)) refl ∙ sym (so_far.none q above)
