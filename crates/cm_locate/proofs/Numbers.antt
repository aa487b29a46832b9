-- The numbers that pass a test, as one list.
use Rattle.std.proofs.Common.{◌≡◌, ℕ, ◌+◌, ◌<◌, ◌≤◌, ◌==◌, ◌&&◌, ◌||◌, Bool, true, false, List, [], ◌∷◌, All, length, filter, get_or, refl, sym, ap, ◌∙◌, subst, arith}
use Rattle.std.specs.List.{range_with_len}
use Rattle.std.specs.List.Sorted.{IsStrictlyIncreasing}
use Rattle.std.proofs.lemmas.Bool.{eqb-true, eq-eqb, true≢false, and_parts}
use Rattle.std.proofs.lemmas.List.Elements.{All-contains}
use Rattle.std.proofs.lemmas.List.Folds.{list_any_at}
use Rattle.std.proofs.lemmas.List.FromFn.{length-range_with_len, get_or-range_with_len}
use Rattle.std.proofs.lemmas.List.Kept.{IsStrictlyIncreasing-filter}
use Rattle.std.proofs.lemmas.Map.Views.{any-filter_same}
use Rattle.cm_groups.specs.declared.group.Group.{Group}
use Rattle.cm_groups.specs.Current.{AreThose}
use Rattle.cm_locate.specs.Eligible.{numbers_that}
use Rattle.cm_locate.proofs.Has.{has, both_bools, Contains-from_has, those_have}

-- the numbers rise, from above one on
abbrev Rises : ℕ → List ℕ → Type 0
Rises low [] = Unit {0}
Rises low (x ∷ xs) = (low < x) × Rises x xs

rises : (x : ℕ) (xs : List ℕ) → IsStrictlyIncreasing (x ∷ xs) → Rises x xs
rises x [] up = tt
rises x (y ∷ ys) up = (up 0 (omega arith), rises y ys (λ k h. let later : get_or (x ∷ y ∷ ys) (k + 1) 0 < get_or (x ∷ y ∷ ys) (k + 1 + 1) 0 = up (k + 1) (omega arith) in grind arith))

above : (low : ℕ) (xs : List ℕ) → Rises low xs → (number : ℕ) → has xs number ≡ true → low < number
above low [] up number h = absurd (true≢false (sym h))
above low (x ∷ xs) up number h =
    elim (x == number) as (λ b. x == number ≡ b → (b || has xs number) ≡ true → low < number) [
      | true ↦ λ e g. let same : x ≡ number = eqb-true x number e in omega (arith, up.0)
      | false ↦ λ e g. omega (arith, up.0, above x xs up.1 number g)
    ] refl h

head_in : (x : ℕ) (xs : List ℕ) → has (x ∷ xs) x ≡ true
head_in x xs = ap (λ b. b || has xs x) (eq-eqb x x refl)

not_below : (x : ℕ) (xs : List ℕ) → Rises x xs → (number : ℕ) → has (x ∷ xs) number ≡ true → x ≤ number
not_below x xs up number h =
    elim (x == number) as (λ b. x == number ≡ b → (b || has xs number) ≡ true → x ≤ number) [
      | true ↦ λ e g. let same : x ≡ number = eqb-true x number e in omega arith
      | false ↦ λ e g. omega (arith, above x xs up number g)
    ] refl h

not_in : (x : ℕ) (xs : List ℕ) → Rises x xs → has xs x ≡ false
not_in x xs up = elim (has xs x) as (λ b. has xs x ≡ b → b ≡ false) [ true ↦ λ e. absurd (omega (arith, above x xs up x e)) | false ↦ λ e. refl ] refl

tails_same : (x number : ℕ) (xs ys : List ℕ) → Rises x xs → Rises x ys → has (x ∷ xs) number ≡ has (x ∷ ys) number → has xs number ≡ has ys number
tails_same x number xs ys up over same =
    elim (x == number) as (λ b. x == number ≡ b → (b || has xs number) ≡ (b || has ys number) → has xs number ≡ has ys number) [
      | true ↦ λ e g. let at : x ≡ number = eqb-true x number e in
          ap (has xs) (sym at) ∙ not_in x xs up ∙ sym (not_in x ys over) ∙ ap (has ys) at
      | false ↦ λ e g. g
    ] refl same

-- two rising lists with the same numbers are one
same_rising : (xs ys : List ℕ) → IsStrictlyIncreasing xs → IsStrictlyIncreasing ys → ((number : ℕ) → has xs number ≡ has ys number) → xs ≡ ys
same_rising [] [] up over same = refl
same_rising [] (y ∷ ys) up over same = absurd (true≢false (sym (head_in y ys) ∙ sym (same y)))
same_rising (x ∷ xs) [] up over same = absurd (true≢false (sym (head_in x xs) ∙ same x))
same_rising (x ∷ xs) (y ∷ ys) up over same =
    let left : Rises x xs = rises x xs up in
    let right : Rises y ys = rises y ys over in
    let down : y ≤ x = not_below y ys right x (sym (same x) ∙ head_in x xs) in
    let back : x ≤ y = not_below x xs left y (same y ∙ head_in y ys) in
    let heads : x ≡ y = omega arith in
    let there : Rises x ys = subst (λ n. Rises n ys) (sym heads) right in
    let all : (number : ℕ) → has (x ∷ xs) number ≡ has (x ∷ ys) number = λ number. same number ∙ ap (λ n. has (n ∷ ys) number) (sym heads) in
    ap (λ n. n ∷ xs) heads ∙ ap (λ zs. y ∷ zs) (same_rising xs ys (tail_up x xs up) (tail_up y ys over) (λ number. tails_same x number xs ys left there (all number)))
  where
    tail_up : (z : ℕ) (zs : List ℕ) → IsStrictlyIncreasing (z ∷ zs) → IsStrictlyIncreasing zs
    tail_up z zs rising = λ k h. let later : get_or (z ∷ zs) (k + 1) 0 < get_or (z ∷ zs) (k + 1 + 1) 0 = rising (k + 1) (omega arith) in grind arith

range_up : (n : ℕ) → IsStrictlyIncreasing (range_with_len 0 n)
range_up n = λ k h.
    let inside : k + 1 < n = omega (arith, length-range_with_len 0 n) in
    omega (arith, get_or-range_with_len 0 n k 0 (omega arith), get_or-range_with_len 0 n (k + 1) 0 inside)

range_has : (n number : ℕ) → number < n → has (range_with_len 0 n) number ≡ true
range_has n number h =
    let inside : number < length (range_with_len 0 n) = omega (arith, length-range_with_len 0 n) in
    let at : get_or (range_with_len 0 n) number 0 ≡ number = omega (arith, get_or-range_with_len 0 n number 0 h) in
    list_any_at (λ other. other == number) (range_with_len 0 n) number 0 inside (eq-eqb (get_or (range_with_len 0 n) number 0) number at)

kept_have : (test : ℕ → Bool) (n number : ℕ) → has (filter test (range_with_len 0 n)) number ≡ (test number && has (range_with_len 0 n) number)
kept_have test n number = any-filter_same (λ other. other == number) test (test number) (λ other e. ap test (eqb-true other number e)) (range_with_len 0 n)

-- exactly the numbers that pass, each of a group that is there, are those of the definition
pub numbers_are : (test : ℕ → Bool) (groups : List Group) (numbers : List ℕ) → AreThose test numbers → All (λ number. number < length groups) numbers → numbers ≡ numbers_that test groups
numbers_are test groups numbers are there =
    let count : ℕ = length groups in
    same_rising numbers (filter test (range_with_len 0 count)) are.rising (IsStrictlyIncreasing-filter test (range_with_len 0 count) (range_up count))
    (λ number. both_bools (has numbers number) (has (filter test (range_with_len 0 count)) number)
    (λ h.
    let below : number < count = All-contains (λ n. n < count) numbers number there (Contains-from_has numbers number h) in
    let passed : test number ≡ true = sym (those_have test numbers are number) ∙ h in
    kept_have test count number ∙ ap (λ b. b && has (range_with_len 0 count) number) passed ∙ range_has count number below)
    (λ h. those_have test numbers are number ∙ (and_parts (test number) (has (range_with_len 0 count) number) (sym (kept_have test count number) ∙ h)).0))
