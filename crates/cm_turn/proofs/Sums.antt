-- Sums over a list of views.
use Rattle.std.proofs.Common.{◌≡◌, ◌≢◌, ℕ, zero, suc, ◌+◌, ◌≤◌, List, [], ◌∷◌, ◌++◌, slice_set, refl, sym, ap, arith}
use mathlib.Core.Option.{some, some-injective, some-ne-none}
use lib.ListN.{get_elem?}
use Rattle.cm_turn.specs.Lists.{sum_of, Each}

module _ {X : Type 0} (f : X → ℕ) where
  pub sum_set : (l : List X) (i : ℕ) (v w : X) → get_elem? l i ≡ some v → sum_of f (slice_set l i w) + f v ≡ sum_of f l + f w
  sum_set [] i v w e = absurd (some-ne-none v (sym e))
  sum_set (x ∷ xs) zero v w e = let h = ap f (some-injective x v e) in omega (arith, h)
  sum_set (x ∷ xs) (suc i) v w e = let h = sum_set xs i v w e in omega (arith, h)

  pub sum_last : (l : List X) (w : X) → sum_of f (l ++ w ∷ []) ≡ sum_of f l + f w
  sum_last [] w = omega arith
  sum_last (x ∷ xs) w = let h = sum_last xs w in omega (arith, h)

  pub sum_at : (l : List X) (i : ℕ) (v : X) → get_elem? l i ≡ some v → f v ≤ sum_of f l
  sum_at [] i v e = absurd (some-ne-none v (sym e))
  sum_at (x ∷ xs) zero v e = let h = ap f (some-injective x v e) in omega (arith, h)
  sum_at (x ∷ xs) (suc i) v e = let h = sum_at xs i v e in omega (arith, h)

  pub sum_two : (l : List X) (i j : ℕ) (v w : X) → i ≢ j → get_elem? l i ≡ some v → get_elem? l j ≡ some w → f v + f w ≤ sum_of f l
  sum_two [] i j v w n a b = absurd (some-ne-none v (sym a))
  sum_two (x ∷ xs) zero zero v w n a b = absurd (n refl)
  sum_two (x ∷ xs) zero (suc j) v w n a b = let h = ap f (some-injective x v a) in let k = sum_at xs j w b in omega (arith, h, k)
  sum_two (x ∷ xs) (suc i) zero v w n a b = let h = ap f (some-injective x w b) in let k = sum_at xs i v a in omega (arith, h, k)
  sum_two (x ∷ xs) (suc i) (suc j) v w n a b = let h = sum_two xs i j v w (λ e. n (ap suc e)) a b in omega (arith, h)

  sum_none : (l : List X) → ((j : ℕ) (w : X) → get_elem? l j ≡ some w → f w ≡ 0) → sum_of f l ≡ 0
  sum_none [] h = refl
  sum_none (x ∷ xs) h = let a = h 0 x refl in let b = sum_none xs (λ j w e. h (suc j) w e) in omega (arith, a, b)

  pub sum_alone : (l : List X) (i : ℕ) (v : X) → get_elem? l i ≡ some v → ((j : ℕ) (w : X) → j ≢ i → get_elem? l j ≡ some w → f w ≡ 0) → sum_of f l ≡ f v
  sum_alone [] i v e h = absurd (some-ne-none v (sym e))
  sum_alone (x ∷ xs) zero v e h = let a = ap f (some-injective x v e) in let b = sum_none xs (λ j w t. h (suc j) w (λ q. omega (arith, q)) t) in omega (arith, a, b)
  sum_alone (x ∷ xs) (suc i) v e h = let a = h 0 x (λ q. omega (arith, q)) refl in let b = sum_alone xs i v e (λ j w n t. h (suc j) w (λ q. n (omega (arith, q))) t) in omega (arith, a, b)

module _ {X : Type 0} where
  pub each_weaker : (P Q : X → Type 0) → ((x : X) → P x → Q x) → (l : List X) → Each P l → Each Q l
  each_weaker P Q f [] h = tt
  each_weaker P Q f (x ∷ xs) h = (f x h.0, each_weaker P Q f xs h.1)

  pub each_append : (P : X → Type 0) (l m : List X) → Each P l → Each P m → Each P (l ++ m)
  each_append P [] m a b = b
  each_append P (x ∷ xs) m a b = (a.0, each_append P xs m a.1 b)
