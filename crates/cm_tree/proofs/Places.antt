-- Elements by their places.
use Rattle.std.proofs.Common.{◌≡◌, ◌⊎◌, ℕ, zero, suc, ◌+◌, ◌<◌, List, [], ◌∷◌, ◌++◌, length, take, drop, Some, ap, arith, inl, inr}
use Rattle.std.specs.List.{slice_get}

pub get_below : {A : Type 0} (xs : List A) (n : ℕ) (x : A) → slice_get xs n ≡ Some x → n < length xs
get_below [] n x h = absurd cc
get_below (y ∷ xs) zero x h = omega arith
get_below (y ∷ xs) (suc n) x h = omega (arith, get_below xs n x h)

pub take_push : {A : Type 0} (xs : List A) (n : ℕ) (x : A) → slice_get xs n ≡ Some x → take (suc n) xs ≡ take n xs ++ x ∷ []
take_push [] n x h = absurd cc
take_push {A} (y ∷ xs) zero x h = let e : y ≡ x = cc in ap (λ (z : A). z ∷ []) e
take_push {A} (y ∷ xs) (suc n) x h = ap (λ (zs : List A). y ∷ zs) (take_push xs n x h)

pub put_back : {A : Type 0} (xs : List A) (n : ℕ) (x : A) → slice_get xs n ≡ Some x → take n xs ++ x ∷ drop (suc n) xs ≡ xs
put_back [] n x h = absurd cc
put_back {A} (y ∷ xs) zero x h = let e : x ≡ y = cc in ap (λ (z : A). z ∷ xs) e
put_back {A} (y ∷ xs) (suc n) x h = ap (λ (zs : List A). y ∷ zs) (put_back xs n x h)

-- an element of two lists in a row is of the first or of the second
pub get_append : {A : Type 0} (xs ys : List A) (k : ℕ) (y : A) → slice_get (xs ++ ys) k ≡ Some y → (slice_get xs k ≡ Some y) ⊎ ((j : ℕ) × (k ≡ length xs + j) × (slice_get ys j ≡ Some y))
get_append [] ys k y h = inr (k, omega arith, h)
get_append (x ∷ xs) ys zero y h = inl h
get_append (x ∷ xs) ys (suc k) y h =
    elim (get_append xs ys k y h) [
      | inl at ↦ inl at
      | inr at ↦ inr (at.0, omega (arith, at.1), at.2)
    ]
