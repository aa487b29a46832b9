-- Lists of entries, and entries with their places.
use Rattle.std.specs.Prelude.{◌≡◌, ℕ, suc, ◌+◌, ◌≤◌, ◌==◌, ltb, Bool, true, false, cond, ◌⊎◌, List, [], ◌∷◌, ◌++◌, length, ⊤}
use mathlib.Core.Option.{some}
use lib.ListN.{get_elem?}

-- P holds of each
abbrev pub Each : {X : Type 0} → (X → Type 0) → List X → Type 0
Each P [] = ⊤
Each P (x ∷ xs) = P x × Each P xs

-- 1 where it is true
abbrev pub one_if : Bool → ℕ
one_if true = 1
one_if false = 0

-- the sum of what f gives of each
abbrev pub sum_of : {X : Type 0} → (X → ℕ) → List X → ℕ
sum_of f [] = 0
sum_of f (x ∷ xs) = f x + sum_of f xs

-- the third list has the elements of the two others, each list's in its order, and no more
abbrev pub IsInterleaving : {X : Type 0} → List X → List X → List X → Type 0
IsInterleaving xs ys [] = (xs ≡ []) × (ys ≡ [])
IsInterleaving {X} xs ys (z ∷ zs) = ((rest : List X) × (xs ≡ z ∷ rest) × IsInterleaving rest ys zs) ⊎ ((rest : List X) × (ys ≡ z ∷ rest) × IsInterleaving xs rest zs)

module _ {E : Type 0} where
  -- the second list begins with the first
  abbrev pub IsFront : List E → List E → Type 0
  IsFront front list = (rest : List E) × (list ≡ front ++ rest)

  abbrev pub longer_of : List E → List E → List E
  longer_of a b = cond (ltb (length a) (length b)) b a

  -- the entries with their places, the first at this one
  abbrev pub placed_from : ℕ → List E → List (ℕ × E)
  placed_from n [] = []
  placed_from n (e ∷ l) = (n, e) ∷ placed_from (suc n) l

  -- the places rise strictly, from this one on
  abbrev pub IsRising : ℕ → List (ℕ × E) → Type 0
  IsRising n [] = ⊤
  IsRising n (x ∷ xs) = (n ≤ x.0) × IsRising (suc x.0) xs

  -- the places don't fall, from this one on
  abbrev pub IsOrdered : ℕ → List (ℕ × E) → Type 0
  IsOrdered n [] = ⊤
  IsOrdered n (x ∷ xs) = (n ≤ x.0) × IsOrdered x.0 xs

  -- each stands in the list at its place
  abbrev pub StandIn : List E → List (ℕ × E) → Type 0
  StandIn list = Each (λ x. get_elem? list x.0 ≡ some x.1)

  -- how often this place is that of an entry
  abbrev pub count_at : ℕ → List (ℕ × E) → ℕ
  count_at p [] = 0
  count_at p (x ∷ xs) = one_if (x.0 == p) + count_at p xs

  -- an entry among others, before the first whose place is not lower
  abbrev pub put_in : ℕ × E → List (ℕ × E) → List (ℕ × E)
  put_in y [] = y ∷ []
  put_in y (x ∷ xs) = cond (ltb x.0 y.0) (x ∷ put_in y xs) (y ∷ x ∷ xs)

  -- the entries of both, by rising place
  abbrev pub merge_of : List (ℕ × E) → List (ℕ × E) → List (ℕ × E)
  merge_of xs [] = xs
  merge_of xs (y ∷ ys) = put_in y (merge_of xs ys)

module _ {T S E : Type 0} (start_of : T → S) (list_of : T → List E) where
  -- the same Start, and the same entries with one more or none
  pub record Adds (x y : T) : Type 0 where
    pub start : start_of y ≡ start_of x
    pub entries : (list_of y ≡ list_of x) ⊎ ((e : E) × (list_of y ≡ list_of x ++ e ∷ []))
