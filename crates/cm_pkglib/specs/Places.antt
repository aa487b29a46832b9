-- Where a row stands, or is to stand, among rows that rise.
use Rattle.std.specs.Prelude.{◌≡◌, ℕ, suc, ◌<◌, ◌≤◌, List, [], ◌∷◌, length, take, drop, ⊤, Result, Ok, Err}
use Rattle.std.specs.List.{AllByRecursion}
use Rattle.std.specs.declared.cmp.Ordering.{Ordering}
use Rattle.std.specs.declared.cmp.Ordering.TheVariants.{Less, Equal, Greater}

-- R holds of each row and each later one
abbrev pub EachPair : {X : Type 0} → (X → X → Type 0) → List X → Type 0
EachPair R [] = ⊤
EachPair R (x ∷ xs) = AllByRecursion (R x) xs × EachPair R xs

-- the rows in front are less than what is sought, and those behind are greater
pub record IsBetween {X : Type 0} (ord : X → Ordering) (front back : List X) : Type 0 where
  pub before : AllByRecursion (λ x. ord x ≡ Less) front
  pub behind : AllByRecursion (λ x. ord x ≡ Greater) back

-- what is sought stands there, between the others
pub record IsThere {X : Type 0} (ord : X → Ordering) (xs : List X) (at : ℕ) : Type 0 where
  pub within : at < length xs
  pub row : X
  pub equal : ord row ≡ Equal
  pub rest : drop at xs ≡ row ∷ drop (suc at) xs
  pub between : IsBetween ord (take at xs) (drop (suc at) xs)

-- what is sought is not there, and would stand there
pub record IsGap {X : Type 0} (ord : X → Ordering) (xs : List X) (at : ℕ) : Type 0 where
  pub within : at ≤ length xs
  pub between : IsBetween ord (take at xs) (drop at xs)

-- a search found where what is sought stands, or is to stand
abbrev pub IsPlace : {X : Type 0} → (X → Ordering) → List X → Result ℕ ℕ → Type 0
IsPlace ord xs (Ok at) = IsThere ord xs at
IsPlace ord xs (Err at) = IsGap ord xs at
