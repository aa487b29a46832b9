-- Fewer elements pass a test.
use Rattle.std.proofs.Common.{◌≡◌, ℕ, zero, suc, ◌+◌, ◌<◌, ◌≤◌, Bool, true, false, List, [], ◌∷◌, refl, ap, ◌∙◌, arith}
use Rattle.std.specs.Prelude.{Some, slice_get}
use Rattle.std.proofs.lemmas.Bool.{false≢true}
use Rattle.std.proofs.lemmas.Option.{none-some, same_Some}

abbrev pub as_one : Bool → ℕ
as_one true = 1
as_one false = 0

-- how many pass
abbrev pub passing : {A : Type 0} → (A → Bool) → List A → ℕ
passing p [] = 0
passing p (x ∷ xs) = as_one (p x) + passing p xs

one_le : (a b : Bool) → (b ≡ true → a ≡ true) → as_one b ≤ as_one a
one_le true true imp = omega arith
one_le true false imp = omega arith
one_le false true imp = absurd (false≢true (imp refl))
one_le false false imp = omega arith

-- where a test passes so does the other
passing_le : {A : Type 0} (p q : A → Bool) → ((x : A) → q x ≡ true → p x ≡ true) → (xs : List A) → passing q xs ≤ passing p xs
passing_le p q imp [] = omega arith
passing_le p q imp (x ∷ xs) =
    let here = one_le (p x) (q x) (imp x) in
    let rest = passing_le p q imp xs in
    omega (arith, here, rest)

-- and this one passes the other alone
pub passing_lt : {A : Type 0} (p q : A → Bool) → ((x : A) → q x ≡ true → p x ≡ true) → (xs : List A) (i : ℕ) (y : A) → slice_get xs i ≡ Some y → p y ≡ true → q y ≡ false → passing q xs < passing p xs
passing_lt p q imp [] i y at passes fails = absurd (none-some y at)
passing_lt p q imp (x ∷ xs) zero y at passes fails =
    let same : x ≡ y = same_Some x y at in
    let more : as_one (p x) ≡ 1 = ap (λ z. as_one (p z)) same ∙ ap as_one passes in
    let less : as_one (q x) ≡ 0 = ap (λ z. as_one (q z)) same ∙ ap as_one fails in
    let rest = passing_le p q imp xs in
    omega (arith, more, less, rest)
passing_lt p q imp (x ∷ xs) (suc i) y at passes fails =
    let here = one_le (p x) (q x) (imp x) in
    let rest = passing_lt p q imp xs i y at passes fails in
    omega (arith, here, rest)
