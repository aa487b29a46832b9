-- Which numbers a list has.
use Rattle.std.proofs.Common.{◌≡◌, ℕ, ◌==◌, Bool, true, false, List, Contains, get_or, refl, sym, ap, ◌∙◌}
use Rattle.std.specs.List.{list_any}
use Rattle.std.proofs.lemmas.Bool.{eqb-true, eq-eqb}
use Rattle.std.proofs.lemmas.List.Folds.{Any-from_list_any, list_any-from_Any}
use Rattle.cm_groups.specs.Current.{AreThose}

abbrev pub has : List ℕ → ℕ → Bool
has numbers number = list_any (λ other. other == number) numbers

pub has-from_Contains : (numbers : List ℕ) (number : ℕ) → Contains numbers number → has numbers number ≡ true
has-from_Contains numbers number h = list_any-from_Any (λ other. other == number) numbers (h.0, number, h.1, h.2, eq-eqb number number refl)

pub Contains-from_has : (numbers : List ℕ) (number : ℕ) → has numbers number ≡ true → Contains numbers number
Contains-from_has numbers number h =
    let found = Any-from_list_any (λ other. other == number) numbers h in
    let same : found.1 ≡ number = eqb-true found.1 number found.4 in
    let at : get_or numbers found.0 number ≡ number = ap (λ (d : ℕ). get_or numbers found.0 d) (sym same) ∙ found.3 ∙ same in
    (found.0, found.2, at)

pub both_bools : (a b : Bool) → (a ≡ true → b ≡ true) → (b ≡ true → a ≡ true) → a ≡ b
both_bools true b to from = sym (to refl)
both_bools false true to from = from refl
both_bools false false to from = refl

-- a list has the numbers that pass the test
pub those_have : (test : ℕ → Bool) (numbers : List ℕ) → AreThose test numbers → (number : ℕ) → has numbers number ≡ test number
those_have test numbers are number =
    both_bools (has numbers number) (test number)
    (λ h. (are.same number).0 (Contains-from_has numbers number h))
    (λ h. has-from_Contains numbers number ((are.same number).1 h))
