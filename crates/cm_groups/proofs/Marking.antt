-- Marks, and tests of one number more.
use Rattle.std.proofs.Common.{◌≡◌, ℕ, ◌+◌, ◌<◌, ◌||◌, ◌↔◌, Bool, false, List, [], ◌∷◌, IsTrue, length, take, get_or, refl, sym, ap, ◌∙◌}
use Rattle.std.specs.List.{list_any}
use Rattle.std.proofs.lemmas.List.Folds.{Any-from_list_any, list_any-from_Any, list_any_more}
use Rattle.cm_groups.specs.Marked.{SomeMarked, is_marked}
use Rattle.cm_groups.proofs.Has.{has, has-from_Contains, Contains-from_has}

pub none_passes : (p : ℕ → Bool) (xs : List ℕ) → ((number : ℕ) → p number ≡ false) → list_any p xs ≡ false
none_passes p [] none = refl
none_passes p (x ∷ xs) none = ap (λ (b : Bool). b || list_any p xs) (none x) ∙ none_passes p xs none

-- one element more passes or not
pub one_more : {X : Type 0} (p : X → Bool) (xs : List X) (i : ℕ) (x d : X) (old new : Bool) → i < length xs → x ≡ get_or xs i d
    → new ≡ (old || p x) → old ≡ list_any p (take i xs) → new ≡ list_any p (take (i + 1) xs)
one_more {X} p xs i x d old new lt at is was =
    is ∙ (ap (λ (b : Bool). b || p x) was ∙ (ap (λ (y : X). list_any p (take i xs) || p y) at ∙ sym (list_any_more p xs i d lt)))

-- some number of the list is marked exactly where a marked number passes the list's own test
pub some_marked : (marks : List Bool) (numbers : List ℕ) (test : ℕ → Bool) (answer : Bool) → ((number : ℕ) → has numbers number ≡ test number)
    → answer ≡ list_any (is_marked marks) numbers → IsTrue answer ↔ SomeMarked marks test
some_marked marks numbers test answer same is = (
  (λ h.
      let found = Any-from_list_any (is_marked marks) numbers (sym is ∙ h) in
      record { number = found.1; marked = found.4; passes = sym (same found.1) ∙ has-from_Contains numbers found.1 (found.0, found.2, found.3) }),
  (λ some.
      let there = Contains-from_has numbers some.number (same some.number ∙ some.passes) in
      is ∙ list_any-from_Any (is_marked marks) numbers (there.0, some.number, there.1, there.2, some.marked)),
)
