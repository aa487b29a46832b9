-- Numbers of two lists of which one passes.
use Rattle.std.proofs.Common.{◌≡◌, ℕ, ◌||◌, Bool, true, false, List, ◌++◌, Contains, sym, ap, ◌∙◌}
use Rattle.std.specs.List.{list_any}
use Rattle.std.proofs.lemmas.List.Folds.{Any-from_list_any, list_any-append, list_any-from_Any}
use Rattle.cm_net.specs.Groups.{IsRisingOf}
use Rattle.cm_groups.proofs.Has.{both_bools}

any_of : (p : ℕ → Bool) (xs ys : List ℕ) → ((n : ℕ) → Contains xs n → Contains ys n) → list_any p xs ≡ true → list_any p ys ≡ true
any_of p xs ys among h =
    let found = Any-from_list_any p xs h in
    let there = among found.1 (found.0, found.2, found.3) in
    list_any-from_Any p ys (there.0, found.1, there.1, there.2, found.4)

any_rising : (p : ℕ → Bool) (xs ys : List ℕ) → IsRisingOf xs ys → list_any p ys ≡ list_any p xs
any_rising p xs ys are =
    both_bools (list_any p ys) (list_any p xs) (any_of p ys xs (λ n. (are.same n).0)) (any_of p xs ys (λ n. (are.same n).1))

pub either_first : (a b answer first : Bool) → answer ≡ first → first ≡ true → first ≡ a → answer ≡ (a || b)
either_first a b answer first is true_first same = is ∙ (true_first ∙ ap (λ (t : Bool). t || b) (sym true_first ∙ same))

pub either_second : (a b answer first second : Bool) → answer ≡ second → first ≡ false → first ≡ a → second ≡ b → answer ≡ (a || b)
either_second a b answer first second is false_first same other = is ∙ (other ∙ ap (λ (t : Bool). t || b) (sym false_first ∙ same))

-- of two lists with the same numbers as others, in order
pub any_both : (p : ℕ → Bool) (a b x y : List ℕ) (answer : Bool) → IsRisingOf a x → IsRisingOf b y → answer ≡ (list_any p x || list_any p y) → answer ≡ list_any p (a ++ b)
any_both p a b x y answer first second is =
    is ∙ (ap (λ (t : Bool). t || list_any p y) (any_rising p a x first)
    ∙ (ap (λ (t : Bool). list_any p a || t) (any_rising p b y second) ∙ sym (list_any-append p a b)))
