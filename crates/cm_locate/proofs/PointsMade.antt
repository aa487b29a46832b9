-- The points of groups, one group after another.
use Rattle.std.proofs.Common.{◌≡◌, ℕ, ◌==◌, ◌||◌, not, Bool, true, false, cond, List, [], ◌∷◌, refl, sym, ap, ◌∙◌}
use Rattle.std.specs.List.{list_any}
use Rattle.cm_groups.specs.declared.group.Group.{Group}
use Rattle.cm_groups.specs.Current.{passes}
use Rattle.cm_locate.specs.Eligible.{has_point, is_in}
use Rattle.cm_locate.specs.Ranks.{default_of, neighbours_of}

swapped : (p n d : Bool) → (n || (p || d)) ≡ (p || (n || d))
swapped true true d = refl
swapped true false d = refl
swapped false n d = refl

-- a point of one of these groups is one of a neighbour or of the default group among them
pub in_either : (groups : List Group) (name : List ℕ) (numbers : List ℕ) → is_in groups name numbers ≡ (is_in groups name (neighbours_of numbers) || is_in groups name (default_of numbers))
in_either groups name [] = refl
in_either groups name (number ∷ numbers) =
    let test : ℕ → Bool = λ n. passes (has_point name) groups n in
    let near : List ℕ = neighbours_of numbers in
    let far : List ℕ = default_of numbers in
    ap (λ b. test number || b) (in_either groups name numbers)
    ∙ elim (number == 0) as (λ b. (test number || (list_any test near || list_any test far)) ≡ (list_any test (cond (not b) (number ∷ near) near) || list_any test (cond b (number ∷ far) far))) [
      | true ↦ sym (swapped (test number) (list_any test near) (list_any test far))
      | false ↦ regrouped (test number) (list_any test near) (list_any test far)
    ]
  where
    regrouped : (p n d : Bool) → (p || (n || d)) ≡ ((p || n) || d)
    regrouped true n d = refl
    regrouped false n d = refl
