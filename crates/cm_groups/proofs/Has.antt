-- Which numbers a list has.
use Rattle.std.proofs.Common.{◌≡◌, ℕ, ◌<◌, ◌==◌, Bool, true, false, List, ◌++◌, Contains, length, get_or, refl, sym, ap, ◌∙◌, Option, None, Some, inl, inr}
use Rattle.std.specs.List.{list_any, slice_get}
use Rattle.std.specs.Option.{option_map_or}
use Rattle.std.proofs.lemmas.Bool.{eqb-true, eq-eqb, true≢false}
use Rattle.std.proofs.lemmas.List.Elements.{Contains-append_cases, Contains-append_left, Contains-append_right}
use Rattle.std.proofs.lemmas.List.Folds.{Any-from_list_any, list_any-from_Any}
use Rattle.std.proofs.lemmas.Option.{slice_get-get_or, slice_get_within}
use Rattle.cm_net.specs.Groups.{IsRisingOf}
use Rattle.cm_groups.specs.declared.group.Group.{Group}
use Rattle.cm_groups.specs.Current.{AreThose, passes}

abbrev pub has : List ℕ → ℕ → Bool
has numbers number = list_any (λ other. other == number) numbers

pub has-from_Contains : (numbers : List ℕ) (number : ℕ) → Contains numbers number → has numbers number ≡ true
has-from_Contains numbers number h = list_any-from_Any (λ other. other == number) numbers (h.0, number, h.1, h.2, eq-eqb number number refl)

pub Contains-from_has : (numbers : List ℕ) (number : ℕ) → has numbers number ≡ true → Contains numbers number
Contains-from_has numbers number h =
    let found = Any-from_list_any (λ other. other == number) numbers h in
    let same : found.1 ≡ number = eqb-true found.1 number found.4 in
    let at : get_or numbers found.0 number ≡ number = ap (λ (d : ℕ). get_or numbers found.0 d) (sym same) ∙ found.3 ∙ same in
    (found.0, found.2, at)

pub both_bools : (a b : Bool) → (a ≡ true → b ≡ true) → (b ≡ true → a ≡ true) → a ≡ b
both_bools true b to from = sym (to refl)
both_bools false true to from = from refl
both_bools false false to from = refl

-- the numbers of a list, rising, are those that pass what the list's own test is
pub those_of : (test : ℕ → Bool) (numbers found : List ℕ) → ((number : ℕ) → has numbers number ≡ test number) → IsRisingOf numbers found → AreThose test found
those_of test numbers found same are = record {
  rising = are.rising;
  same = λ number. (
    (λ h. sym (same number) ∙ has-from_Contains numbers number ((are.same number).0 h)),
    (λ h. (are.same number).1 (Contains-from_has numbers number (same number ∙ h))),
  );
}

pub rising_both : (a b x y found : List ℕ) → IsRisingOf a x → IsRisingOf b y → IsRisingOf (x ++ y) found → IsRisingOf (a ++ b) found
rising_both a b x y found first second all = record {
  rising = all.rising;
  same = λ number. (
    (λ h. elim (Contains-append_cases x y number ((all.same number).0 h)) as (λ _. Contains (a ++ b) number) [
      | inl l ↦ Contains-append_left a b number ((first.same number).0 l)
      | inr r ↦ Contains-append_right a b number ((second.same number).0 r)
    ]),
    (λ h. (all.same number).1 (elim (Contains-append_cases a b number h) as (λ _. Contains (x ++ y) number) [
      | inl l ↦ Contains-append_left x y number ((first.same number).1 l)
      | inr r ↦ Contains-append_right x y number ((second.same number).1 r)
    ])),
  );
}

-- a group that is there passes or fails by itself
pub passes_at : (test : Group → Bool) (groups : List Group) (number index : ℕ) (group : Group) → number < length groups → index ≡ number → group ≡ get_or groups index group → test group ≡ passes test groups number
passes_at test groups number index group lt same is =
    let at : get_or groups number group ≡ group = ap (λ (i : ℕ). get_or groups i group) (sym same) ∙ sym is in
    let there : slice_get groups number ≡ Some group = slice_get-get_or groups number group lt ∙ ap (λ (g : Group). Some g) at in
    rw there

passing : (test : Group → Bool) (found : Option Group) → option_map_or test found false ≡ true → (group : Group) × (found ≡ Some group) × (test group ≡ true)
passing test None h = absurd (true≢false (sym h))
passing test (Some group) h = (group, refl, h)

-- the group that passes
pub passes_is : (test : Group → Bool) (groups : List Group) (number : ℕ) → passes test groups number ≡ true → (group : Group) × (slice_get groups number ≡ Some group) × (test group ≡ true)
passes_is test groups number h = passing test (slice_get groups number) h

pub passes_within : (test : Group → Bool) (groups : List Group) (number : ℕ) → passes test groups number ≡ true → number < length groups
passes_within test groups number h = let is = passes_is test groups number h in slice_get_within groups number is.0 is.1
