-- The groups that are reached.
use Rattle.std.proofs.Common.{◌≡◌, ℕ, ◌+◌, ◌<◌, ◌==◌, ◌&&◌, not, Bool, true, false, cond, List, [], ◌∷◌, All, length, filter, get_or, refl, sym, ap, ◌∙◌, subst, arith, Some, option_map}
use Rattle.std.specs.List.{range_with_len, slice_get}
use Rattle.std.specs.List.Sorted.{IsStrictlyIncreasing}
use Rattle.std.proofs.lemmas.Bool.{and_parts, eq-eqb, eqb-true}
use Rattle.std.proofs.lemmas.List.Elements.{Contains-get_or}
use Rattle.std.proofs.lemmas.List.Folds.{Any-from_list_any, list_any_at}
use Rattle.std.proofs.lemmas.List.FromFn.{get_or-range_with_len, length-range_with_len}
use Rattle.std.proofs.lemmas.List.Kept.{IsStrictlyIncreasing-filter}
use Rattle.std.proofs.lemmas.Map.Views.{any-filter_same}
use Rattle.std.proofs.lemmas.Option.{none-some, slice_get_within, get_or_from_slice_get}
use Rattle.cm_groups.specs.declared.fallback.Fallback.{Fallback}
use Rattle.cm_groups.specs.declared.group.Group.{Group}
use Rattle.cm_groups.specs.Current.{AreThose, passes}
use Rattle.cm_groups.specs.Marked.{is_marked}
use Rattle.cm_groups.specs.Reach.{counts, is_default_reached, is_neighbour_reached, is_reached, leads_to, some_current}
use Rattle.cm_groups.specs.Rows.{AreGroups, LeadsWithin}
use Rattle.cm_groups.specs.Targets.{is_marked_reached}
use Rattle.cm_groups.proofs.Has.{has, Contains-from_has, has-from_Contains, passes_is}

range_up : (n : ℕ) → IsStrictlyIncreasing (range_with_len 0 n)
range_up n = λ k h.
    let inside : k + 1 < n = omega (arith, length-range_with_len 0 n) in
    omega (arith, get_or-range_with_len 0 n k 0 (omega arith), get_or-range_with_len 0 n (k + 1) 0 inside)

range_has : (n number : ℕ) → number < n → has (range_with_len 0 n) number ≡ true
range_has n number h =
    let inside : number < length (range_with_len 0 n) = omega (arith, length-range_with_len 0 n) in
    let at : get_or (range_with_len 0 n) number 0 ≡ number = omega (arith, get_or-range_with_len 0 n number 0 h) in
    list_any_at (λ other. other == number) (range_with_len 0 n) number 0 inside (eq-eqb (get_or (range_with_len 0 n) number 0) number at)

kept_have : (test : ℕ → Bool) (n number : ℕ) → has (filter test (range_with_len 0 n)) number ≡ (test number && has (range_with_len 0 n) number)
kept_have test n number = any-filter_same (λ other. other == number) test (test number) (λ other e. ap test (eqb-true other number e)) (range_with_len 0 n)

-- the numbers below a count that pass a test, where no others pass
those_below : (test other : ℕ → Bool) (count : ℕ) (found : List ℕ) → ((number : ℕ) → test number ≡ other number) → ((number : ℕ) → other number ≡ true → number < count)
    → found ≡ filter test (range_with_len 0 count) → AreThose other found
those_below test other count found same within is =
    let kept : (number : ℕ) → has found number ≡ (test number && has (range_with_len 0 count) number) = λ number. ap (λ (xs : List ℕ). has xs number) is ∙ kept_have test count number in
    record {
      rising = subst IsStrictlyIncreasing (sym is) (IsStrictlyIncreasing-filter test (range_with_len 0 count) (range_up count));
      same = λ number. (
        (λ h. sym (same number) ∙ (and_parts (test number) (has (range_with_len 0 count) number) (sym (kept number) ∙ has-from_Contains found number h)).0),
        (λ h. Contains-from_has found number (kept number ∙ (ap (λ (b : Bool). b && has (range_with_len 0 count) number) (same number ∙ h) ∙ range_has count number (within number h)))),
      );
    }

leads_within : (groups : List Group) (elapsed number : ℕ) (current : List ℕ) → AreGroups groups → some_current (leads_to elapsed number) groups current ≡ true → number < length groups
leads_within groups elapsed number current sound h =
    let from = Any-from_list_any (λ one. passes (leads_to elapsed number) groups one) current h in
    let group = passes_is (leads_to elapsed number) groups from.1 from.4 in
    let relation = Any-from_list_any (λ (each : ℕ × Fallback). each.0 == number && counts elapsed each.1) group.0.relations group.2 in
    let same : relation.1.0 ≡ number = eqb-true relation.1.0 number (and_parts (relation.1.0 == number) (counts elapsed relation.1.1) relation.4).0 in
    let there : get_or groups from.1 group.0 ≡ group.0 = get_or_from_slice_get groups from.1 group.0 group.0 group.1 in
    let within : LeadsWithin (length groups) (get_or groups from.1 group.0) = sound.within from.1 group.0 (slice_get_within groups from.1 group.0 group.1) in
    let led : LeadsWithin (length groups) group.0 = subst (λ (g : Group). LeadsWithin (length groups) g) there within in
    let below : relation.1.0 < length groups = subst (λ (r : ℕ × Fallback). r.0 < length groups) relation.3 (led relation.0 relation.1 relation.2) in
    omega arith

some_group : (groups : List Group) → option_map (λ (group : Group). group.boundaries) (slice_get groups 0) ≡ Some [] → 0 < length groups
some_group [] e = absurd (none-some _ e)
some_group (group ∷ groups) e = omega arith

by_case : (z d n : Bool) (P : Type 0) → (z ≡ true → P) → (n ≡ true → P) → cond z d n ≡ true → P
by_case true d n P first second h = first refl
by_case false d n P first second h = second h

reached_within : (groups : List Group) (current : List ℕ) (elapsed : ℕ) (neighbours default : Bool) (number : ℕ) → AreGroups groups
    → is_reached groups current elapsed neighbours default number ≡ true → number < length groups
reached_within groups current elapsed neighbours default number sound =
    by_case (number == 0) (is_default_reached groups current elapsed default) (is_neighbour_reached groups current elapsed neighbours number) (number < length groups)
    (λ e. let zero : number ≡ 0 = eqb-true number 0 e in let some : 0 < length groups = some_group groups sound.first in omega arith)
    (λ h. leads_within groups elapsed number current sound (and_parts (neighbours && not (has current number)) (some_current (leads_to elapsed number) groups current) h).1)

-- reached groups are there
pub reached_there : (groups : List Group) (current : List ℕ) (elapsed : ℕ) (neighbours default : Bool) (numbers : List ℕ) → AreGroups groups
    → AreThose (is_reached groups current elapsed neighbours default) numbers → All (λ number. number < length groups) numbers
reached_there groups current elapsed neighbours default numbers sound those = λ k d h.
    reached_within groups current elapsed neighbours default (get_or numbers k d) sound ((those.same (get_or numbers k d)).0 (Contains-get_or numbers k d h))

-- the numbers by the marks are those of the groups that are reached
pub reached_are : (groups near far : List Group) (current numbers : List ℕ) (elapsed count : ℕ) (neighbours allowed default : Bool) (own targets : List Bool)
    → near ≡ groups → far ≡ groups → count ≡ length groups → AreGroups groups
    → default ≡ is_default_reached near current elapsed allowed
    → ((number : ℕ) → is_marked own number ≡ has current number)
    → ((number : ℕ) → is_marked targets number ≡ some_current (leads_to elapsed number) far current)
    → numbers ≡ filter (is_marked_reached own targets neighbours default) (range_with_len 0 count)
    → AreThose (is_reached groups current elapsed neighbours allowed) numbers
reached_are groups near far current numbers elapsed count neighbours allowed default own targets near_is far_is count_is sound default_is own_is targets_are is =
    those_below (is_marked_reached own targets neighbours default) (is_reached groups current elapsed neighbours allowed) count numbers
    (λ number.
    ap (λ (b : Bool). cond (number == 0) b (neighbours && not (is_marked own number) && is_marked targets number)) (default_is ∙ ap (λ (gs : List Group). is_default_reached gs current elapsed allowed) near_is)
    ∙ (ap (λ (b : Bool). cond (number == 0) (is_default_reached groups current elapsed allowed) (neighbours && not b && is_marked targets number)) (own_is number)
    ∙ ap (λ (b : Bool). cond (number == 0) (is_default_reached groups current elapsed allowed) (neighbours && not (has current number) && b))
    (targets_are number ∙ ap (λ (gs : List Group). some_current (leads_to elapsed number) gs current) far_is)))
    (λ number h. let below : number < length groups = reached_within groups current elapsed neighbours allowed number sound h in omega arith)
    is
