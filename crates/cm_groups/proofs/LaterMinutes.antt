-- What counts after some minutes counts after more.
use Rattle.std.proofs.Common.{◌≡◌, ℕ, ◌≤◌, ◌==◌, ◌&&◌, ◌||◌, not, nat_le, Bool, true, false, cond, IsTrue, List, [], ◌∷◌, length, arith, Option, None, Some, inl, inr}
use Rattle.std.specs.List.{list_any, slice_get}
use Rattle.std.specs.Option.{option_map_or}
use Rattle.std.proofs.lemmas.Bool.{and_parts, and_from, or_cases, or_left, or_right, leb-true, le-leb}
use Rattle.cm_groups.specs.declared.fallback.Fallback.{Fallback}
use Rattle.cm_groups.specs.declared.fallback.Fallback.TheVariants.{Never, After}
use Rattle.cm_groups.specs.declared.group.Group.{Group}
use Rattle.cm_groups.specs.Reach.{counts, has_relation, is_default_reached, is_neighbour_reached, is_reached, leads_to, leads_to_default, some_current}
use Rattle.cm_groups.proofs.Has.{has}

still_counts : (elapsed later : ℕ) (fallback : Fallback) → elapsed ≤ later → counts elapsed fallback ≡ true → counts later fallback ≡ true
still_counts elapsed later Never more h = h
still_counts elapsed later (After minutes) more h = let first = leb-true minutes elapsed h in le-leb minutes later (omega arith)

any_still : {X : Type 0} (p q : X → Bool) → ((x : X) → p x ≡ true → q x ≡ true) → (xs : List X) → list_any p xs ≡ true → list_any q xs ≡ true
any_still p q still [] h = h
any_still p q still (x ∷ xs) h =
    elim (or_cases (p x) (list_any p xs) h) as (λ _. (q x || list_any q xs) ≡ true) [
      | inl here ↦ or_left (q x) (list_any q xs) (still x here)
      | inr there ↦ or_right (q x) (list_any q xs) (any_still p q still xs there)
    ]

still_leads : (elapsed later number : ℕ) (group : Group) → elapsed ≤ later → leads_to elapsed number group ≡ true → leads_to later number group ≡ true
still_leads elapsed later number group more =
    any_still (λ (relation : ℕ × Fallback). relation.0 == number && counts elapsed relation.1) (λ (relation : ℕ × Fallback). relation.0 == number && counts later relation.1)
    (λ relation h.
    let parts = and_parts (relation.0 == number) (counts elapsed relation.1) h in
    and_from (relation.0 == number) (counts later relation.1) parts.0 (still_counts elapsed later relation.1 more parts.1))
    group.relations

either_still : (own : Bool) (a b c d : Bool) → (a ≡ true → b ≡ true) → (c ≡ true → d ≡ true) → cond own a c ≡ true → cond own b d ≡ true
either_still true a b c d first second h = first h
either_still false a b c d first second h = second h

still_leads_to_default : (elapsed later : ℕ) (group : Group) → elapsed ≤ later → leads_to_default elapsed group ≡ true → leads_to_default later group ≡ true
still_leads_to_default elapsed later group more =
    either_still (has_relation 0 group) (leads_to elapsed 0 group) (leads_to later 0 group) (nat_le 120 elapsed) (nat_le 120 later)
    (still_leads elapsed later 0 group more)
    (λ h. let first = leb-true 120 elapsed h in le-leb 120 later (omega arith))

still_passes : (f g : Group → Bool) → ((group : Group) → f group ≡ true → g group ≡ true) → (found : Option Group) → option_map_or f found false ≡ true → option_map_or g found false ≡ true
still_passes f g still None h = h
still_passes f g still (Some group) h = still group h

still_some : (f g : Group → Bool) → ((group : Group) → f group ≡ true → g group ≡ true) → (groups : List Group) (current : List ℕ) → some_current f groups current ≡ true → some_current g groups current ≡ true
still_some f g still groups current =
    any_still (λ number. option_map_or f (slice_get groups number) false) (λ number. option_map_or g (slice_get groups number) false)
    (λ number h. still_passes f g still (slice_get groups number) h) current

default_still : (groups : List Group) (current : List ℕ) (elapsed later : ℕ) (allowed : Bool) → elapsed ≤ later → is_default_reached groups current elapsed allowed ≡ true → is_default_reached groups current later allowed ≡ true
default_still groups current elapsed later allowed more h =
    let parts = and_parts allowed (length current == 0 || some_current (leads_to_default elapsed) groups current) h in
    and_from allowed (length current == 0 || some_current (leads_to_default later) groups current) parts.0
    (elim (or_cases (length current == 0) (some_current (leads_to_default elapsed) groups current) parts.1) as (λ _. (length current == 0 || some_current (leads_to_default later) groups current) ≡ true) [
      | inl none ↦ or_left (length current == 0) (some_current (leads_to_default later) groups current) none
      | inr one ↦ or_right (length current == 0) (some_current (leads_to_default later) groups current)
          (still_some (leads_to_default elapsed) (leads_to_default later) (λ group. still_leads_to_default elapsed later group more) groups current one)
    ])

neighbour_still : (groups : List Group) (current : List ℕ) (elapsed later : ℕ) (allowed : Bool) (number : ℕ) → elapsed ≤ later
    → is_neighbour_reached groups current elapsed allowed number ≡ true → is_neighbour_reached groups current later allowed number ≡ true
neighbour_still groups current elapsed later allowed number more h =
    let free = allowed && not (has current number) in
    let parts = and_parts free (some_current (leads_to elapsed number) groups current) h in
    and_from free (some_current (leads_to later number) groups current) parts.0
    (still_some (leads_to elapsed number) (leads_to later number) (λ group. still_leads elapsed later number group more) groups current parts.1)

-- a group that is reached after some minutes is reached after more
pub reached_still : (groups : List Group) (current : List ℕ) (elapsed later : ℕ) (neighbours default : Bool) (number : ℕ) → elapsed ≤ later
    → IsTrue (is_reached groups current elapsed neighbours default number) → IsTrue (is_reached groups current later neighbours default number)
reached_still groups current elapsed later neighbours default number more =
    either_still (number == 0) (is_default_reached groups current elapsed default) (is_default_reached groups current later default)
    (is_neighbour_reached groups current elapsed neighbours number) (is_neighbour_reached groups current later neighbours number)
    (default_still groups current elapsed later default more)
    (neighbour_still groups current elapsed later neighbours number more)
