-- The rows of an index, and the groups that are current.
use Rattle.std.proofs.Math.Bool.{and-false, or-false}
use Rattle.std.proofs.Common.{◌≡◌, ℕ, zero, suc, ◌+◌, ◌<◌, ◌==◌, ◌&&◌, ◌||◌, Bool, true, false, cond, List, [], ◌∷◌, ◌++◌, All, map, filter, get_or, refl, sym, ap, ◌∙◌, arith, Option, None, Some, option_map}
use Rattle.std.specs.List.{list_any, slice_get}
use Rattle.std.specs.Option.{option_map_or}
use Rattle.std.proofs.lemmas.Bool.{eq-eqb, ne_eqb, true≢false}
use Rattle.std.proofs.lemmas.List.{map-append}
use Rattle.std.proofs.lemmas.List.Elements.{filter-append, Contains-get_or}
use Rattle.std.proofs.lemmas.List.Folds.{list_any-append}
use Rattle.std.proofs.lemmas.Option.{same_Some}
use Rattle.cm_net.specs.declared.address.Address.{Address}
use Rattle.cm_net.specs.declared.boundary.Boundary.{Boundary}
use Rattle.cm_net.specs.Boundaries.{holds_address, holds_site, is_inside}
use Rattle.cm_net.specs.Groups.{numbers_of}
use Rattle.cm_groups.specs.declared.group.Group.{Group}
use Rattle.cm_groups.specs.Current.{AreThose, IsThere, holds_client, is_current, passes}
use Rattle.cm_groups.specs.Rows.{AreGroups, rows_from}
use Rattle.cm_groups.proofs.Has.{has, passes_within}

-- a boundary of the group passes
abbrev pub has_one : (Boundary → Bool) → Group → Bool
has_one holds group = list_any holds group.boundaries

-- the group of that number passes, where the first group has this number
abbrev pub passes_from : (Group → Bool) → ℕ → List Group → ℕ → Bool
passes_from test first [] number = false
passes_from test first (group ∷ groups) number = (first == number && test group) || passes_from test (first + 1) groups number

absorbed : (a b : Bool) → (a || (a && b)) ≡ (a && true)
absorbed true b = refl
absorbed false b = refl

one_group : (holds : Boundary → Bool) (first : ℕ) (boundaries : List Boundary) (number : ℕ)
    → has (numbers_of holds (map (λ boundary. (boundary, first)) boundaries)) number ≡ (first == number && list_any holds boundaries)
one_group holds first [] number = sym (and-false (first == number))
one_group holds first (boundary ∷ boundaries) number =
    let rest = one_group holds first boundaries number in
    let kept : List (Boundary × ℕ) = filter (λ (row : Boundary × ℕ). holds row.0) (map (λ (each : Boundary). (each, first)) boundaries) in
    let second : Boundary × ℕ → ℕ = λ row. row.1 in
    elim (holds boundary) as (λ b. has (map second (cond b ((boundary, first) ∷ kept) kept)) number ≡ (first == number && (b || list_any holds boundaries))) [
      | true ↦ ap (λ (b : Bool). first == number || b) rest ∙ absorbed (first == number) (list_any holds boundaries)
      | false ↦ rest
    ]

rows_have : (holds : Boundary → Bool) (first : ℕ) (groups : List Group) (number : ℕ) → has (numbers_of holds (rows_from first groups)) number ≡ passes_from (has_one holds) first groups number
rows_have holds first [] number = refl
rows_have holds first (group ∷ groups) number =
    let front : List (Boundary × ℕ) = map (λ (boundary : Boundary). (boundary, first)) group.boundaries in
    let back : List (Boundary × ℕ) = rows_from (first + 1) groups in
    let test : Boundary × ℕ → Bool = λ row. holds row.0 in
    let second : Boundary × ℕ → ℕ = λ row. row.1 in
    let parts : numbers_of holds (front ++ back) ≡ numbers_of holds front ++ numbers_of holds back =
    ap (map second) (filter-append test front back) ∙ map-append second (filter test front) (filter test back) in
    ap (λ (xs : List ℕ). has xs number) parts
    ∙ list_any-append (λ other. other == number) (numbers_of holds front) (numbers_of holds back)
    ∙ ap (λ (b : Bool). b || has (numbers_of holds back) number) (one_group holds first group.boundaries number)
    ∙ ap (λ (b : Bool). (first == number && has_one holds group) || b) (rows_have holds (first + 1) groups number)

none_before : (test : Group → Bool) (first : ℕ) (groups : List Group) (number : ℕ) → number < first → passes_from test first groups number ≡ false
none_before test first [] number h = refl
none_before test first (group ∷ groups) number h =
    rw (ne_eqb first number (λ e. absurd (omega arith))) (none_before test (first + 1) groups number (omega arith))

pub one_at : (test : Group → Bool) (first place number : ℕ) (groups : List Group) → number ≡ first + place → passes_from test first groups number ≡ passes test groups place
one_at test first place number [] e = refl
one_at test first zero number (group ∷ groups) e =
    rw (eq-eqb first number (omega arith), none_before test (first + 1) groups number (omega arith)) (or-false (test group))
one_at test first (suc place) number (group ∷ groups) e =
    rw (ne_eqb first number (λ same. absurd (omega arith))) (one_at test (first + 1) place number groups (omega arith))

either : (f g : Group → Bool) (found : Option Group) → (option_map_or f found false || option_map_or g found false) ≡ option_map_or (λ group. f group || g group) found false
either f g None = refl
either f g (Some group) = refl

shuffled : (a b c d : Bool) → ((a || b) || (c || d)) ≡ ((a || c) || (b || d))
shuffled true b c d = refl
shuffled false true true d = refl
shuffled false true false d = refl
shuffled false false c d = refl

any_either : (f g : Boundary → Bool) (xs : List Boundary) → (list_any f xs || list_any g xs) ≡ list_any (λ x. f x || g x) xs
any_either f g [] = refl
any_either f g (x ∷ xs) = shuffled (f x) (list_any f xs) (g x) (list_any g xs) ∙ ap (λ (b : Bool). (f x || g x) || b) (any_either f g xs)

agree : (f g : Group → Bool) → ((group : Group) → f group ≡ g group) → (found : Option Group) → option_map_or f found false ≡ option_map_or g found false
agree f g same None = refl
agree f g same (Some group) = same group

-- the numbers by address and those by site are the current groups
pub current_has : (rows : List (Boundary × ℕ)) (groups : List Group) (address : Address) (site : Option (List ℕ)) (number : ℕ) → rows ≡ rows_from 0 groups
    → has (numbers_of (λ boundary. holds_address boundary address) rows ++ numbers_of (λ boundary. holds_site boundary site) rows) number ≡ is_current groups address site number
current_has rows groups address site number are =
    let f : Boundary → Bool = λ boundary. holds_address boundary address in
    let g : Boundary → Bool = λ boundary. holds_site boundary site in
    let found = slice_get groups number in
    rw are
    (list_any-append (λ other. other == number) (numbers_of f (rows_from 0 groups)) (numbers_of g (rows_from 0 groups))
    ∙ ap (λ (b : Bool). b || has (numbers_of g (rows_from 0 groups)) number) (rows_have f 0 groups number ∙ one_at (has_one f) 0 number number groups (omega arith))
    ∙ ap (λ (b : Bool). passes (has_one f) groups number || b) (rows_have g 0 groups number ∙ one_at (has_one g) 0 number number groups (omega arith))
    ∙ either (has_one f) (has_one g) found
    ∙ agree (λ group. has_one f group || has_one g group) (holds_client address site) (λ group. any_either f g group.boundaries) found)

no_boundary : (address : Address) (site : Option (List ℕ)) (found : Option Group) → option_map (λ (group : Group). group.boundaries) found ≡ Some [] → option_map_or (holds_client address site) found false ≡ false
no_boundary address site None e = refl
no_boundary address site (Some group) e =
    let none : group.boundaries ≡ [] = same_Some group.boundaries [] e in
    ap (list_any (λ (boundary : Boundary). is_inside boundary address site)) none

-- current groups are there, and none is the default one
pub current_there : (groups : List Group) (address : Address) (site : Option (List ℕ)) (numbers : List ℕ) → AreGroups groups → AreThose (is_current groups address site) numbers → All (IsThere groups) numbers
current_there groups address site numbers sound those = λ k d h.
    let number = get_or numbers k d in
    let passed : is_current groups address site number ≡ true = (those.same number).0 (Contains-get_or numbers k d h) in
    let apart : number ≡ 0 → ⊥ = λ zero. true≢false (sym passed ∙ ap (is_current groups address site) zero ∙ no_boundary address site (slice_get groups 0) sound.first) in
    (grind (arith, apart), passes_within (holds_client address site) groups number passed)
