-- The places of names in lists.
use Rattle.std.proofs.Common.{◌≡◌, ℕ, suc, zero, ◌+◌, ◌<◌, ◌≤◌, Bool, true, false, cond, List, [], ◌∷◌, length, take, drop, get_or, Option, None, Some, IfSome, is_some, ◌||◌, nat_lt, refl, sym, ap, ◌∙◌, arith, drop-cons, map, position, ◌++◌}
use Rattle.std.specs.Cmp.{IsEquivalence}
use Rattle.std.specs.List.{cons_option, filter_map, list_any, position_from, find, slice_get}
use Rattle.std.specs.Ordering.{is_eq}
use Rattle.std.specs.declared.cmp.Ordering.{Ordering}
use Rattle.std.specs.Str.{bytes_eq}
use Rattle.std.proofs.lemmas.Iterator.Adapters.{position_from-zero}
use Rattle.std.proofs.lemmas.List.{get_or-map, length-map, take_more}
use Rattle.std.proofs.lemmas.List.Elements.{filter_map-append}
use Rattle.std.proofs.lemmas.List.Quantifiers.{position-Some}
use Rattle.std.proofs.lemmas.Bool.{true≢false}
use Rattle.std.proofs.lemmas.Option.{none-some, same_Some, slice_get-get_or}
use Rattle.cm_groups.specs.Names.{first_places, place_of}

-- the place is found, and before that one
abbrev pub is_below : Option ℕ → ℕ → Bool
is_below None end = false
is_below (Some place) end = nat_lt place end

pub within_by : {K : Type 0} (p : K → Bool) (names : List K) (d : K) (found : Option ℕ) → found ≡ position p names → IfSome found (λ place. place < length names)
within_by p names d None e = tt
within_by p names d (Some place) e = (position-Some p names place d (sym e)).0

pub within : (names : List (List ℕ)) (name : List ℕ) (found : Option ℕ) → found ≡ place_of names name → IfSome found (λ place. place < length names)
within names name found e = within_by (λ other. bytes_eq other name) names [] found e

any_from : {X : Type 0} (p : X → Bool) (n : ℕ) (xs : List X) → is_some (position_from p n xs) ≡ list_any p xs
any_from p n [] = refl
any_from p n (x ∷ xs) = elim (p x) as (λ b. is_some (cond b (Some n) (position_from p (n + 1) xs)) ≡ (b || list_any p xs)) [ true ↦ refl | false ↦ any_from p (n + 1) xs ]

pub among : {K : Type 0} (p : K → Bool) (names : List K) (found : Option ℕ) → found ≡ position p names → is_some found ≡ list_any p names
among p names found e = ap is_some (e ∙ position_from-zero p names) ∙ any_from p 0 names

not_below : (n end : ℕ) → end ≤ n → nat_lt n end ≡ false
not_below n end h = grind arith

is_less : (n end : ℕ) → n < end → nat_lt n end ≡ true
is_less n end h = grind arith

none_below : {X : Type 0} (p : X → Bool) (n : ℕ) (xs : List X) (end : ℕ) → end ≤ n → is_below (position_from p n xs) end ≡ false
none_below p n [] end h = refl
none_below p n (x ∷ xs) end h =
    elim (p x) as (λ b. is_below (cond b (Some n) (position_from p (n + 1) xs)) end ≡ false) [
      | true ↦ not_below n end h
      | false ↦ none_below p (n + 1) xs end (omega arith)
    ]

before_from : {X : Type 0} (p : X → Bool) (n : ℕ) (xs : List X) (end last : ℕ) → last ≡ n + end → is_below (position_from p n xs) last ≡ list_any p (take end xs)
before_from p n [] zero last e = refl
before_from p n [] (suc end) last e = refl
before_from p n (x ∷ xs) zero last e = none_below p n (x ∷ xs) last (omega arith)
before_from p n (x ∷ xs) (suc end) last e =
    elim (p x) as (λ b. is_below (cond b (Some n) (position_from p (n + 1) xs)) last ≡ (b || list_any p (take end xs))) [
      | true ↦ is_less n last (omega arith)
      | false ↦ before_from p (n + 1) xs end last (omega arith)
    ]

pub before : {K : Type 0} (p : K → Bool) (names : List K) (end : ℕ) (found : Option ℕ) → found ≡ position p names → is_below found end ≡ list_any p (take end names)
before p names end found e = ap (λ (o : Option ℕ). is_below o end) (e ∙ position_from-zero p names) ∙ before_from p 0 names end end (omega arith)

-- the map gets the name at the place before those that it has
pub added : {K : Type 0} (same : K → K → Bool) (cmp : K → K → Ordering) → ((x y : K) → same x y ≡ is_eq (cmp x y)) → (names : List K) (place next : ℕ) (name other : K) (old new : Option ℕ)
    → next ≡ place + 1 → place < length names → name ≡ get_or names place name
    → old ≡ position_from (λ each. same each other) next (drop next names)
    → new ≡ cond (is_eq (cmp name other)) (Some place) old
    → new ≡ position_from (λ each. same each other) place (drop place names)
added same cmp ties names place next name other old new e lt is was now =
    let s : suc place ≡ next = omega arith in
    let rest : drop place names ≡ name ∷ drop next names = cc (drop-cons names place name lt) in
    rw rest (cc (now, was, ties name other))

-- the row of a name is at the place that its name has among the names
found_from : {Y : Type 0} (p : List ℕ → Bool) (n k place : ℕ) (rows : List (List ℕ × Y)) → place ≡ n + k
    → position_from p n (map (λ row. row.0) rows) ≡ Some place → find (λ row. p row.0) rows ≡ slice_get rows k
found_from p n k place [] e at = absurd (none-some place at)
found_from {Y} p n zero place (row ∷ rows) e at =
    elim (p row.0) as (λ b. cond b (Some n) (position_from p (n + 1) (map (λ (each : List ℕ × Y). each.0) rows)) ≡ Some place → cond b (Some row) (find (λ (each : List ℕ × Y). p each.0) rows) ≡ Some row) [
      | true ↦ λ _. refl
      | false ↦ λ later. absurd (true≢false (sym (is_less place (n + 1) (omega arith)) ∙ ap (λ (o : Option ℕ). is_below o (n + 1)) (sym later) ∙ none_below p (n + 1) (map (λ (each : List ℕ × Y). each.0) rows) (n + 1) (omega arith)))
    ] at
found_from {Y} p n (suc k) place (row ∷ rows) e at =
    elim (p row.0) as (λ b. cond b (Some n) (position_from p (n + 1) (map (λ (each : List ℕ × Y). each.0) rows)) ≡ Some place → cond b (Some row) (find (λ (each : List ℕ × Y). p each.0) rows) ≡ slice_get rows k) [
      | true ↦ λ here. let same : n ≡ place = same_Some n place here in absurd (omega arith)
      | false ↦ λ later. found_from p (n + 1) k place rows (omega arith) later
    ] at

none_from : {Y : Type 0} (p : List ℕ → Bool) (n : ℕ) (rows : List (List ℕ × Y)) → position_from p n (map (λ row. row.0) rows) ≡ None → find (λ row. p row.0) rows ≡ None
none_from p n [] at = refl
none_from {Y} p n (row ∷ rows) at =
    elim (p row.0) as (λ b. cond b (Some n) (position_from p (n + 1) (map (λ (each : List ℕ × Y). each.0) rows)) ≡ None → cond b (Some row) (find (λ (each : List ℕ × Y). p each.0) rows) ≡ None) [
      | true ↦ λ here. absurd (none-some n (sym here))
      | false ↦ λ later. none_from p (n + 1) rows later
    ] at

pub row_found : {Y : Type 0} (rows : List (List ℕ × Y)) (names : List (List ℕ)) (name : List ℕ) (place : ℕ) (d : List ℕ × Y)
    → names ≡ map (λ row. row.0) rows → Some place ≡ place_of names name → place < length names
    → find (λ row. bytes_eq row.0 name) rows ≡ Some (get_or rows place d)
row_found {Y} rows names name place d are at lt =
    let p : List ℕ → Bool = λ other. bytes_eq other name in
    let first : List ℕ × Y → List ℕ = λ row. row.0 in
    let here : position_from p 0 (map first rows) ≡ Some place = sym (at ∙ position_from-zero p names ∙ ap (λ (xs : List (List ℕ)). position_from p 0 xs) are) in
    let inside : place < length rows = omega (arith, ap length are, length-map rows first) in
    found_from p 0 place place rows (omega arith) here ∙ slice_get-get_or rows place d inside

pub row_missing : {Y : Type 0} (rows : List (List ℕ × Y)) (names : List (List ℕ)) (name : List ℕ)
    → names ≡ map (λ row. row.0) rows → None ≡ place_of names name → find (λ row. bytes_eq row.0 name) rows ≡ None
row_missing {Y} rows names name are at =
    let p : List ℕ → Bool = λ other. bytes_eq other name in
    let first : List ℕ × Y → List ℕ = λ row. row.0 in
    none_from p 0 rows (sym (at ∙ position_from-zero p names ∙ ap (λ (xs : List (List ℕ)). position_from p 0 xs) are))

-- a name that is the same is found at the same place
tests_alike : {K : Type 0} (p q : K → Bool) (n : ℕ) (names : List K) → ((name : K) → p name ≡ q name) → position_from p n names ≡ position_from q n names
tests_alike p q n [] alike = refl
tests_alike p q n (name ∷ names) alike = rw (alike name, tests_alike p q (n + 1) names alike) refl

same_place : {K : Type 0} (same : K → K → Bool) → IsEquivalence same → (names : List K) (one other : K) → same one other ≡ true → position (λ each. same each one) names ≡ position (λ each. same each other) names
same_place {K} same laws names one other e =
    let p : K → Bool = λ each. same each one in
    let q : K → Bool = λ each. same each other in
    position_from-zero p names ∙ (tests_alike p q 0 names (λ each. laws.symm each one ∙ (laws.congr one other each e ∙ laws.symm other each)) ∙ sym (position_from-zero q names))

-- the first place of a name that stands at a likely place
pub near_place : {K : Type 0} (same : K → K → Bool) → IsEquivalence same → (all names : List K) (firsts : List (Option ℕ)) (near : ℕ) (name found : K) (first : Option ℕ)
    → all ≡ names → firsts ≡ first_places same names names → near < length names → found ≡ get_or names near found → same found name ≡ true → first ≡ get_or firsts near first
    → first ≡ position (λ each. same each name) all
near_place {K} same laws all names firsts near name found first seen are lt is e at =
    let p : K → Option ℕ = λ each. position (λ other. same other each) names in
    rw seen (at ∙ (ap (λ (places : List (Option ℕ)). get_or places near first) are ∙ (get_or-map p names near found first lt ∙ (ap p (sym is) ∙ same_place same laws names found name e))))

-- what one name more finds
pub found_more : {X Y : Type 0} (h : X → Option Y) (xs : List X) (i : ℕ) (x : X) (found : List Y) (o : Option Y)
    → i < length xs → x ≡ get_or xs i x → found ≡ filter_map h (take i xs) → o ≡ h x → found ++ cons_option o [] ≡ filter_map h (take (i + 1) xs)
found_more {X} {Y} h xs i x found o lt is was more =
    rw (take_more xs i x lt, ← is, filter_map-append h (take i xs) (x ∷ []), was, more) refl
