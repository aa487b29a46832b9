-- What is found of the boundaries that groups name.
use Rattle.std.proofs.Common.{◌≡◌, ℕ, suc, ◌<◌, ◌≤◌, Bool, true, false, not, cond, ◌||◌, nat_lt, List, [], ◌∷◌, length, map, Option, None, Some, option_map, is_some, refl, ap, sym, ◌∙◌, arith}
use Rattle.std.specs.List.{cons_option, filter_map, find, list_any, zip}
use Rattle.std.specs.Str.{bytes_eq}
use Rattle.cm_net.specs.declared.boundary.Boundary.{Boundary}
use Rattle.cm_groups.specs.declared.fallback.Fallback.{Fallback}
use Rattle.cm_groups.specs.declared.group.Group.{Group}
use Rattle.cm_groups.specs.declared.group_text.GroupText.{GroupText}
use Rattle.cm_groups.specs.Groups.{boundary_of, default_group, group_of, group_with, held_by, leads_by}
use Rattle.cm_groups.specs.Names.{is_among}
use Rattle.cm_groups.specs.Texts.{names_of_rows}

-- a name is found exactly where it is there
there : (rows : List (List ℕ × Boundary)) (name : List ℕ) → is_among (names_of_rows rows) name ≡ is_some (boundary_of rows name)
there [] name = refl
there (row ∷ rows) name =
    let second : List ℕ × Boundary → Boundary = λ each. each.1 in
    elim (bytes_eq row.0 name) as (λ b. (b || is_among (names_of_rows rows) name) ≡ is_some (option_map second (cond b (Some row) (find (λ (each : List ℕ × Boundary). bytes_eq each.0 name) rows)))) [
      | true ↦ refl
      | false ↦ there rows name
    ]

at_most : (rows : List (List ℕ × Boundary)) (names : List (List ℕ)) → length (filter_map (boundary_of rows) names) ≤ length names
at_most rows [] = omega arith
at_most rows (name ∷ names) =
    let held = filter_map (boundary_of rows) names in
    elim (boundary_of rows name) as (λ o. length (cons_option o held) ≤ length (name ∷ names)) [
      | None ↦ omega (arith, at_most rows names)
      | Some boundary ↦ omega (arith, at_most rows names)
    ]

is_less : (n m : ℕ) → n < m → nat_lt n m ≡ true
is_less n m h = grind arith

both_more : (n m : ℕ) → nat_lt (suc n) (suc m) ≡ nat_lt n m
both_more n m = grind arith

one_more : (found : Option Boundary) (held : List Boundary) (names : List (List ℕ)) (later : Bool) → length held ≤ length names → nat_lt (length held) (length names) ≡ later
    → nat_lt (length (cons_option found held)) (suc (length names)) ≡ (not (is_some found) || later)
one_more None held names later few is = is_less (length held) (suc (length names)) (omega (arith, few))
one_more (Some boundary) held names later few is = both_more (length held) (length names) ∙ is

-- fewer are found than are named exactly where one is not there
pub lacking : (rows : List (List ℕ × Boundary)) (names : List (List ℕ))
    → nat_lt (length (filter_map (boundary_of rows) names)) (length names) ≡ list_any (λ name. not (is_among (names_of_rows rows) name)) names
lacking rows [] = refl
lacking rows (name ∷ names) =
    let held = filter_map (boundary_of rows) names in
    one_more (boundary_of rows name) held names _ (at_most rows names) (lacking rows names)
    ∙ ap (λ (b : Bool). not b || list_any (λ (each : List ℕ). not (is_among (names_of_rows rows) each)) names) (sym (there rows name))

-- the groups that are joined of texts, of what they hold and of where they lead
pub joined_all : (names : List (List ℕ)) (rows : List (List ℕ × Boundary)) (texts : List GroupText)
    → map (λ row. group_with row.0.0 row.0.1 row.1) (zip (zip texts (map (λ text. held_by rows text) texts)) (map (λ text. leads_by names text) texts)) ≡ map (λ text. group_of names rows text) texts
joined_all names rows [] = refl
joined_all names rows (text ∷ texts) = ap (λ (groups : List Group). group_of names rows text ∷ groups) (joined_all names rows texts)

-- lists beside their numbers are joined as they are
joined_lists : (texts : List GroupText) (lists : List (List Boundary × ℕ)) (leads : List (List (ℕ × Fallback)))
    → map (λ row. group_with row.0.0 row.0.1.0 row.1) (zip (zip texts lists) leads) ≡ map (λ row. group_with row.0.0 row.0.1 row.1) (zip (zip texts (map (λ list. list.0) lists)) leads)
joined_lists [] lists leads = refl
joined_lists (text ∷ texts) [] leads = refl
joined_lists (text ∷ texts) (list ∷ lists) [] = refl
joined_lists (text ∷ texts) (list ∷ lists) (lead ∷ leads) = ap (λ (groups : List Group). group_with text list.0 lead ∷ groups) (joined_lists texts lists leads)

-- the groups of texts, behind the default group
pub all_made : (names points : List (List ℕ)) (rows : List (List ℕ × Boundary)) (texts near : List GroupText) (lists : List (List Boundary × ℕ)) (leads : List (List (ℕ × Fallback))) (first : Group) (made : List Group)
    → map (λ list. list.0) lists ≡ map (λ text. held_by rows text) texts → near ≡ texts → leads ≡ map (λ text. leads_by names text) near
    → made ≡ map (λ row. group_with row.0.0 row.0.1.0 row.1) (zip (zip texts lists) leads) → first ≡ default_group points
    → first ∷ made ≡ default_group points ∷ map (λ text. group_of names rows text) texts
all_made names points rows texts near lists leads first made held_are same leads_are made_are first_is =
    let join : (GroupText × List Boundary) × List (ℕ × Fallback) → Group = λ row. group_with row.0.0 row.0.1 row.1 in
    let holds : GroupText → List Boundary = λ text. held_by rows text in
    let lead : GroupText → List (ℕ × Fallback) = λ text. leads_by names text in
    let all : made ≡ map (λ text. group_of names rows text) texts =
    made_are
    ∙ joined_lists texts lists leads
    ∙ ap (λ (each : List (List Boundary)). map join (zip (zip texts each) leads)) held_are
    ∙ ap (λ (each : List (List (ℕ × Fallback))). map join (zip (zip texts (map holds texts)) each)) (leads_are ∙ ap (λ (given : List GroupText). map lead given) same)
    ∙ joined_all names rows texts in
    ap (λ (group : Group). group ∷ made) first_is ∙ ap (λ (groups : List Group). default_group points ∷ groups) all
