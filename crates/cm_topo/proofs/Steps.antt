-- Steps of lists and of their faults.
use Rattle.std.proofs.Common.{◌≡◌, ℕ, ◌+◌, ◌<◌, ◌∙◌, refl, ap, sym, List, [], ◌∷◌, ◌++◌, drop, get_or, length, map, Some, None}
use Rattle.std.proofs.lemmas.List.{drop_more}
use Rattle.toml.specs.View.{view, items_view}
use Rattle.toml.specs.declared.value.Value.{Value}
use Rattle.cm_topo.specs.Entries.{list_of}
use Rattle.cm_topo.specs.declared.trouble.Trouble.{Trouble}
use Rattle.cm_topo.specs.Troubles.{each_entry, fault_at, first}

-- the items of an array as a list
pub list_of-view : (values : List Value) → list_of (items_view values) ≡ map view values
list_of-view [] = refl
list_of-view (value ∷ values) = ap (λ (ds : List _). view value ∷ ds) (list_of-view values)

-- a list that begins with another one
pub first-none : {X : Type 0} (xs ys : List X) → first xs ≡ None → first (xs ++ ys) ≡ first ys
first-none [] ys none = refl
first-none (x ∷ xs) ys none = cc

pub first-some : {X : Type 0} (xs ys : List X) (x : X) → first xs ≡ Some x → first (xs ++ ys) ≡ Some x
first-some [] ys x some = cc
first-some (y ∷ xs) ys x some = some

-- the same where each of the first is changed
pub first-map-none : {X Y : Type 0} (f : X → Y) (xs : List X) (ys : List Y) → first xs ≡ None → first (map f xs ++ ys) ≡ first ys
first-map-none f [] ys none = refl
first-map-none f (x ∷ xs) ys none = cc

pub first-map-some : {X Y : Type 0} (f : X → Y) (xs : List X) (ys : List Y) (x : X) → first xs ≡ Some x → first (map f xs ++ ys) ≡ Some (f x)
first-map-some f [] ys x some = cc
first-map-some f (y ∷ xs) ys x some = cc

-- a row with which nothing is wrong
pub entry_step : {X : Type 0} (part : ℕ) (troubles : ℕ → X → List Trouble) (entry : ℕ) (rows : List X) (row : X) → entry < length rows → row ≡ get_or rows entry row
    → first (troubles entry row) ≡ None
    → first (each_entry part troubles entry (drop entry rows)) ≡ first (each_entry part troubles (entry + 1) (drop (entry + 1) rows))
entry_step {X} part troubles entry rows row lt is none =
    ap (λ (xs : List X). first (each_entry part troubles entry xs)) (drop_more rows entry row lt ∙ ap (λ (x : X). x ∷ drop (entry + 1) rows) (sym is))
    ∙ first-map-none (fault_at part entry) (troubles entry row) _ none

pub ruleset steps = (list_of-view, first-none, first-some, first-map-none, first-map-some)
