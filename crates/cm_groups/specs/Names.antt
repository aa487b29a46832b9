-- Lists of names, and where a name stands in them.
use Rattle.std.specs.Prelude.{◌≡◌, ℕ, Bool, List, Option, map, take, position}
use Rattle.std.specs.List.{list_any}
use Rattle.std.specs.declared.cmp.Ordering.{Ordering}
use Rattle.std.specs.BTreeMap.{BTreeMap, get}
use Rattle.std.specs.Str.{bytes_eq}

-- the place of the first entry that has the name
abbrev pub place_of : List (List ℕ) → List ℕ → Option ℕ
place_of names name = position (λ other. bytes_eq other name) names

-- an entry has the name
abbrev pub is_among : List (List ℕ) → List ℕ → Bool
is_among names name = list_any (λ other. bytes_eq other name) names

-- an entry before that place has the name
abbrev pub is_before : List (List ℕ) → ℕ → List ℕ → Bool
is_before names end name = is_among (take end names) name

-- the map has the first place of each name that there is, and no other name
abbrev pub HasPlaces : {K : Type 0} → (K → K → Bool) → (K → K → Ordering) → List K → BTreeMap K ℕ → Type 0
HasPlaces {K} same cmp names places = (name : K) → get cmp places name ≡ position (λ other. same other name) names

-- for each of these names the first place among the names
abbrev pub first_places : {K : Type 0} → (K → K → Bool) → List K → List K → List (Option ℕ)
first_places {K} same names these = map (λ name. position (λ other. same other name) names) these
