-- The entries of an array, read one after another.
use Rattle.std.specs.Prelude.{ℕ, ◌+◌, nat_le, Bool, false, List, [], ◌∷◌, Option, Some, None, Result, Ok, Err, if◌then◌else◌}
use Rattle.toml.specs.Data.{Data, Items, no_items, item, as_array}
use Rattle.cm_topo.specs.declared.trouble.Trouble.{Trouble}
use Rattle.cm_topo.specs.declared.trouble.Trouble.TheVariants.{Shape, Broken}
use Rattle.cm_topo.specs.Rules.{too_many}
use Rattle.cm_topo.specs.Troubles.{result_map, result_map_err}

-- so many entries stand before that there may be no further one; there may be any number of some
abbrev pub is_full : Option ℕ → ℕ → Bool
is_full None entry = false
is_full (Some limit) entry = nat_le limit entry

-- the entry of that number: first the limit, then what it says
abbrev pub entry_said : {X : Type 0} → (Data → Result X Trouble) → Option ℕ → ℕ → Data → Result X Trouble
entry_said said limit entry d = if is_full limit entry then Err (Broken too_many) else said d

-- the row of the entry of that number before those of the later ones
abbrev pub before_rows : {X : Type 0} → ℕ → Result X Trouble → Result (List X) (ℕ × Trouble) → Result (List X) (ℕ × Trouble)
before_rows entry (Ok x) later = result_map (λ xs. x ∷ xs) later
before_rows entry (Err trouble) later = Err (entry, trouble)

-- the rows of entries of which the first has this number, or the number of the first entry that is wrong, and what is wrong with it
abbrev pub rows_from : {X : Type 0} → (Data → Result X Trouble) → Option ℕ → ℕ → List Data → Result (List X) (ℕ × Trouble)
rows_from said limit entry [] = Ok []
rows_from said limit entry (d ∷ ds) = before_rows entry (entry_said said limit entry d) (rows_from said limit (entry + 1) ds)

-- the items of an array as a list
abbrev pub list_of : Items → List Data
list_of no_items = []
list_of (item d ds) = d ∷ list_of ds

-- the rows of an array, which must be one
abbrev pub array_rows : {X : Type 0} → (Data → Result X Trouble) → Option ℕ → Option Items → Result (List X) (ℕ × Trouble)
array_rows said limit None = Err (0, Shape)
array_rows said limit (Some items) = rows_from said limit 0 (list_of items)

-- the rows of the array at a key, none where it is absent
abbrev pub rows_said : {X : Type 0} → (Data → Result X Trouble) → Option ℕ → Option Data → Result (List X) (ℕ × Trouble)
rows_said said limit None = Ok []
rows_said said limit (Some value) = array_rows said limit (as_array value)

-- the same, where all stands in one entry
abbrev pub list_said : {X : Type 0} → (Data → Result X Trouble) → Option ℕ → Option Data → Result (List X) Trouble
list_said said limit value = result_map_err (λ wrong. wrong.1) (rows_said said limit value)
