-- One entry more.
use Rattle.std.proofs.Common.{◌≡◌, ℕ, ◌+◌, ◌<◌, ◌≤◌, ◌∙◌, refl, sym, ap, append_assoc, List, [], ◌∷◌, ◌++◌, drop, get_or, length, map, Option, Some, None, IfSome, Result, Ok, Err, arith}
use Rattle.std.proofs.lemmas.List.{drop_more}
use Rattle.toml.specs.Data.{Data, as_array}
use Rattle.toml.specs.View.{items_view, view}
use Rattle.toml.specs.declared.value.Value.{Value}
use Rattle.cm_topo.specs.declared.trouble.Trouble.{Trouble}
use Rattle.cm_topo.specs.Entries.{array_rows, before_rows, entry_said, rows_from, rows_said}
use Rattle.cm_topo.specs.Troubles.{result_map}
use Rattle.cm_topo.proofs.Steps.{list_of-view}

next : (values : List Value) (i : ℕ) (value : Value) → i < length values → value ≡ get_or values i value → drop i values ≡ value ∷ drop (i + 1) values
next values i value lt is = drop_more values i value lt ∙ ap (λ (v : Value). v ∷ drop (i + 1) values) (sym is)

joined : {X E : Type 0} (old new : List X) (x : X) (later : Result (List X) E) → new ≡ old ++ x ∷ []
    → result_map (λ xs. old ++ xs) (result_map (λ xs. x ∷ xs) later) ≡ result_map (λ xs. new ++ xs) later
joined old new x (Ok xs) more = rw more (ap (λ (rows : List _). Ok rows) (sym (append_assoc old (x ∷ []) xs)))
joined old new x (Err e) more = refl

-- an entry that gives a row
pub row_more : {X : Type 0} (said : Data → Result X Trouble) (limit : Option ℕ) (entry : ℕ) (values : List Value) (value : Value) (x : X) (old new : List X) (all : Result (List X) (ℕ × Trouble))
    → entry < length values → value ≡ get_or values entry value → entry_said said limit entry (view value) ≡ Ok x → new ≡ old ++ x ∷ []
    → all ≡ result_map (λ xs. old ++ xs) (rows_from said limit entry (map view (drop entry values)))
    → all ≡ result_map (λ xs. new ++ xs) (rows_from said limit (entry + 1) (map view (drop (entry + 1) values)))
row_more {X} said limit entry values value x old new all lt is gives more before =
    let later = rows_from said limit (entry + 1) (map view (drop (entry + 1) values)) in
    before
    ∙ ap (λ (vs : List Value). result_map (λ (xs : List X). old ++ xs) (rows_from said limit entry (map view vs))) (next values entry value lt is)
    ∙ ap (λ (r : Result X Trouble). result_map (λ (xs : List X). old ++ xs) (before_rows entry r later)) gives
    ∙ joined old new x later more

-- an entry with which something is wrong: its number is how many rows stand before it
pub row_wrong : {X : Type 0} (said : Data → Result X Trouble) (limit : Option ℕ) (entry count : ℕ) (values : List Value) (value : Value) (trouble : Trouble) (old : List X) (all : Result (List X) (ℕ × Trouble))
    → entry < length values → value ≡ get_or values entry value → entry_said said limit entry (view value) ≡ Err trouble → count ≡ entry
    → all ≡ result_map (λ xs. old ++ xs) (rows_from said limit entry (map view (drop entry values)))
    → all ≡ Err (count, trouble)
row_wrong {X} said limit entry count values value trouble old all lt is gives same before =
    let later = rows_from said limit (entry + 1) (map view (drop (entry + 1) values)) in
    before
    ∙ ap (λ (vs : List Value). result_map (λ (xs : List X). old ++ xs) (rows_from said limit entry (map view vs))) (next values entry value lt is)
    ∙ ap (λ (r : Result X Trouble). result_map (λ (xs : List X). old ++ xs) (before_rows entry r later)) gives
    ∙ ap (λ (n : ℕ). Err (n, trouble)) (sym same)

-- no limit is below nothing
pub none_full : (limit : Option ℕ) → IfSome limit (λ most. 0 ≤ most)
none_full None = tt
none_full (Some most) = omega arith

-- the array at a key
pub array_read : {X : Type 0} (said : Data → Result X Trouble) (limit : Option ℕ) (at : Option Data) (value : Data) (items values : List Value)
    → Some value ≡ at → Some (items_view items) ≡ as_array value → values ≡ items → rows_said said limit at ≡ rows_from said limit 0 (map view values)
array_read said limit at value items values found is same =
    ap (rows_said said limit) (sym found)
    ∙ ap (array_rows said limit) (sym is)
    ∙ ap (rows_from said limit 0) (list_of-view items ∙ ap (λ (vs : List Value). map view vs) (sym same))
