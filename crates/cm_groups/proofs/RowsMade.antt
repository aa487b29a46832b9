-- The rows of the lists that groups are made of.
use Rattle.std.proofs.Common.{◌≡◌, ℕ, ◌+◌, List, [], ◌∷◌, ◌++◌, All, length, map, refl, ap, ◌∙◌, subst, sym}
use Rattle.std.specs.List.{range_with_len, zip}
use Rattle.std.proofs.lemmas.List.Elements.{All-cons, All-head, All-map, All-nil, All-tail}
use Rattle.cm_net.specs.declared.boundary.Boundary.{Boundary}
use Rattle.cm_net.specs.Boundaries.{IsSound}
use Rattle.cm_net.specs.Groups.{rows_in}
use Rattle.cm_groups.specs.declared.group.Group.{Group}
use Rattle.cm_groups.specs.declared.group_text.GroupText.{GroupText}
use Rattle.cm_groups.specs.Groups.{default_group, group_of, held_by}
use Rattle.cm_groups.specs.Rows.{rows_from}
use Rattle.cm_groups.proofs.Soundness.{found_sound}

-- lists beside their numbers
pub beside_numbers : (held : List (List Boundary)) (start : ℕ) → map (λ list. list.0) (zip held (range_with_len start (length held))) ≡ held
beside_numbers [] start = refl
beside_numbers (list ∷ held) start = ap (λ (rest : List (List Boundary)). list ∷ rest) (beside_numbers held (start + 1))

rows_numbered : (names : List (List ℕ)) (rows : List (List ℕ × Boundary)) (texts : List GroupText) (start : ℕ)
    → rows_in (zip (map (held_by rows) texts) (range_with_len start (length (map (held_by rows) texts)))) ≡ rows_from start (map (group_of names rows) texts)
rows_numbered names rows [] start = refl
rows_numbered names rows (text ∷ texts) start =
    ap (λ (rest : List (Boundary × ℕ)). map (λ (boundary : Boundary). (boundary, start)) (held_by rows text) ++ rest) (rows_numbered names rows texts (start + 1))

-- the rows of the lists are those of the groups: the default group, which stands before them, has no boundary
pub rows_are : (names points : List (List ℕ)) (rows : List (List ℕ × Boundary)) (texts : List GroupText) (held : List (List Boundary)) (lists : List (List Boundary × ℕ)) (made : List Group)
    → held ≡ map (λ text. held_by rows text) texts → lists ≡ zip held (range_with_len 1 (length held))
    → made ≡ default_group points ∷ map (λ text. group_of names rows text) texts
    → rows_in lists ≡ rows_from 0 made
rows_are names points rows texts held lists made held_are lists_are made_are =
    ap rows_in (lists_are ∙ ap (λ (each : List (List Boundary)). zip each (range_with_len 1 (length each))) held_are)
    ∙ rows_numbered names rows texts 1
    ∙ ap (rows_from 0) (sym made_are)

numbered_sound : (lists : List (List Boundary × ℕ)) → All (All IsSound) (map (λ list. list.0) lists) → All {X = List Boundary × ℕ} (λ list. All IsSound list.0) lists
numbered_sound [] sound = All-nil (λ (list : List Boundary × ℕ). All IsSound list.0)
numbered_sound (list ∷ lists) sound =
    let lefts : List (List Boundary) = map (λ (each : List Boundary × ℕ). each.0) lists in
    All-cons (λ (each : List Boundary × ℕ). All IsSound each.0) list lists (All-head (All IsSound) list.0 lefts sound) (numbered_sound lists (All-tail (All IsSound) list.0 lefts sound))

-- the boundaries of the lists are sound
pub lists_sound : (rows : List (List ℕ × Boundary)) (texts : List GroupText) (lists : List (List Boundary × ℕ)) → map (λ list. list.0) lists ≡ map (λ text. held_by rows text) texts
    → All (λ row. IsSound row.1) rows → All {X = List Boundary × ℕ} (λ list. All IsSound list.0) lists
lists_sound rows texts lists are sound =
    numbered_sound lists (subst (λ (held : List (List Boundary)). All (All IsSound) held) (sym are)
    (All-map (All IsSound) (held_by rows) texts (λ k d inside. found_sound rows _ sound)))
