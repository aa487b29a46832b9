-- Names that stand twice.
use Rattle.std.proofs.Common.{◌≡◌, ℕ, suc, ◌+◌, ◌<◌, Bool, ◌||◌, List, [], ◌∷◌, length, drop, get_or, map, refl, ap, ◌∙◌, arith, drop-cons, ◌-◌, take, sym, length-drop}
use Rattle.std.proofs.Math.Seq.{take-length}
use Rattle.std.specs.List.{list_any}
use Rattle.std.specs.Str.{bytes_eq}
use Rattle.cm_groups.specs.Names.{is_among}
use Rattle.cm_groups.specs.Texts.{has_repeat}

pub any_map : {X Y : Type 0} (p : Y → Bool) (f : X → Y) (xs : List X) → list_any p (map f xs) ≡ list_any (λ x. p (f x)) xs
any_map p f [] = refl
any_map p f (x ∷ xs) = ap (λ (b : Bool). p (f x) || b) (any_map p f xs)

-- whether a name stands twice, from one on
pub repeat_here : {Y : Type 0} (rows : List (List ℕ × Y)) (i : ℕ) (row : List ℕ × Y) (later : Bool)
    → i < length rows → row ≡ get_or rows i row
    → later ≡ list_any (λ other. bytes_eq other.0 row.0) (take (length rows - (i + 1)) (drop (i + 1) rows))
    → has_repeat (map (λ each. each.0) (drop i rows)) ≡ (later || has_repeat (map (λ each. each.0) (drop (i + 1) rows)))
repeat_here {Y} rows i row later lt is e =
    let s : suc i ≡ i + 1 = omega arith in
    let rest : drop i rows ≡ row ∷ drop (i + 1) rows = cc (drop-cons rows i row lt) in
    let whole : take (length rows - (i + 1)) (drop (i + 1) rows) ≡ drop (i + 1) rows = ap (λ (n : ℕ). take n (drop (i + 1) rows)) (sym (length-drop (i + 1) rows)) ∙ take-length (drop (i + 1) rows) in
    let first : List ℕ × Y → List ℕ = λ each. each.0 in
    let test : is_among (map first (drop (i + 1) rows)) row.0 ≡ later = cc (any_map (λ other. bytes_eq other row.0) first (drop (i + 1) rows)) in
    rw rest (ap (λ (b : Bool). b || has_repeat (map first (drop (i + 1) rows))) test)
