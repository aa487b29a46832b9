-- Paths that rise.
use Rattle.std.proofs.Common.{◌≡◌, ℕ, suc, ◌-◌, Bool, true, false, ◌&&◌, ◌||◌, not, cond, map, List, [], ◌∷◌, ◌++◌, length, Some, refl, sym, ap, ◌∙◌, arith}
use Rattle.std.specs.List.{slice_get}
use Rattle.std.proofs.lemmas.Bool.{and_parts, and_from, or_parts, not-true, not_from_false}
use Rattle.std.proofs.lemmas.List.{map-append}
use Rattle.std.proofs.lemmas.List.Folds.{list_any-append}
use Rattle.cm_tree.specs.declared.entry.Entry.{Entry}
use Rattle.cm_tree.specs.Paths.{is_before, is_same, is_rising, has_path, is_distinct, is_apart, folded_path}
use Rattle.cm_tree.proofs.Folding.{has_path-push}
use Rattle.cm_tree.specs.Manifests.{paths_of}
use Rattle.cm_tree.specs.Reading.{is_behind}

-- what stands behind the last stands behind them all
pub is_behind-last : (before : List Entry) (last : Entry) (path : List ℕ) → Some last ≡ slice_get before (length before - 1) → is_behind (paths_of before) path ≡ is_before last.path path
is_behind-last [] last path at = absurd cc
is_behind-last (a ∷ []) last path at = let e : last ≡ a = cc in ap (λ (x : Entry). is_before x.path path) (sym e)
is_behind-last (a ∷ b ∷ rest) last path at = is_behind-last (b ∷ rest) last path (at ∙ ap (λ k. slice_get (a ∷ b ∷ rest) k) (less rest))
  where
    less : (rest : List Entry) → length (a ∷ b ∷ rest) - 1 ≡ suc (length (b ∷ rest) - 1)
    less rest = omega arith

two_more : (a x y : Bool) → (a && (x && y)) ≡ ((a && x) && y)
two_more true x y = refl
two_more false x y = refl

and_true : (x : Bool) → (x && true) ≡ x
and_true true = refl
and_true false = refl

-- one path more
pub is_rising-push : (paths : List (List ℕ)) (path : List ℕ) → is_rising (paths ++ path ∷ []) ≡ (is_rising paths && is_behind paths path)
is_rising-push [] path = refl
is_rising-push (a ∷ []) path = and_true (is_before a path)
is_rising-push (a ∷ b ∷ rest) path = ap (λ x. is_before a b && x) (is_rising-push (b ∷ rest) path) ∙ two_more (is_before a b) (is_rising (b ∷ rest)) (is_behind (b ∷ rest) path)

pub rising_push : (paths : List (List ℕ)) (path : List ℕ) → is_rising paths ≡ true → is_behind paths path ≡ true → is_rising (paths ++ path ∷ []) ≡ true
rising_push paths path up behind = is_rising-push paths path ∙ and_from (is_rising paths) (is_behind paths path) up behind

pub rising_front : (a b : List (List ℕ)) → is_rising (a ++ b) ≡ true → is_rising a ≡ true
rising_front [] b up = refl
rising_front (x ∷ []) b up = refl
rising_front (x ∷ y ∷ a) b up =
    let parts = and_parts (is_before x y) (is_rising ((y ∷ a) ++ b)) up in
    and_from (is_before x y) (is_rising (y ∷ a)) parts.0 (rising_front (y ∷ a) b parts.1)

pub rising_last : (paths : List (List ℕ)) (path : List ℕ) → is_rising (paths ++ path ∷ []) ≡ true → is_behind paths path ≡ true
rising_last paths path up = (and_parts (is_rising paths) (is_behind paths path) (sym (is_rising-push paths path) ∙ up)).1

mixed : (p q r s : Bool) → (not (cond p true q) && (r && not s)) ≡ ((not q && r) && not (p || s))
mixed true true true true = refl
mixed true true true false = refl
mixed true true false true = refl
mixed true true false false = refl
mixed true false true true = refl
mixed true false true false = refl
mixed true false false true = refl
mixed true false false false = refl
mixed false true true true = refl
mixed false true true false = refl
mixed false true false true = refl
mixed false true false false = refl
mixed false false true true = refl
mixed false false true false = refl
mixed false false false true = refl
mixed false false false false = refl

pub is_distinct-push : (paths : List (List ℕ)) (path : List ℕ) → is_distinct (paths ++ path ∷ []) ≡ (is_distinct paths && not (has_path paths path))
is_distinct-push [] path = refl
is_distinct-push (a ∷ rest) path =
    ap (λ b. not b && is_distinct (rest ++ path ∷ [])) (has_path-push rest path a)
    ∙ (ap (λ b. not (cond (is_same path a) true (has_path rest a)) && b) (is_distinct-push rest path)
    ∙ mixed (is_same path a) (has_path rest a) (is_distinct rest) (has_path rest path))

distinct_front : (a b : List (List ℕ)) → is_distinct (a ++ b) ≡ true → is_distinct a ≡ true
distinct_front [] b h = refl
distinct_front (x ∷ a) b h =
    let parts = and_parts (not (has_path (a ++ b) x)) (is_distinct (a ++ b)) h in
    let none : has_path (a ++ b) x ≡ false = not-true _ parts.0 in
    let fewer = or_parts (has_path a x) (has_path b x) (sym (list_any-append (λ other. is_same x other) a b) ∙ none) in
    and_from (not (has_path a x)) (is_distinct a) (not_from_false _ fewer.0) (distinct_front a b parts.1)

apart_is : (paths : List (List ℕ)) (path : List ℕ) → is_apart (paths ++ path ∷ []) ≡ (is_apart paths && not (has_path (map folded_path paths) (folded_path path)))
apart_is paths path = ap is_distinct (map-append folded_path paths (path ∷ [])) ∙ is_distinct-push (map folded_path paths) (folded_path path)

pub apart_push : (paths : List (List ℕ)) (path : List ℕ) → is_apart paths ≡ true → has_path (map folded_path paths) (folded_path path) ≡ false → is_apart (paths ++ path ∷ []) ≡ true
apart_push paths path apart fresh = apart_is paths path ∙ and_from (is_apart paths) (not (has_path (map folded_path paths) (folded_path path))) apart (not_from_false _ fresh)

pub apart_front : (a b : List (List ℕ)) → is_apart (a ++ b) ≡ true → is_apart a ≡ true
apart_front a b h = distinct_front (map folded_path a) (map folded_path b) (ap is_distinct (sym (map-append folded_path a b)) ∙ h)

pub apart_last : (paths : List (List ℕ)) (path : List ℕ) → is_apart (paths ++ path ∷ []) ≡ true → has_path (map folded_path paths) (folded_path path) ≡ false
apart_last paths path h = not-true _ (and_parts (is_apart paths) (not (has_path (map folded_path paths) (folded_path path))) (sym (apart_is paths path) ∙ h)).1
