-- Paths that are the same after folding.
use Rattle.std.proofs.Common.{◌≡◌, ℕ, Bool, true, false, cond, ◌||◌, List, [], ◌∷◌, ◌++◌, map, refl, ap, ◌∙◌}
use Rattle.std.proofs.lemmas.Cmp.{eq_by_cmp_equiv, nat_list_cmp_total}
use Rattle.std.proofs.lemmas.List.{map-append}
use Rattle.std.proofs.lemmas.List.Folds.{list_any-append}
use Rattle.cm_tree.specs.Paths.{folded_path, has_path, is_same}

pub same_back : (a b : List ℕ) → is_same a b ≡ is_same b a
same_back a b = (eq_by_cmp_equiv nat_list_cmp_total).symm a b

one_more : (x y : Bool) → (x || (y || false)) ≡ cond y true x
one_more true true = refl
one_more true false = refl
one_more false true = refl
one_more false false = refl

-- one path more
pub has_path-push : (paths : List (List ℕ)) (path q : List ℕ) → has_path (paths ++ path ∷ []) q ≡ cond (is_same path q) true (has_path paths q)
has_path-push paths path q =
    list_any-append (λ other. is_same q other) paths (path ∷ [])
    ∙ (one_more (has_path paths q) (is_same q path)
    ∙ ap (λ b. cond b true (has_path paths q)) (same_back q path))

pub has_folded-push : (paths : List (List ℕ)) (path q : List ℕ)
    → has_path (map folded_path (paths ++ path ∷ [])) q ≡ cond (is_same (folded_path path) q) true (has_path (map folded_path paths) q)
has_folded-push paths path q =
    ap (λ (all : List (List ℕ)). has_path all q) (map-append folded_path paths (path ∷ []))
    ∙ has_path-push (map folded_path paths) (folded_path path) q
