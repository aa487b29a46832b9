-- An input that is read piece by piece.
use Rattle.std.proofs.Common.{◌≡◌, ℕ, zero, suc, List, [], ◌∷◌, ◌++◌, ◌⊎◌, ◌≤◌, inl, inr, arith, Option, None, Some, refl, sym, ◌∙◌, ap, subst}
use Rattle.std.specs.Prelude.{take, drop, length, option_map}
use Rattle.std.specs.Option.{ForSome}
use Rattle.std.proofs.lemmas.Option.{none-some, same_Some}
use Rattle.cm_base.specs.Streams.{Gives}

both : (n : ℕ) (xs : List ℕ) → take n xs ++ drop n xs ≡ xs
both zero xs = refl
both (suc n) [] = refl
both (suc n) (x ∷ xs) = ap (λ (rest : List ℕ). x ∷ rest) (both n xs)

joined : (xs ys zs : List ℕ) → (xs ++ ys) ++ zs ≡ xs ++ (ys ++ zs)
joined [] ys zs = refl
joined (x ∷ xs) ys zs = ap (λ (rest : List ℕ). x ∷ rest) (joined xs ys zs)

-- the text with what is left is the same
pub goes_on : (old new : Option (List ℕ)) (buffer : List ℕ) (count : ℕ) → Gives old new buffer count → (text more : List ℕ) → more ≡ text ++ take count buffer
    → option_map (λ (left : List ℕ). more ++ left) new ≡ option_map (λ (left : List ℕ). text ++ left) old
goes_on None new buffer count gives text more is = ap (λ (o : Option (List ℕ)). option_map (λ (left : List ℕ). more ++ left) o) gives.left
goes_on (Some bytes) new buffer count gives text more is =
    ap (λ (o : Option (List ℕ)). option_map (λ (left : List ℕ). more ++ left) o) gives.left
    ∙ ap (λ (all : List ℕ). Some all) (
    ap (λ (all : List ℕ). all ++ drop count bytes) (is ∙ ap (λ (xs : List ℕ). text ++ xs) (gives.bytes bytes refl))
    ∙ (joined text (take count bytes) (drop count bytes) ∙ ap (λ (xs : List ℕ). text ++ xs) (both count bytes)))

front : (n : ℕ) (xs ys : List ℕ) → length xs ≡ n → take n (xs ++ ys) ≡ xs
front n [] ys is = subst (λ (m : ℕ). take m ys ≡ []) is refl
front zero (x ∷ xs) ys is = absurd (cc)
front (suc n) (x ∷ xs) ys is = ap (λ (rest : List ℕ). x ∷ rest) (front n xs ys (omega (arith, is)))

all_of : (n : ℕ) (xs : List ℕ) → length xs ≤ n → take n (xs ++ []) ≡ xs
all_of zero [] le = refl
all_of (suc n) [] le = refl
all_of zero (x ∷ xs) le = absurd (omega (arith, le))
all_of (suc n) (x ∷ xs) le = ap (λ (rest : List ℕ). x ∷ rest) (all_of n xs (omega (arith, le)))

-- the text is what was left at the begin, up to so many bytes
pub read_whole : (most : ℕ) (old new : Option (List ℕ)) (text : List ℕ) → option_map (λ (left : List ℕ). text ++ left) new ≡ option_map (λ (left : List ℕ). [] ++ left) old
    → (length text ≡ most) ⊎ ForSome new (λ left. left ≡ []) → length text ≤ most → ForSome old (λ left. text ≡ take most left)
read_whole most None new text kept ended few left told = absurd (none-some left told)
read_whole most (Some bytes) None text kept ended few left told = absurd (cc)
read_whole most (Some bytes) (Some rest) text kept (inl full) few left told =
    sym (ap (take most) (sym (same_Some bytes left told)) ∙ (ap (take most) (sym (same_Some (text ++ rest) bytes kept)) ∙ front most text rest full))
read_whole most (Some bytes) (Some rest) text kept (inr empty) few left told =
    sym (ap (take most) (sym (same_Some bytes left told)) ∙ (ap (take most) (sym (same_Some (text ++ rest) bytes kept)) ∙ (ap (λ (ys : List ℕ). take most (text ++ ys)) (empty rest refl) ∙ all_of most text few)))
