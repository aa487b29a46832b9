-- Two sorted lists with the same elements are one, where elements that tie are equal.
use Rattle.std.proofs.Common.{◌≡◌, ℕ, suc, ◌+◌, ◌<◌, Bool, true, false, cond, List, [], ◌∷◌, All, length, get_or, refl, sym, ap, ◌∙◌, arith, sum_by}
use Rattle.std.specs.Cmp.{IsTotalOrder}
use Rattle.std.specs.List.Sorted.{IsSorted}
use Rattle.std.specs.Ordering.{is_lt, ordering_reverse}
use Rattle.std.specs.declared.cmp.Ordering.{Ordering}
use Rattle.std.specs.declared.cmp.Ordering.TheVariants.{Less, Equal, Greater}
use Rattle.std.proofs.lemmas.List.Elements.{All-head, All-tail}
use Rattle.std.proofs.lemmas.List.Sorted.{ranks_by, sorted_far}
use Rattle.std.proofs.lemmas.List.Sums.{sum_by-cons}

sum_none : {X : Type 0} (f : X → ℕ) (xs : List X) → ((k : ℕ) (d : X) → k < length xs → f (get_or xs k d) ≡ 0) → sum_by f xs ≡ 0
sum_none f [] h = refl
sum_none f (x ∷ xs) h = omega (arith, sum_by-cons f x xs, h 0 x (omega arith), sum_none f xs (λ k d l. h (suc k) d (omega arith)))

-- how often an element stands that is below this one
abbrev below_count : {X : Type 0} → (X → X → Ordering) → X → X → ℕ
below_count R x z = cond (is_lt (R z x)) 1 0

none_below : {X : Type 0} {R : X → X → Ordering} (total : IsTotalOrder R) (x : X) (xs : List X) → IsSorted R (x ∷ xs) → sum_by (below_count R x) (x ∷ xs) ≡ 0
none_below {X} {R} total x xs up =
    sum_none (below_count R x) (x ∷ xs)
    (λ k d l. ap (λ b. cond b 1 0) (sorted_far (λ a b. is_lt (R a b)) (ranks_by total (λ (z : X). z)) (x ∷ xs) up 0 k d (omega arith) l))

not_less : (b : Bool) (rest : ℕ) → cond b 1 0 + rest ≡ 0 → b ≡ false
not_less true rest e = absurd (omega arith)
not_less false rest e = refl

tied : (o p : Ordering) → o ≡ ordering_reverse p → is_lt o ≡ false → is_lt p ≡ false → o ≡ Equal
tied Less p e f g = absurd (cc)
tied Equal p e f g = refl
tied Greater Less e f g = absurd (cc)
tied Greater Equal e f g = absurd (cc)
tied Greater Greater e f g = absurd (cc)

tail_sorted : {X : Type 0} (R : X → X → Ordering) (x : X) (xs : List X) → IsSorted R (x ∷ xs) → IsSorted R xs
tail_sorted R x xs up = λ k d z l. let s : suc k + 1 ≡ suc (k + 1) = omega arith in rw s at (up (suc k) d (omega arith) (omega arith))

pub sorted_once : {X : Type 0} {R : X → X → Ordering} (total : IsTotalOrder R) (P : X → Type 0) (exact : (x y : X) → P x → P y → R x y ≡ Equal → x ≡ y) (xs ys : List X)
    → All P xs → All P ys → IsSorted R xs → IsSorted R ys → ((f : X → ℕ) → sum_by f xs ≡ sum_by f ys) → xs ≡ ys
sorted_once total P exact [] [] all each up over same = refl
sorted_once total P exact [] (y ∷ ys) all each up over same = absurd (omega (arith, same (λ _. 1), sum_by-cons (λ _. 1) y ys))
sorted_once total P exact (x ∷ xs) [] all each up over same = absurd (omega (arith, same (λ _. 1), sum_by-cons (λ _. 1) x xs))
sorted_once {X} {R} total P exact (x ∷ xs) (y ∷ ys) all each up over same =
    let o : IsTotalOrder R = total in
    let one : is_lt (R y x) ≡ false =
    not_less (is_lt (R y x)) (sum_by (below_count R x) ys) (sym (sum_by-cons (below_count R x) y ys) ∙ sym (same (below_count R x)) ∙ none_below total x xs up) in
    let other : is_lt (R x y) ≡ false =
    not_less (is_lt (R x y)) (sum_by (below_count R y) xs) (sym (sum_by-cons (below_count R y) x xs) ∙ same (below_count R y) ∙ none_below total y ys over) in
    let heads : x ≡ y = exact x y (All-head P x xs all) (All-head P y ys each) (tied (R x y) (R y x) (o.antisymm x y) other one) in
    ap (λ z. z ∷ xs) heads
    ∙ ap (λ zs. y ∷ zs) (sorted_once total P exact xs ys (All-tail P x xs all) (All-tail P y ys each) (tail_sorted R x xs up) (tail_sorted R y ys over)
    (λ f.
    let heads_same : f x ≡ f y = ap f heads in
    omega (arith, same f, sum_by-cons f x xs, sum_by-cons f y ys, heads_same)))
