-- Eight groups from fewer.
use Rattle.std.proofs.Common.{◌≡◌, ℕ, ◌+◌, ◌-◌, ◌*◌, ◌^◌, ◌≤◌, List, [], ◌∷◌, ◌++◌, length, take, drop, replicate, refl, sym, ap, ◌∙◌, arith, append_assoc, length-append, length-drop, pow-suc, zero, suc}
use Rattle.std.proofs.Math.Seq.{take-append-add}
use Rattle.std.proofs.Math.ListN.{drop_of_length-le}
use Rattle.std.proofs.lemmas.List.{append-nil, drop-replicate, take-replicate, length-replicate}
use borrow.Rule.Slice.PartMut.{put_mid}
use Rattle.std.specs.List.{fold}
use Rattle.std.proofs.lemmas.List.Sums.{fold-append}
use Rattle.cm_net.specs.Numbers.{number6}

spread_zeros : (left : List ℕ) (k : ℕ) → length left + k ≤ 8 → take (length left + k) (left ++ drop (length left) (replicate 8 0)) ≡ left ++ replicate k 0
spread_zeros left k few =
    take-append-add left (drop (length left) (replicate 8 0)) k
    ∙ ap (λ (t : List ℕ). left ++ t) (ap (λ (t : List ℕ). take k t) (drop-replicate (length left) 8 0) ∙ take-replicate k (8 - length left) 0 (omega arith))

spread_front : (left : List ℕ) (n : ℕ) → length left + n ≤ 8 → take (8 - n) (left ++ drop (length left) (replicate 8 0)) ≡ left ++ replicate (8 - (length left + n)) 0
spread_front left n few =
    let place : 8 - n ≡ length left + (8 - (length left + n)) = omega arith in
    ap (λ (i : ℕ). take i (left ++ drop (length left) (replicate 8 0))) place ∙ spread_zeros left (8 - (length left + n)) (omega arith)

spread_long : (left : List ℕ) → length left ≤ 8 → length (left ++ drop (length left) (replicate 8 0)) ≤ 8
spread_long left few =
    let rest : length (drop (length left) (replicate {A = ℕ} 8 0)) ≡ 8 - length left = ap (λ (t : List ℕ). length t) (drop-replicate (length left) 8 0) ∙ length-replicate (8 - length left) 0 in
    omega (arith, length-append left (drop (length left) (replicate 8 0)), rest)

pub spread_is : (left right ls rs : List ℕ) → length left + length right ≤ 8 → ls ≡ left → rs ≡ right
    → put_mid (8 - length right) (8 - (8 - length right)) (ls ++ drop (length left) (replicate 8 0)) rs ≡ left ++ (replicate (8 - (length left + length right)) 0 ++ right)
spread_is left right ls rs few p q =
    let xs : List ℕ = left ++ drop (length left) (replicate 8 0) in
    let end : drop (8 - (8 - length right)) (drop (8 - length right) xs) ≡ [] =
    drop_of_length-le (drop (8 - length right) xs) (omega (arith, spread_long left (omega arith), length-drop (8 - length right) xs)) in
    let front = spread_front left (length right) few in
    rw (p, q, end, front, append-nil) (append_assoc left (replicate (8 - (length left + length right)) 0) right)

one_more : (n x p m : ℕ) → (n * 65536 + x) * p + m ≡ n * (p * 65536) + ((0 * 65536 + x) * p + m)
one_more n x p m = omega arith

-- a number, and further groups behind it
pub fold6 : (n : ℕ) (xs : List ℕ) → fold (λ m g. m * 65536 + g) n xs ≡ n * 65536 ^ length xs + number6 xs
fold6 n [] = omega arith
fold6 n (x ∷ xs) =
    let power : 65536 ^ suc (length xs) ≡ 65536 ^ length xs * 65536 = pow-suc 65536 (length xs) in
    fold6 (n * 65536 + x) xs
    ∙ (one_more n x (65536 ^ length xs) (number6 xs)
    ∙ (ap (λ (m : ℕ). n * (65536 ^ length xs * 65536) + m) (sym (fold6 (0 * 65536 + x) xs))
    ∙ ap (λ (q : ℕ). n * q + number6 (x ∷ xs)) (sym power)))

number6-append : (xs ys : List ℕ) → number6 (xs ++ ys) ≡ number6 xs * 65536 ^ length ys + number6 ys
number6-append xs ys = fold-append (λ (m g : ℕ). m * 65536 + g) 0 xs ys ∙ fold6 (number6 xs) ys

number6-zeros : (k : ℕ) → number6 (replicate k 0) ≡ 0
number6-zeros zero = refl
number6-zeros (suc k) = number6-zeros k

pub number6-spread : (left right : List ℕ) → length left + length right ≤ 8
    → number6 (left ++ (replicate (8 - (length left + length right)) 0 ++ right)) ≡ number6 left * 65536 ^ (8 - length left) + number6 right
number6-spread left right few =
    let k : ℕ = 8 - (length left + length right) in
    let long : length (replicate k 0 ++ right) ≡ 8 - length left = length-append (replicate k 0) right ∙ omega (arith, length-replicate {A = ℕ} k 0) in
    let tail : number6 (replicate k 0 ++ right) ≡ number6 right =
    number6-append (replicate k 0) right ∙ grind (arith, number6-zeros k) in
    number6-append left (replicate k 0 ++ right) ∙ rw (long, tail) refl

pub number6-push : (xs : List ℕ) (x : ℕ) → number6 (xs ++ x ∷ []) ≡ number6 xs * 65536 + x
number6-push xs x = fold-append (λ (m g : ℕ). m * 65536 + g) 0 xs (x ∷ [])

pub gap_value : (left right l r groups : List ℕ) (n : ℕ) → length left + length right ≤ 8 → l ≡ left → r ≡ right
    → groups ≡ l ++ (replicate (8 - (length l + length r)) 0 ++ r) → n ≡ number6 groups
    → n ≡ number6 left * 65536 ^ (8 - length left) + number6 right
gap_value left right l r groups n few p q is value =
    rw (value, is, p, q) (number6-spread left right few)

pub last_value : (left right more l r groups : List ℕ) (x n : ℕ) → length left + length right ≤ 7 → more ≡ right ++ x ∷ [] → l ≡ left → r ≡ more
    → groups ≡ l ++ (replicate (8 - (length l + length r)) 0 ++ r) → n ≡ number6 groups
    → n ≡ number6 left * 65536 ^ (8 - length left) + (number6 right * 65536 + x)
last_value left right more l r groups x n few add p q is value =
    gap_value left (right ++ x ∷ []) l r groups n (omega (arith, length-append right (x ∷ []))) p (q ∙ add) is value
    ∙ ap (λ (m : ℕ). number6 left * 65536 ^ (8 - length left) + m) (number6-push right x)
