-- Pieces of lists of bytes, and the numbers in them.
use Rattle.std.proofs.Common.{◌≡◌, ℕ, suc, zero, ◌+◌, ◌^◌, ◌<◌, ◌≤◌, Bool, true, false, cond, leb, List, [], ◌∷◌, ◌++◌, length, take, drop, get_or, refl, ap, sym, ◌∙◌, subst, arith, Option, Some, None, append_assoc, take-append-drop, length-drop, length-take-le}
use Rattle.std.proofs.lemmas.List.{drop-drop}
use Rattle.std.specs.Int.{w16, w32, w64, to_le_bytes, from_le_bytes}
use Rattle.std.proofs.lemmas.Bool.{le-leb, leb-true}
use Rattle.std.proofs.lemmas.Nat.{le_bytes_4, le_bytes_8}
use Rattle.cm_pkglib.specs.Changes.{AreBytes, number_4, number_8}

pub take_front : (n : ℕ) (xs ys : List ℕ) → length xs ≡ n → take n (xs ++ ys) ≡ xs
take_front zero [] ys e = refl
take_front (suc n) [] ys e = absurd (omega arith)
take_front zero (x ∷ xs) ys e = absurd (omega arith)
take_front (suc n) (x ∷ xs) ys e = ap (λ t. x ∷ t) (take_front n xs ys (omega arith))

pub drop_front : (n : ℕ) (xs ys : List ℕ) → length xs ≡ n → drop n (xs ++ ys) ≡ ys
drop_front zero [] ys e = refl
drop_front (suc n) [] ys e = absurd (omega arith)
drop_front zero (x ∷ xs) ys e = absurd (omega arith)
drop_front (suc n) (x ∷ xs) ys e = drop_front n xs ys (omega arith)

pub take_whole : (n : ℕ) (xs : List ℕ) → length xs ≡ n → take n xs ≡ xs
take_whole zero [] e = refl
take_whole (suc n) [] e = refl
take_whole zero (x ∷ xs) e = absurd (omega arith)
take_whole (suc n) (x ∷ xs) e = ap (λ t. x ∷ t) (take_whole n xs (omega arith))

-- what stands behind eight bytes
pub behind_8 : (n : ℕ) (id rest : List ℕ) → length id ≡ 8 → drop (8 + n) (id ++ rest) ≡ drop n rest
behind_8 n id rest l = sym (drop-drop n 8 (id ++ rest)) ∙ ap (λ t. drop n t) (drop_front 8 id rest l)

-- bytes from a place on are a piece, and the bytes behind it
pub piece : (n a b : ℕ) (xs : List ℕ) → a + n ≡ b → drop a xs ≡ take n (drop a xs) ++ drop b xs
piece n a b xs e = sym (take-append-drop n (drop a xs)) ∙ ap (λ t. take n (drop a xs) ++ t) (drop-drop n a xs ∙ ap (λ m. drop m xs) e)

pub piece_length : (n at : ℕ) (xs : List ℕ) → at + n ≤ length xs → length (take n (drop at xs)) ≡ n
piece_length n at xs l = length-take-le n (drop at xs) (omega (arith, length-drop at xs))

pub bytes_drop : (n : ℕ) (xs : List ℕ) → AreBytes xs → AreBytes (drop n xs)
bytes_drop zero xs h = h
bytes_drop (suc n) [] h = h
bytes_drop (suc n) (x ∷ xs) h = bytes_drop n xs (λ i. h (suc i))

pub bytes_take : (n : ℕ) (xs : List ℕ) → AreBytes xs → AreBytes (take n xs)
bytes_take zero xs h i = omega arith
bytes_take (suc n) [] h i = omega arith
bytes_take (suc n) (x ∷ xs) h zero = h zero
bytes_take (suc n) (x ∷ xs) h (suc i) = bytes_take n xs (λ j. h (suc j)) i

pub number_fits_2 : (xs : List ℕ) → AreBytes xs → from_le_bytes w16 xs < 2 ^ 16
number_fits_2 xs h = omega (arith, h 0, h 1)

pub number_fits_4 : (xs : List ℕ) → AreBytes xs → from_le_bytes w32 xs < 2 ^ 32
number_fits_4 xs h = omega (arith, h 0, h 1, h 2, h 3)

pub number_fits_8 : (xs : List ℕ) → AreBytes xs → from_le_bytes w64 xs < 2 ^ 64
number_fits_8 xs h = omega (arith, h 0, h 1, h 2, h 3, h 4, h 5, h 6, h 7)

pub number_below_4 : (at : ℕ) (fields : List ℕ) → AreBytes fields → number_4 at fields < 2 ^ 32
number_below_4 at fields h = number_fits_4 (take 4 (drop at fields)) (bytes_take 4 _ (bytes_drop at fields h))

pub number_below_8 : (at : ℕ) (fields : List ℕ) → AreBytes fields → number_8 at fields < 2 ^ 64
number_below_8 at fields h = number_fits_8 (take 8 (drop at fields)) (bytes_take 8 _ (bytes_drop at fields h))

pub number_is_4 : (at : ℕ) (fields : List ℕ) → AreBytes fields → at + 4 ≤ length fields → to_le_bytes w32 (number_4 at fields) ≡ take 4 (drop at fields)
number_is_4 at fields h l = le_bytes_4 (take 4 (drop at fields)) (number_4 at fields) (piece_length 4 at fields l) (bytes_take 4 _ (bytes_drop at fields h)) refl

pub number_is_8 : (at : ℕ) (fields : List ℕ) → AreBytes fields → at + 8 ≤ length fields → to_le_bytes w64 (number_8 at fields) ≡ take 8 (drop at fields)
number_is_8 at fields h l = le_bytes_8 (take 8 (drop at fields)) (number_8 at fields) (piece_length 8 at fields l) (bytes_take 8 _ (bytes_drop at fields h)) refl

-- a number that is at least 1 is taken
pub taken : (n : ℕ) → 1 ≤ n → cond (leb 1 n) (Some n) None ≡ Some n
taken n h = rw (le-leb 1 n h)

pub taken_inv : (n m : ℕ) → cond (leb 1 n) (Some n) None ≡ Some m → (n ≡ m) × (1 ≤ m)
taken_inv n m =
    elim (leb 1 n) as (λ b. leb 1 n ≡ b → cond b (Some n) None ≡ Some m → (n ≡ m) × (1 ≤ m)) [
      | true ↦ λ t e. let s : n ≡ m = cc in (s, subst (λ k. 1 ≤ k) s (leb-true 1 n t))
      | false ↦ λ f e. cc
    ] refl
