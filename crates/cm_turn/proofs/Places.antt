-- Entries with their places.
use Rattle.std.proofs.Common.{◌≡◌, ◌≢◌, ℕ, suc, ◌+◌, ◌≤◌, ◌<◌, ◌==◌, ltb, List, [], ◌∷◌, ◌++◌, length, refl, sym, ap, ap₂, ◌∙◌, subst, arith, append_assoc, lt_of_not-le, eq-eqb, ne_eqb, add-zero}
use Rattle.std.proofs.lemmas.Bool.{lt-ltb, le-ltb}
use mathlib.Core.Option.{some, some-injective}
use mathlib.Core.Logic.{dite}
use native.Mathlib.Decide.{dec_le, ℕ_discrete}
use lib.ListN.{get_elem?}
use Rattle.atomic_table.proofs.Lists.{at_last, at_longer}
use Rattle.cm_turn.specs.Lists.{Each, one_if, IsRising, StandIn, count_at, put_in, merge_of, placed_from}
use Rattle.cm_turn.proofs.Fronts.{at_short}

pub is_here : (p : ℕ) → one_if (p == p) ≡ 1
is_here p = ap one_if (eq-eqb p p refl)

pub is_else : (k p : ℕ) → k ≢ p → one_if (k == p) ≡ 0
is_else k p n = ap one_if (ne_eqb k p n)

pub is_below : (p k : ℕ) → p < k → one_if (ltb p k) ≡ 1
is_below p k h = ap one_if (lt-ltb p k h)

pub is_not_below : (p k : ℕ) → k ≤ p → one_if (ltb p k) ≡ 0
is_not_below p k h = ap one_if (le-ltb p k h)

pub below_suc : (p k : ℕ) → one_if (k == p) + one_if (ltb p k) ≡ one_if (ltb p (suc k))
below_suc p k = dite (dec_le (suc p) k)
    (λ h. let a = is_else k p (λ e. omega (arith, h, e)) in let b = is_below p k h in let c = is_below p (suc k) (omega (arith, h)) in omega (arith, a, b, c))
    (λ n. let h : k < suc p = lt_of_not-le n in let b = is_not_below p k (omega (arith, h)) in dite (ℕ_discrete k p)
    (λ e. let a = ap one_if (eq-eqb k p e) in let c = is_below p (suc k) (omega (arith, e)) in omega (arith, a, b, c))
    (λ ne. let a = is_else k p ne in let c = is_not_below p (suc k) (omega (arith, h, ne)) in omega (arith, a, b, c)))

later : (n k : ℕ) → n + suc k ≡ suc n + k
later n k = omega arith

module _ {E : Type 0} where
  pub count_at_append : (p : ℕ) (xs ys : List (ℕ × E)) → count_at p (xs ++ ys) ≡ count_at p xs + count_at p ys
  count_at_append p [] ys = omega arith
  count_at_append p (x ∷ xs) ys = let h = count_at_append p xs ys in omega (arith, h)

  pub count_at_put : (p : ℕ) (y : ℕ × E) (xs : List (ℕ × E)) → count_at p (put_in y xs) ≡ one_if (y.0 == p) + count_at p xs
  count_at_put p y [] = refl
  count_at_put p y (x ∷ xs) = let h = count_at_put p y xs in dite (dec_le y.0 x.0)
      (λ le. rw (le-ltb x.0 y.0 le) refl)
      (λ n. rw (lt-ltb x.0 y.0 (lt_of_not-le n)) (omega (arith, h)))

  pub count_at_merge : (p : ℕ) (xs ys : List (ℕ × E)) → count_at p (merge_of xs ys) ≡ count_at p xs + count_at p ys
  count_at_merge p xs [] = omega arith
  count_at_merge p xs (y ∷ ys) = let h = count_at_merge p xs ys in let k = count_at_put p y (merge_of xs ys) in omega (arith, h, k)

  pub count_at_placed : (p k : ℕ) (l : List E) → count_at p (placed_from k l) + one_if (ltb p k) ≡ one_if (ltb p (k + length l))
  count_at_placed p k [] = let q = ap (λ n. one_if (ltb p n)) (sym (add-zero k)) in omega (arith, q)
  count_at_placed p k (e ∷ l) =
      let h = count_at_placed p (suc k) l in
      let c = below_suc p k in
      let same : suc k + length l ≡ k + suc (length l) = omega arith in
      let d = ap (λ n. one_if (ltb p n)) same in
      omega (arith, h, c, d)

  pub rising_weaker : (m n : ℕ) (xs : List (ℕ × E)) → m ≤ n → IsRising n xs → IsRising m xs
  rising_weaker m n [] h r = tt
  rising_weaker m n (x ∷ xs) h r = let a = r.0 in (omega (arith, h, a), r.1)

  pub rising_above : (n p : ℕ) (xs : List (ℕ × E)) → p < n → IsRising n xs → count_at p xs ≡ 0
  rising_above n p [] h r = refl
  rising_above n p (x ∷ xs) h r =
      let a = r.0 in
      let b = is_else x.0 p (λ e. omega (arith, h, a, e)) in
      let c = rising_above (suc x.0) p xs (omega (arith, h, a)) r.1 in
      omega (arith, b, c)

  pub put_rising : (n : ℕ) (y : ℕ × E) (xs : List (ℕ × E)) → n ≤ y.0 → count_at y.0 xs ≡ 0 → IsRising n xs → IsRising n (put_in y xs)
  put_rising n y [] h a r = (h, tt)
  put_rising n y (x ∷ xs) h a r = dite (dec_le y.0 x.0)
      (λ le.
      let ne : x.0 ≢ y.0 = λ e. (let q = ap one_if (eq-eqb x.0 y.0 e) in omega (arith, a, q)) in
      rw (le-ltb x.0 y.0 le) (h, (omega (arith, le, ne), r.1)))
      (λ n'. let lt : x.0 < y.0 = lt_of_not-le n' in rw (lt-ltb x.0 y.0 lt) (r.0, put_rising (suc x.0) y xs lt (omega (arith, a)) r.1))

  pub merge_rising : (n : ℕ) (xs ys : List (ℕ × E)) → IsRising n xs → IsRising n ys → ((p : ℕ) → count_at p xs + count_at p ys ≤ 1) → IsRising n (merge_of xs ys)
  merge_rising n xs [] a b once = a
  merge_rising n xs (y ∷ ys) a b once =
      let t = merge_rising n xs ys a (rising_weaker n (suc y.0) ys (let u = b.0 in omega (arith, u)) b.1) (λ p. let q = once p in omega (arith, q)) in
      let q = once y.0 in
      let here = is_here y.0 in
      let c = count_at_merge y.0 xs ys in
      put_rising n y (merge_of xs ys) b.0 (omega (arith, q, here, c)) t

  each_put : (P : ℕ × E → Type 0) (y : ℕ × E) (xs : List (ℕ × E)) → P y → Each P xs → Each P (put_in y xs)
  each_put P y [] a b = (a, tt)
  each_put P y (x ∷ xs) a b = dite (dec_le y.0 x.0)
      (λ le. rw (le-ltb x.0 y.0 le) (a, b))
      (λ n. rw (lt-ltb x.0 y.0 (lt_of_not-le n)) (b.0, each_put P y xs a b.1))

  pub each_merge : (P : ℕ × E → Type 0) (xs ys : List (ℕ × E)) → Each P xs → Each P ys → Each P (merge_of xs ys)
  each_merge P xs [] a b = a
  each_merge P xs (y ∷ ys) a b = each_put P y (merge_of xs ys) b.0 (each_merge P xs ys a b.1)

  placed_rising : (n k : ℕ) (l : List E) → n ≤ k → IsRising n (placed_from k l)
  placed_rising n k [] h = tt
  placed_rising n k (e ∷ l) h = (h, placed_rising (suc k) (suc k) l (omega arith))

  pub rising_append : (n : ℕ) (xs : List (ℕ × E)) (log l : List E) → n ≤ length log → IsRising n xs → StandIn log xs → IsRising n (xs ++ placed_from (length log) l)
  rising_append n [] log l h r s = placed_rising n (length log) l h
  rising_append n (x ∷ xs) log l h r s = (r.0, rising_append (suc x.0) xs log l (at_short log x.0 x.1 s.0) r.1 s.1)

  snoc_length : (m : List E) (d : E) → length (m ++ d ∷ []) ≡ suc (length m)
  snoc_length [] d = refl
  snoc_length (x ∷ xs) d = ap suc (snoc_length xs d)

  pub placed_stand : (log l : List E) → StandIn (log ++ l) (placed_from (length log) l)
  placed_stand log [] = tt
  placed_stand log (e ∷ l) =
      let q : log ++ e ∷ l ≡ (log ++ e ∷ []) ++ l = sym (append_assoc log (e ∷ []) l) in
      let first : get_elem? (log ++ e ∷ l) (length log) ≡ some e = ap (λ (m : List E). get_elem? m (length log)) q ∙ at_longer (log ++ e ∷ []) l (length log) e (at_last log e (length log) refl) in
      let t = placed_stand (log ++ e ∷ []) l in
      (first, subst (λ (m : List E). StandIn m (placed_from (suc (length log)) l)) (sym q) (subst (λ n. StandIn ((log ++ e ∷ []) ++ l) (placed_from n l)) (snoc_length log e) t))

  -- own entries that rise, stand in the list from its place n on and have each place of it once, are all of it
  pub owned : (n : ℕ) (before l : List E) (own : List (ℕ × E)) → length before ≡ n → IsRising n own → StandIn (before ++ l) own
      → ((p : ℕ) → count_at p own + one_if (ltb p n) ≡ one_if (ltb p (n + length l))) → own ≡ placed_from n l
  owned n before [] [] len r s once = refl
  owned n before [] (x ∷ xs) len r s once =
      let a = once x.0 in
      let b = is_here x.0 in
      let low = r.0 in
      let c = is_not_below x.0 (n + 0) (omega (arith, low)) in
      absurd (omega (arith, a, b, c))
  owned n before (e ∷ l) [] len r s once =
      let a = once n in
      let b = is_not_below n n (omega arith) in
      let c = is_below n (n + suc (length l)) (omega arith) in
      absurd (omega (arith, a, b, c))
  owned n before (e ∷ l) (x ∷ xs) len r s once =
      let a = once n in
      let b = is_not_below n n (omega arith) in
      let c = is_below n (n + suc (length l)) (omega arith) in
      let low = r.0 in
      let here : x.0 ≡ n = dite (ℕ_discrete x.0 n) (λ q. q)
      (λ ne. let d = is_else x.0 n ne in let f = rising_above (suc x.0) n xs (omega (arith, low, ne)) r.1 in absurd (omega (arith, a, b, c, d, f))) in
      let q : before ++ e ∷ l ≡ (before ++ e ∷ []) ++ l = sym (append_assoc before (e ∷ []) l) in
      let first : get_elem? (before ++ e ∷ l) x.0 ≡ some e =
      ap (λ i. get_elem? (before ++ e ∷ l) i) here ∙ ap (λ (m : List E). get_elem? m n) q ∙ at_longer (before ++ e ∷ []) l n e (at_last before e n len) in
      let entry : x.1 ≡ e = some-injective x.1 e (sym s.0 ∙ first) in
      let rest = owned (suc n) (before ++ e ∷ []) l xs (snoc_length before e ∙ ap suc len) (subst (λ i. IsRising (suc i) xs) here r.1) (subst (λ (m : List E). StandIn m xs) q s.1)
      (λ p.
      let f = once p in
      let g = below_suc p n in
      let h = ap (λ i. one_if (i == p)) here in
      let i = ap (λ j. one_if (ltb p j)) (later n (length l)) in
      omega (arith, f, g, h, i)) in
      ap₂ (λ (i : ℕ) (d : E). (i, d) ∷ xs) here entry ∙ ap (λ (m : List (ℕ × E)). (n, e) ∷ m) rest
