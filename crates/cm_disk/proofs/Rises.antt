-- Places that rise come nearer to the end.
use Rattle.std.proofs.Common.{◌≡◌, ℕ, zero, suc, ◌+◌, ◌*◌, ◌<◌, ◌≤◌, true, List, [], ◌∷◌, length, refl, ap, subst, arith}
use Rattle.std.specs.Prelude.{None, Some}
use Rattle.std.specs.declared.cmp.Ordering.{Ordering}
use Rattle.std.specs.Ordering.{nat_cmp, is_lt, ordering_then, MatchOrdering}
use Rattle.std.specs.declared.cmp.Ordering.TheVariants.{Less, Equal, Greater}
use Rattle.std.specs.Cmp.Lexicographic.{slice_cmp}
use Rattle.std.proofs.lemmas.Cmp.{ranked, nat_list_cmp_total}
use Rattle.std.proofs.lemmas.Bool.{false≢true}
use Rattle.std.proofs.Math.Nat.{mul-le-mul_left}
use Rattle.hex.specs.Hex.{IsBytes}
use Rattle.cm_disk.specs.Disk.{is_above}
use Rattle.cm_disk.specs.Ranks.{scale, rank, ahead}

some_scale : (most : ℕ) → 0 < scale most
unfolding scale
some_scale zero = omega arith
some_scale (suc most) = omega (arith, some_scale most)

below : (most : ℕ) (text : List ℕ) → IsBytes text → rank most text < scale most
unfolding scale rank
below zero text bytes = omega arith
below (suc most) [] bytes = omega (arith, some_scale most)
below (suc most) (b ∷ text) bytes =
    let rest : rank most text < scale most = below most text (λ i. bytes (suc i)) in
    let first : b < 256 = bytes 0 in
    grind (arith, mul-le-mul_left (scale most) first)

pub less_is : (o : Ordering) → is_lt o ≡ true → o ≡ Less
less_is Less is = refl
less_is Equal is = absurd (false≢true is)
less_is Greater is = absurd (false≢true is)

rises_at : (most a b : ℕ) (p q : List ℕ) (o : Ordering) → o ≡ nat_cmp a b → MatchOrdering o (a < b) (a ≡ b) (b < a) → IsBytes p → rank most p < scale most → (slice_cmp nat_cmp p q ≡ Less → rank most p < rank most q) → ordering_then o (slice_cmp nat_cmp p q) ≡ Less
    → (a + 1) * scale most + rank most p < (b + 1) * scale most + rank most q
rises_at most a b p q Less is lt bytes small rest less = grind (arith, mul-le-mul_left (scale most) lt)
rises_at most a b p q Equal is same bytes small rest less = let r = rest less in subst (λ (c : ℕ). (a + 1) * scale most + rank most p < (c + 1) * scale most + rank most q) same (omega (arith, r))
rises_at most a b p q Greater is gt bytes small rest less = absurd (cc)

rises : (most : ℕ) (p q : List ℕ) → IsBytes p → length p ≤ most → length q ≤ most → slice_cmp nat_cmp p q ≡ Less → rank most p < rank most q
unfolding rank
rises most [] [] bytes short long less = absurd (cc)
rises zero [] (b ∷ q) bytes short long less = absurd (omega arith)
rises (suc most) [] (b ∷ q) bytes short long less = grind (arith, some_scale most)
rises most (a ∷ p) [] bytes short long less = absurd (cc)
rises zero (a ∷ p) (b ∷ q) bytes short long less = absurd (omega arith)
rises (suc most) (a ∷ p) (b ∷ q) bytes short long less =
    rises_at most a b p q (nat_cmp a b) refl (ranked a b (nat_cmp a b) refl) (λ i. bytes (suc i)) (below most p (λ i. bytes (suc i))) (rises most p q (λ i. bytes (suc i)) (omega arith) (omega arith)) less

pub nearer : (p q : List ℕ) → IsBytes p → length p ≤ 120 → length q ≤ 120 → is_above (Some p) q ≡ true → ahead (Some q) < ahead (Some p)
unfolding ahead
nearer p q bytes short long above =
    omega (arith, rises 120 p q bytes short long (less_is _ above), below 120 p bytes)

pub nearer_first : (q : List ℕ) → ahead (Some q) < ahead None
unfolding ahead
nearer_first q = omega arith

-- above one that is above another
pub above_above : (p q r : List ℕ) → is_above (Some p) q ≡ true → is_above (Some q) r ≡ true → is_above (Some p) r ≡ true
above_above p q r one two = ap is_lt (nat_list_cmp_total.trans p q r (less_is _ one) (less_is _ two))
