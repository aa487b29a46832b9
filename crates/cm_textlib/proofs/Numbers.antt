-- Each number has a place of its own.
use Rattle.std.proofs.Common.{◌≡◌, ℕ, zero, suc, ◌+◌, ◌/◌, ◌%◌, ◌^◌, ◌<◌, ◌≤◌, Bool, true, false, List, [], ◌∷◌, length, drop, get_or, refl, sym, ◌∙◌, ap, arith}
use Rattle.std.specs.Prelude.{◌==◌, ◌≢◌, nat_lt, if◌then◌else◌}
use Rattle.std.specs.Fmt.{digit_glyph, digits_onto, digits, decimal}
use Rattle.std.proofs.lemmas.Bool.{eqb-true, eqb-false, ltb-true, ltb-false}
use Rattle.std.proofs.Math.Nat.{pow-suc, lt_trans}
use Rattle.cm_log.specs.declared.shelf.Shelf.{Shelf}
use Rattle.cm_log.specs.declared.shelf.Shelf.TheVariants.{PkgLib, Site}
use Rattle.cm_log.specs.declared.shelf.Side.{Side}
use Rattle.cm_log.specs.declared.shelf.Side.TheVariants.{First, Second}
use Rattle.cm_log.specs.Shelves.{ready_place, log_place}
use Rattle.cm_textlib.specs.Places.{topology_place}

-- the last digit of a number
glyph : ℕ → ℕ
glyph n = digit_glyph false (n % 10)

glyph_is : (n : ℕ) → glyph n ≡ 48 + n % 10
unfolding glyph
glyph_is n = by (nat_lt (n % 10) 10) refl
  where
    by : (b : Bool) → nat_lt (n % 10) 10 ≡ b → digit_glyph false (n % 10) ≡ 48 + n % 10
    by true is = ap (λ (b : Bool). if b then 48 + n % 10 else 87 + n % 10) is
    by false is = let ge = ltb-false (n % 10) 10 is in absurd (omega (arith, ge))

-- one digit and those of the rest, by whether there is a rest
onto_by : ℕ → ℕ → List ℕ → Bool → List ℕ
onto_by k n acc last = if last then glyph n ∷ acc else digits_onto k 10 false (n / 10) (glyph n ∷ acc)

onto-is : (k n : ℕ) (acc : List ℕ) (last : Bool) → (n / 10 == 0) ≡ last → digits_onto (suc k) 10 false n acc ≡ onto_by k n acc last
unfolding onto_by glyph
onto-is k n acc last is = ap (λ (b : Bool). if b then digit_glyph false (n % 10) ∷ acc else digits_onto k 10 false (n / 10) (digit_glyph false (n % 10) ∷ acc)) is

-- digits come in front of what was there
onto_long : (k n : ℕ) (acc : List ℕ) → length acc ≤ length (digits_onto k 10 false n acc)
unfolding onto_by
onto_long zero n acc = omega arith
onto_long (suc k) n acc = by (onto_long k (n / 10) (glyph n ∷ acc)) (n / 10 == 0) refl
  where
    by : length (glyph n ∷ acc) ≤ length (digits_onto k 10 false (n / 10) (glyph n ∷ acc)) → (last : Bool) → (n / 10 == 0) ≡ last → length acc ≤ length (digits_onto (suc k) 10 false n acc)
    by rest true is = omega (arith, ap (λ (l : List ℕ). length l) (onto-is k n acc true is))
    by rest false is = omega (arith, rest, ap (λ (l : List ℕ). length l) (onto-is k n acc false is))

onto_longer : (k n : ℕ) (acc : List ℕ) → 1 + length acc ≤ length (digits_onto (suc k) 10 false n acc)
unfolding onto_by
onto_longer k n acc = by (n / 10 == 0) refl
  where
    by : (last : Bool) → (n / 10 == 0) ≡ last → 1 + length acc ≤ length (digits_onto (suc k) 10 false n acc)
    by true is = omega (arith, ap (λ (l : List ℕ). length l) (onto-is k n acc true is))
    by false is = omega (arith, ap (λ (l : List ℕ). length l) (onto-is k n acc false is), onto_long k (n / 10) (glyph n ∷ acc))

-- the digits of a number that has fewer than there is room for are those of no other number
same_step : (k a b : ℕ) (p q : List ℕ) → length p ≡ length q
    → (b / 10 ≢ 0 → digits_onto (suc k) 10 false (a / 10) (glyph a ∷ p) ≡ digits_onto (suc k) 10 false (b / 10) (glyph b ∷ q) → (a / 10 ≡ b / 10) × (glyph a ∷ p ≡ glyph b ∷ q))
    → digits_onto (suc (suc k)) 10 false a p ≡ digits_onto (suc (suc k)) 10 false b q → (a ≡ b) × (p ≡ q)
unfolding onto_by
same_step k a b p q long rest is = by (a / 10 == 0) (b / 10 == 0) refl refl
  where
    heads : glyph a ∷ p ≡ glyph b ∷ q → (a % 10 ≡ b % 10) × (p ≡ q)
    heads same =
        let first : glyph a ≡ glyph b = cc in
        let behind : p ≡ q = cc in
        let digit : a % 10 ≡ b % 10 = omega (arith, first, glyph_is a, glyph_is b) in
        (digit, behind)

    by : (x y : Bool) → (a / 10 == 0) ≡ x → (b / 10 == 0) ≡ y → (a ≡ b) × (p ≡ q)
    by true true left right =
        let h = heads (sym (onto-is (suc k) a p true left) ∙ is ∙ onto-is (suc k) b q true right) in
        let x = eqb-true (a / 10) 0 left in
        let y = eqb-true (b / 10) 0 right in
        (omega (arith, x, y, h.0), h.1)
    by true false left right =
        let e = ap (λ (l : List ℕ). length l) (sym (onto-is (suc k) a p true left) ∙ is ∙ onto-is (suc k) b q false right) in
        absurd (omega (arith, e, long, onto_longer k (b / 10) (glyph b ∷ q)))
    by false true left right =
        let e = ap (λ (l : List ℕ). length l) (sym (onto-is (suc k) a p false left) ∙ is ∙ onto-is (suc k) b q true right) in
        absurd (omega (arith, e, long, onto_longer k (a / 10) (glyph a ∷ p)))
    by false false left right =
        let r = rest (eqb-false (b / 10) 0 right) (sym (onto-is (suc k) a p false left) ∙ is ∙ onto-is (suc k) b q false right) in
        let h = heads r.1 in
        (omega (arith, r.0, h.0), h.1)

same_digits : (k a b : ℕ) (p q : List ℕ) → length p ≡ length q → b < 10 ^ suc k → digits_onto (suc (suc k)) 10 false a p ≡ digits_onto (suc (suc k)) 10 false b q → (a ≡ b) × (p ≡ q)
same_digits zero a b p q long small is = same_step zero a b p q long (λ some. absurd (some (omega (arith, small)))) is
same_digits (suc k) a b p q long small is =
    let fewer : b / 10 < 10 ^ suc k = omega (arith, small, pow-suc 10 (suc k)) in
    let step : length (glyph a ∷ p) ≡ length (glyph b ∷ q) = omega (arith, long) in
    same_step (suc k) a b p q long (λ some same. same_digits k (a / 10) (b / 10) (glyph a ∷ p) (glyph b ∷ q) step fewer same) is

decimal_own : (a b : ℕ) → b < 2 ^ 32 → decimal a ≡ decimal b → a ≡ b
unfolding digits
decimal_own a b small is = (same_digits 62 a b [] [] refl (lt_trans small (ltb-true (2 ^ 32) (10 ^ 63) refl)) is).0

pub place_own : (a b : ℕ) → b < 2 ^ 32 → topology_place a ≡ topology_place b → a ≡ b
place_own a b small is = decimal_own a b small (ap (λ (l : List ℕ). drop 14 l) is)

-- no place of a log begins as these
pub not_ready : (number : ℕ) (shelf : Shelf) → topology_place number ≡ ready_place shelf → ⊥
not_ready number PkgLib is = let e : 116 ≡ 98 = ap (λ (l : List ℕ). get_or l 5 0) is in absurd (omega (arith, e))
not_ready number Site is = let e : 116 ≡ 114 = ap (λ (l : List ℕ). get_or l 5 0) is in absurd (omega (arith, e))

pub not_log : (number : ℕ) (shelf : Shelf) (side : Side) → topology_place number ≡ log_place shelf side → ⊥
not_log number PkgLib First is = let e : 116 ≡ 98 = ap (λ (l : List ℕ). get_or l 5 0) is in absurd (omega (arith, e))
not_log number PkgLib Second is = let e : 116 ≡ 98 = ap (λ (l : List ℕ). get_or l 5 0) is in absurd (omega (arith, e))
not_log number Site First is = let e : 116 ≡ 108 = ap (λ (l : List ℕ). get_or l 5 0) is in absurd (omega (arith, e))
not_log number Site Second is = let e : 116 ≡ 108 = ap (λ (l : List ℕ). get_or l 5 0) is in absurd (omega (arith, e))
