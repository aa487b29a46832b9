-- How spellings grow.
use Rattle.std.proofs.Common.{◌≡◌, ℕ, ◌+◌, ◌-◌, ◌*◌, ◌/◌, ◌%◌, ◌^◌, ◌<◌, ◌≤◌, List, [], ◌∷◌, ◌++◌, length, Some, refl, sym, ap, ◌∙◌, arith, append_assoc, length-append, pow-suc, zero, suc, inl, inr}
use Rattle.std.proofs.Math.Nat.{pow-zero, div-lt_iff_lt-mul, mod-lt, mod-eq_of_lt}
use Rattle.std.proofs.lemmas.Bool.{cases_lt, lt-ltb, le-ltb, le-leb, lt-leb}
use Rattle.std.proofs.lemmas.Nat.{div-add-mod'}
use Rattle.cm_net.specs.Addresses.{decimal, hex_of, hex_from, IsPart, IsGroup, Joined, IsFour, IsSix}
use Rattle.cm_net.proofs.SixTexts.{hex_more}
use Rattle.cm_net.specs.Spellings.{hex_digit, hex_digits, hex_count, hexadecimal, joined_text}

pub joined_again : (item : ℕ → List ℕ) (sep base k n : ℕ) → 1 < k → joined_text item sep base k n ≡ joined_text item sep base (k - 1) (n / base) ++ sep ∷ item (n % base)
joined_again item sep base zero n some = absurd (omega (arith, some))
joined_again item sep base (suc zero) n some = absurd (omega (arith, some))
joined_again item sep base (suc (suc k)) n some = let same : suc (suc k) - 1 ≡ suc k = omega arith in rw same refl

-- one text, a separator and another text, added in turn
pub grown : (old a b c front last whole : List ℕ) (sep : ℕ) → a ≡ old ++ front → b ≡ a ++ sep ∷ [] → c ≡ b ++ last → whole ≡ front ++ sep ∷ last → c ≡ old ++ whole
grown old a b c front last whole sep p q r is =
    r ∙ (ap (λ (x : List ℕ). x ++ last) q ∙ (append_assoc a (sep ∷ []) last
    ∙ (ap (λ (x : List ℕ). x ++ sep ∷ last) p ∙ (append_assoc old front (sep ∷ last) ∙ ap (λ (x : List ℕ). old ++ x) (sym is)))))

-- ---- what is written is a text of the grammar, for that number

low_digit : (d : ℕ) → d < 10 → hex_of (hex_digit d) ≡ Some d
low_digit d low = rw (lt-ltb d 10 low, le-leb 48 (48 + d) (omega arith), le-leb (48 + d) 57 (omega arith)) (ap (λ (m : ℕ). Some m) (omega arith))

high_digit : (d : ℕ) → 10 ≤ d → d < 16 → hex_of (hex_digit d) ≡ Some d
high_digit d large low =
    rw (le-ltb d 10 large, le-leb 48 (87 + d) (omega arith), lt-leb (87 + d) 57 (omega arith), le-leb 97 (87 + d) (omega arith), le-leb (87 + d) 102 (omega arith)) (ap (λ (m : ℕ). Some m) (omega arith))

digit_reads : (d : ℕ) → d < 16 → hex_of (hex_digit d) ≡ Some d
digit_reads d low = elim (cases_lt d 10) [ inl small ↦ low_digit d small | inr large ↦ high_digit d large low ]

pub digits_spell : (k n : ℕ) → n < 16 ^ k → hex_from 0 (hex_digits k n) ≡ Some n
digits_spell zero n small = ap (λ (m : ℕ). Some m) (omega (arith, small))
digits_spell (suc k) n small =
    let power : 16 ^ suc k ≡ 16 ^ k * 16 = pow-suc 16 k in
    let high : n / 16 < 16 ^ k = omega (arith, small, power) in
    let digit : hex_of (hex_digit (n % 16)) ≡ Some (n % 16) = digit_reads (n % 16) (omega arith) in
    hex_more 0 (hex_digits k (n / 16)) (n / 16) (hex_digit (n % 16)) (n % 16) (digits_spell k (n / 16) high) digit
    ∙ ap (λ (m : ℕ). Some m) (omega arith)

length-digits : (k n : ℕ) → length (hex_digits k n) ≡ k
length-digits zero n = refl
length-digits (suc k) n = length-append (hex_digits k (n / 16)) (hex_digit (n % 16) ∷ []) ∙ omega (arith, length-digits k (n / 16))

count_fits : (n : ℕ) → n < 65536 → (1 ≤ hex_count n) × (hex_count n ≤ 4) × (n < 16 ^ hex_count n)
count_fits n small =
    elim (cases_lt n 16) [
      | inl one ↦ rw (lt-ltb n 16 one) (omega arith, omega arith, one)
      | inr more ↦ elim (cases_lt n 256) [
        | inl two ↦ rw (le-ltb n 16 more, lt-ltb n 256 two) (omega arith, omega arith, two)
        | inr further ↦ elim (cases_lt n 4096) [
          | inl three ↦ rw (le-ltb n 16 more, le-ltb n 256 further, lt-ltb n 4096 three) (omega arith, omega arith, three)
          | inr last ↦ rw (le-ltb n 16 more, le-ltb n 256 further, le-ltb n 4096 last) (omega arith, omega arith, small)
        ]
      ]
    ]

pub group_spelled : (n : ℕ) → n < 65536 → IsGroup (hexadecimal n) n
group_spelled n small =
    let count = count_fits n small in
    record {
      some = omega (arith, length-digits (hex_count n) n, count.0);
      few = omega (arith, length-digits (hex_count n) n, count.1);
      spelled = digits_spell (hex_count n) n count.2;
    }

pub part_spelled : (n : ℕ) → n < 256 → IsPart (decimal n) n
part_spelled n small = record { small = small; spelled = refl }

module _ (Item : List ℕ → ℕ → Type 0) (item : ℕ → List ℕ) (separator base : ℕ) (pos : 0 < base) (spells : (n : ℕ) → n < base → Item (item n) n) where
  pub joined_spelled : (k n : ℕ) → n < base ^ suc k → Joined Item separator base (suc k) (joined_text item separator base (suc k) n) n
  joined_spelled zero n small =
      let power : base ^ suc 0 ≡ base ^ 0 * base = pow-suc base 0 in
      let one : base ^ 0 ≡ 1 = pow-zero base in
      let below : n < base = omega (arith, rw (power, one) at small) in
      let same : n % base ≡ n = mod-eq_of_lt below in
      rw same (spells n below)
  joined_spelled (suc k) n small =
      let power : base ^ suc (suc k) ≡ base ^ suc k * base = pow-suc base (suc k) in
      let high : n / base < base ^ suc k = (div-lt_iff_lt-mul {k = base} {x = n} {y = base ^ suc k} pos).1 (rw power at small) in
      let low : n % base < base = mod-lt n pos in
      let whole : n ≡ n / base * base + n % base = sym (div-add-mod' n base) in
      (joined_text item separator base (suc k) (n / base), item (n % base), n / base, n % base, joined_spelled k (n / base) high, spells (n % base) low, refl, whole)

pub four_spelled : (n : ℕ) → n < 2 ^ 32 → IsFour (joined_text decimal 46 256 4 n) n
four_spelled n small = joined_spelled IsPart decimal 46 256 (omega arith) part_spelled 3 n small

pub six_spelled : (n : ℕ) → n < 2 ^ 128 → IsSix (joined_text hexadecimal 58 65536 8 n) n
six_spelled n small = inl (joined_spelled IsGroup hexadecimal 58 65536 (omega arith) group_spelled 7 n small)
