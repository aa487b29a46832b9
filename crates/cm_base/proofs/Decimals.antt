-- A number is written from its last digit on.
use Rattle.std.proofs.Common.{◌≡◌, ℕ, ◌+◌, ◌-◌, ◌/◌, ◌%◌, ◌<◌, ◌≤◌, ◌^◌, List, [], ◌∷◌, ◌++◌, length, drop, set, sym, ◌∙◌, ap, arith, length-append, append_assoc}
use Rattle.std.specs.Fmt.{decimal}
use Rattle.std.proofs.lemmas.Fmt.{decimal_step, decimal_digit, decimal_nonempty}
use Rattle.std.proofs.lemmas.List.{drop-set}

-- a digit before those that stand
before : (out : List ℕ) (at d : ℕ) → 1 ≤ at → at ≤ length out → drop (at - 1) (set out (at - 1) d) ≡ d ∷ drop at out
before out at d some within =
    let back : (at - 1) + 1 ≡ at = omega arith in
    drop-set out (at - 1) d (omega arith) ∙ ap (λ (n : ℕ). d ∷ drop n out) back

pub has_digit : (left : ℕ) → left < 2 ^ 32 → 1 ≤ length (decimal left)
has_digit left small = omega (arith, decimal_nonempty left (omega (arith, small)))

pub one_digit_less : (left : ℕ) → 10 ≤ left → left < 2 ^ 32 → length (decimal left) ≡ length (decimal (left / 10)) + 1
one_digit_less left ten small = ap length (decimal_step left ten (omega (arith, small))) ∙ length-append (decimal (left / 10)) ((48 + left % 10) ∷ [])

pub one_more : (left at : ℕ) (out : List ℕ) → 10 ≤ left → left < 2 ^ 32 → 1 ≤ at → at ≤ length out
    → decimal (left / 10) ++ drop (at - 1) (set out (at - 1) (48 + left % 10)) ≡ decimal left ++ drop at out
one_more left at out ten small some within =
    ap (λ (l : List ℕ). decimal (left / 10) ++ l) (before out at (48 + left % 10) some within)
    ∙ sym (append_assoc (decimal (left / 10)) ((48 + left % 10) ∷ []) (drop at out))
    ∙ ap (λ (l : List ℕ). l ++ drop at out) (sym (decimal_step left ten (omega (arith, small))))

pub last_one : (left at : ℕ) (out : List ℕ) → left < 10 → 1 ≤ at → at ≤ length out → drop (at - 1) (set out (at - 1) (48 + left)) ≡ decimal left ++ drop at out
last_one left at out digit some within = before out at (48 + left) some within ∙ ap (λ (l : List ℕ). l ++ drop at out) (sym (decimal_digit left digit))
