-- Texts are read as the numbers whose decimal digits they are.
use Rattle.std.proofs.Common.{◌≡◌, ◌≢◌, ◌<◌, ◌≤◌, ◌^◌, ◌↔◌, ◌&&◌, ℕ, Bool, true, false, cond, nat_le, List, length, get_or, None, Some, Result, Ok, Err, refl, sym, ◌∙◌, ap, subst, suc, zero, arith}
use Rattle.std.specs.Fmt.{decimal}
use Rattle.std.specs.Str.{bytes_eq}
use Rattle.std.specs.Str.Parse.{AllDigits, digits_value, ParsesUnsigned}
use Rattle.std.proofs.lemmas.Bool.{and_parts, and_from, leb-true, le-leb}
use Rattle.std.proofs.lemmas.Fmt.{decimal_is_IsNumeral, decimal_digit, first_decimal, decimal-digits_value, parse-decimal}
use Rattle.std.proofs.lemmas.Option.{none-some}
use Rattle.std.proofs.lemmas.Result.{OkIff-at_ok}
use Rattle.std.proofs.lemmas.Slice.Eq.{bytes_eq-Decides}
use Rattle.std.proofs.lemmas.Str.Parse.{IsNumeralModel, numerals_by_value, tells_digits, not_in_digits, parse_plain}
use Rattle.cm_top.specs.Numbers.{number_within}

own : IsNumeralModel (AllDigits 10) (digits_value 10)
own = numerals_by_value (AllDigits 10) tells_digits

-- no plus stands in front, and no zero in front of further bytes
abbrev IsPlain : List ℕ → Type 0
IsPlain text = (get_or text 0 0 ≢ 43) × (get_or text 0 0 ≡ 48 → length text ≤ 1)

-- the digits of a number are plain
plain-decimal : (n : ℕ) → n < 2 ^ 64 → IsPlain (decimal n)
plain-decimal n fits = (no_plus, no_zero n fits)
  where
    no_plus : get_or (decimal n) 0 0 ≢ 43
    no_plus =
        let numeral = (decimal_is_IsNumeral n fits).0 in
        not_in_digits own (decimal n) 43 numeral.1 (λ h. omega arith) 0 numeral.0

    no_zero : (m : ℕ) → m < 2 ^ 64 → get_or (decimal m) 0 0 ≡ 48 → length (decimal m) ≤ 1
    no_zero zero small zero_first = let one = decimal_digit 0 (omega arith) in rw one (omega arith)
    no_zero (suc m) small zero_first = let above = first_decimal (suc m) (omega arith) small in absurd (omega arith)

-- the text is the number's digits, and the number is within
pub record IsWithin (least most : ℕ) (text : List ℕ) (n : ℕ) : Type 0 where
  pub digits : text ≡ decimal n
  pub low : least ≤ n
  pub high : n ≤ most

-- the test of a number
abbrev passes : ℕ → ℕ → List ℕ → ℕ → Bool
passes least most text n = nat_le least n && nat_le n most && bytes_eq text (decimal n)

passes-true : (least most n : ℕ) (text : List ℕ)
    → passes least most text n ≡ true → IsWithin least most text n
passes-true least most n text holds =
    let parts = and_parts (nat_le least n && nat_le n most) (bytes_eq text (decimal n)) holds in
    let ends = and_parts (nat_le least n) (nat_le n most) parts.0 in
    record {
      digits = (bytes_eq-Decides text (decimal n)).0 parts.1;
      low = leb-true least n ends.0;
      high = leb-true n most ends.1;
    }

passes-within : (least most n : ℕ) (text : List ℕ)
    → IsWithin least most text n → passes least most text n ≡ true
passes-within least most n text is =
    and_from _ _ (and_from _ _ (le-leb least n is.low) (le-leb n most is.high))
    ((bytes_eq-Decides text (decimal n)).1 is.digits)

-- a text that is a number's digits has that value
value-decimal : (least most n : ℕ) (text : List ℕ)
    → most < 2 ^ 64 → IsWithin least most text n → digits_value 10 text ≡ n
value-decimal least most n text fits is =
    let top : n ≤ most = is.high in
    ap (digits_value 10) is.digits ∙ (decimal_is_IsNumeral n (omega arith)).1

pub number_within-within : (least most n : ℕ) (text : List ℕ)
    → most < 2 ^ 64 → IsWithin least most text n → number_within least most text ≡ Some n
number_within-within least most n text fits is =
    let value = value-decimal least most n text fits is in
    let P : ℕ → Type 0 = λ v. cond (passes least most text v) (Some v) None ≡ Some n in
    subst P (sym value) (ap (λ (b : Bool). cond b (Some n) None) (passes-within least most n text is))

number_within-some : (least most n : ℕ) (text : List ℕ)
    → number_within least most text ≡ Some n → IsWithin least most text n
number_within-some least most n text is = by (passes least most text (digits_value 10 text)) refl
  where
    by : (b : Bool) → passes least most text (digits_value 10 text) ≡ b → IsWithin least most text n
    by false fails =
        absurd (none-some n (sym (ap (λ (b : Bool). cond b (Some (digits_value 10 text)) None) fails) ∙ is))
    by true holds =
        let same : Some (digits_value 10 text) ≡ Some n =
        sym (ap (λ (b : Bool). cond b (Some (digits_value 10 text)) None) holds) ∙ is in
        let value : digits_value 10 text ≡ n = cc in
        subst (IsWithin least most text) value (passes-true least most (digits_value 10 text) text holds)

number_within-none : (least most : ℕ) (text : List ℕ)
    → ((n : ℕ) → IsWithin least most text n → ⊥) → None ≡ number_within least most text
number_within-none least most text never = by (passes least most text (digits_value 10 text)) refl
  where
    by : (b : Bool) → passes least most text (digits_value 10 text) ≡ b → None ≡ number_within least most text
    by false fails = sym (ap (λ (b : Bool). cond b (Some (digits_value 10 text)) None) fails)
    by true holds =
        absurd (never (digits_value 10 text) (passes-true least most (digits_value 10 text) text holds))

-- a text is read as a number exactly where it is its digits
pub exactly_its_digits : (least most n : ℕ) (text : List ℕ) → most < 2 ^ 64
    → (number_within least most text ≡ Some n) ↔ ((text ≡ decimal n) × (least ≤ n) × (n ≤ most))
exactly_its_digits least most n text fits = (
  λ some. (let is = number_within-some least most n text some in (is.digits, is.low, is.high)),
  λ is. number_within-within least most n text fits (record { digits = is.0; low = is.1; high = is.2 }),
)

-- a text that is not plain is no number
pub not_plain : (least most : ℕ) (text : List ℕ)
    → most < 2 ^ 64 → (IsPlain text → ⊥) → None ≡ number_within least most text
not_plain least most text fits other = number_within-none least most text (λ n is.
    let top : n ≤ most = is.high in
    other (subst IsPlain (sym is.digits) (plain-decimal n (omega arith))))

-- a plain text that parses is the digits of its number
pub plain_parsed : (text : List ℕ) {E : Type 0} (r : Result ℕ E) (n : ℕ)
    → IsPlain text → ParsesUnsigned 64 10 text r → r ≡ Ok n → text ≡ decimal n
plain_parsed text r n plain parses is =
    let read = OkIff-at_ok r _ _ n (parse_plain own 64 text r parses plain.0) is in
    let short : get_or text 0 0 ≡ 48 → length text ≡ 1 =
    λ zero. let few = plain.1 zero in let some = read.0.1 in omega arith in
    sym (decimal-digits_value own text read.0.0 read.0.1 short read.0.2) ∙ ap decimal (sym read.1)

-- a text that does not parse is no number
pub not_parsed : (least most : ℕ) (text : List ℕ) {E : Type 0} (r : Result ℕ E) (e : E)
    → most < 2 ^ 64 → ParsesUnsigned 64 10 text r → r ≡ Err e → None ≡ number_within least most text
not_parsed least most text r e fits parses is = number_within-none least most text (λ n within.
    let top : n ≤ most = within.high in
    let read : r ≡ Ok n = parse-decimal 64 n text r (omega arith) (omega arith) within.digits parses in
    cc)
