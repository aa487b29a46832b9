-- Spans of one group that leave no gap, as one span.
use Rattle.std.proofs.Common.{◌≡◌, ℕ, ◌+◌, ◌≤◌, ◌==◌, Bool, true, false, List, [], ◌∷◌, ◌++◌, ◌&&◌, ◌||◌, Contains, length, get_or, map, filter, max, refl, sym, ap, ◌∙◌, cond, arith}
use Rattle.std.specs.List.{list_any}
use Rattle.std.proofs.lemmas.Bool.{eqb-true, eq-eqb}
use Rattle.std.proofs.lemmas.List.Folds.{Any-from_list_any, list_any-append, list_any-from_Any}
use Rattle.cm_net.specs.declared.entry.Entry.{Entry}
use Rattle.cm_net.specs.declared.span.Span.{Span}
use Rattle.cm_net.specs.Boundaries.{is_between}
use Rattle.cm_net.specs.Spans.{AreSegmentsOf, GoesOn, is_held, is_in, numbers_at}

-- spans added behind spans that hold the same
pub held_behind : (xs ys new ss : List Span) (a g : ℕ) → is_held new a g ≡ is_held (xs ++ ss) a g → is_held xs a g ≡ is_held ys a g → is_held new a g ≡ is_held (ys ++ ss) a g
held_behind xs ys new ss a g is same =
    let test : Span → Bool = λ span. is_in a span && span.group == g in
    is ∙ list_any-append test xs ss ∙ ap (λ (b : Bool). b || list_any test ss) same ∙ sym (list_any-append test ys ss)

-- a range that goes on where another one stands, as one range
both_ranges : (a b c d x : ℕ) → a ≤ c → c ≤ b + 1 → is_between a (max b d) x ≡ (is_between a b x || is_between c d x)
both_ranges a b c d x later gapless = grind arith

and_both : (p q r : Bool) → ((p || q) && r) ≡ ((p && r) || (q && r))
and_both true q true = refl
and_both true true false = refl
and_both true false false = refl
and_both false q r = refl

one_of : (p q r : Bool) → (p || ((q || r) || false)) ≡ ((p || (q || false)) || (r || false))
one_of true q r = refl
one_of false true r = refl
one_of false false r = refl

pub held_joined : (xs : List Span) (before span : Span) (a g : ℕ) → GoesOn before span
    → is_held (xs ++ record { first = before.first; last = max before.last span.last; group = before.group } ∷ []) a g ≡ is_held ((xs ++ before ∷ []) ++ span ∷ []) a g
held_joined xs before span a g on =
    let test : Span → Bool = λ each. is_in a each && each.group == g in
    let all : Span = record { first = before.first; last = max before.last span.last; group = before.group } in
    let same : test all ≡ (test before || test span) =
    ap (λ (b : Bool). b && before.group == g) (both_ranges before.first before.last span.first span.last a on.later on.gapless)
    ∙ and_both (is_in a before) (is_in a span) (before.group == g)
    ∙ ap (λ (n : ℕ). test before || (is_in a span && n == g)) on.group in
    list_any-append test xs (all ∷ [])
    ∙ ap (λ (b : Bool). list_any test xs || (b || false)) same
    ∙ one_of (list_any test xs) (test before) (test span)
    ∙ ap (λ (b : Bool). b || (test span || false)) (sym (list_any-append test xs (before ∷ [])))
    ∙ sym (list_any-append test (xs ++ before ∷ []) (span ∷ []))

-- which numbers spans have at an address
held_has : (spans : List Span) (a g : ℕ) → list_any (λ other. other == g) (numbers_at spans a) ≡ is_held spans a g
held_has [] a g = refl
held_has (span ∷ spans) a g =
    elim (is_in a span) as (λ b. list_any (λ other. other == g) (map (λ (each : Span). each.group) (cond b (span ∷ filter (λ (each : Span). is_in a each) spans) (filter (λ (each : Span). is_in a each) spans))) ≡ (b && span.group == g || is_held spans a g)) [
      | true ↦ ap (λ (b : Bool). span.group == g || b) (held_has spans a g)
      | false ↦ held_has spans a g
    ]

pub has-from_Contains : (numbers : List ℕ) (number : ℕ) → Contains numbers number → list_any (λ other. other == number) numbers ≡ true
has-from_Contains numbers number h = list_any-from_Any (λ other. other == number) numbers (h.0, number, h.1, h.2, eq-eqb number number refl)

pub Contains-from_has : (numbers : List ℕ) (number : ℕ) → list_any (λ other. other == number) numbers ≡ true → Contains numbers number
Contains-from_has numbers number h =
    let found = Any-from_list_any (λ other. other == number) numbers h in
    let same : found.1 ≡ number = eqb-true found.1 number found.4 in
    let at : get_or numbers found.0 number ≡ number = ap (λ (d : ℕ). get_or numbers found.0 d) (sym same) ∙ found.3 ∙ same in
    (found.0, found.2, at)

numbers_go : (xs ys : List Span) (a g : ℕ) → is_held xs a g ≡ is_held ys a g → Contains (numbers_at xs a) g → Contains (numbers_at ys a) g
numbers_go xs ys a g same h =
    Contains-from_has (numbers_at ys a) g (held_has ys a g ∙ sym same ∙ sym (held_has xs a g) ∙ has-from_Contains (numbers_at xs a) g h)

-- segments of spans are those of spans that hold the same
pub segments_same : (spans joined : List Span) (segments : List (Entry ℕ)) → ((address group : ℕ) → is_held joined address group ≡ is_held spans address group) → length joined ≤ length spans
    → AreSegmentsOf joined segments → AreSegmentsOf spans segments
segments_same spans joined segments same few are = record {
  right = λ address small.
      let right = are.right address small in
      record {
        rising = right.rising;
        same = λ number. (
          (λ h. numbers_go joined spans address number (same address number) ((right.same number).0 h)),
          (λ h. (right.same number).1 (numbers_go spans joined address number (sym (same address number)) h)),
        );
      };
  order = are.order;
  few = omega (arith, are.few, few);
}
