-- Between two turns each span holds all addresses or none.
use Rattle.std.proofs.Common.{◌≡◌, ℕ, ◌+◌, ◌-◌, ◌<◌, ◌≤◌, ◌^◌, Bool, true, false, leb, ltb, List, [], ◌∷◌, ◌++◌, map, refl, ap, arith, cond, ◌⊎◌, inl, inr, length, take, get_or}
use Rattle.std.specs.Prelude.{All, Contains}
use Rattle.std.specs.List.{filter, flat_map}
use Rattle.std.specs.List.Sorted.{IsStrictlyIncreasing}
use Rattle.std.proofs.lemmas.Bool.{false≢true, cases_lt, cases_Bool, ltb-false, le-leb, lt-leb}
use Rattle.std.proofs.lemmas.List.Elements.{All-weaker, Contains-append_left, Contains-append_right, at_from_Contains}
use Rattle.std.specs.List.Sorted.{IsStrictlySortedBy}
use Rattle.std.specs.Ordering.{nat_cmp}
use Rattle.std.proofs.Common.{sym, ◌∙◌, take_all}
use Rattle.std.proofs.lemmas.List.{map-append, length-map, take_more}
use Rattle.cm_net.specs.Entries.{keys_in}
use Rattle.std.proofs.lemmas.Map.Keys.{below_from_sorted, sorted_from_strictly_increasing}
use Rattle.cm_net.specs.declared.span.Span.{Span}
use Rattle.cm_net.specs.declared.entry.Entry.{Entry}
use Rattle.cm_net.specs.Groups.{IsRisingOf}
use Rattle.cm_net.specs.Spans.{is_in, numbers_at, groups_at, turns_of_span}
use Rattle.cm_net.proofs.Added.{segment_added}

-- no turn is behind the one address, up to the other
abbrev pub AreNoneBetween : List ℕ → ℕ → ℕ → Type 0
AreNoneBetween turns start a = (t : ℕ) → Contains turns t → (t ≤ start) ⊎ (a < t)

-- one span
same_last : (last start a : ℕ) → start ≤ a → a < 2 ^ 128 → (ltb last (2 ^ 128 - 1) ≡ true → (last + 1 ≤ start) ⊎ (a < last + 1)) → leb a last ≡ leb start last
same_last last start a from small turn =
    elim (cases_Bool (ltb last (2 ^ 128 - 1))) [
      | inl inner ↦ elim (turn inner) [
        | inl before ↦ rw (lt-leb a last (omega (arith, before, from)), lt-leb start last (omega (arith, before))) refl
        | inr behind ↦ rw (le-leb a last (omega (arith, behind)), le-leb start last (omega (arith, behind, from))) refl
      ]
      | inr outer ↦
          let high = ltb-false last (2 ^ 128 - 1) outer in
          rw (le-leb a last (omega (arith, high, small)), le-leb start last (omega (arith, high, small, from))) refl
    ]

second_there : (b : Bool) (x y : ℕ) → b ≡ true → Contains (x ∷ cond b (y ∷ []) []) y
second_there true x y h = (1, omega arith, refl)
second_there false x y h = absurd (false≢true h)

same_in : (s : Span) (start a : ℕ) → start ≤ a → a < 2 ^ 128 → AreNoneBetween (turns_of_span s) start a → is_in a s ≡ is_in start s
same_in s start a from small none =
    elim (none s.first (0, omega arith, refl)) [
      | inl begun ↦ rw (le-leb s.first a (omega (arith, begun, from)), le-leb s.first start begun)
          (same_last s.last start a from small (λ inner. none (s.last + 1) (second_there (ltb s.last (2 ^ 128 - 1)) s.first (s.last + 1) inner)))
      | inr ahead ↦ rw (lt-leb s.first a ahead, lt-leb s.first start (omega (arith, ahead, from))) refl
    ]

-- all spans
same_filter : (xs : List Span) (start a : ℕ) → start ≤ a → a < 2 ^ 128 → AreNoneBetween (flat_map turns_of_span xs) start a → filter (is_in a) xs ≡ filter (is_in start) xs
same_filter [] start a from small none = refl
same_filter (s ∷ xs) start a from small none =
    rw (
      same_in s start a from small (λ t there. none t (Contains-append_left (turns_of_span s) (flat_map turns_of_span xs) t there)),
      same_filter xs start a from small (λ t there. none t (Contains-append_right (turns_of_span s) (flat_map turns_of_span xs) t there)),
    )
    refl

same_numbers : (xs : List Span) (start a : ℕ) → start ≤ a → a < 2 ^ 128 → AreNoneBetween (flat_map turns_of_span xs) start a → numbers_at xs a ≡ numbers_at xs start
same_numbers xs start a from small none = ap (λ (ys : List Span). map (λ (s : Span). s.group) ys) (same_filter xs start a from small none)

-- the address is before each turn from the j-th on
abbrev pub IsBefore : List ℕ → ℕ → ℕ → Type 0
IsBefore turns j a = (k : ℕ) → j ≤ k → k < length turns → a < get_or turns k 0

none_between : (turns : List ℕ) (j a : ℕ) → IsStrictlyIncreasing turns → j < length turns → IsBefore turns (j + 1) a → AreNoneBetween turns (get_or turns j 0) a
none_between turns j a rising within before t there =
    let found = at_from_Contains turns t there in
    let is : get_or turns found.0 0 ≡ t = found.2 0 in
    elim (cases_lt j found.0) [
      | inl later ↦ inr (omega (arith, is, before found.0 (omega (arith, later)) found.1))
      | inr sooner ↦ inl (elim (cases_lt found.0 j) [
        | inl low ↦ omega (arith, is, below_from_sorted turns found.0 j 0 (sorted_from_strictly_increasing turns rising) low within)
        | inr same ↦
            let place : found.0 ≡ j = omega (arith, same, sooner) in
            omega (arith, is, ap (λ (i : ℕ). get_or turns i 0) place)
      ])
    ]

-- up to the j-th turn the segments have the numbers of the spans that hold an address
abbrev pub AreRightBefore : List Span → List ℕ → ℕ → List (Entry ℕ) → Type 0
AreRightBefore spans turns j segments = (a : ℕ) → a < 2 ^ 128 → IsBefore turns j a → IsRisingOf (numbers_at spans a) (groups_at segments a)

pub right_at_first : (spans : List Span) (turns : List ℕ) → Contains turns 0 → AreRightBefore spans turns 0 []
right_at_first spans turns there a small before =
    let found = at_from_Contains turns 0 there in
    absurd (omega (arith, found.2 0, before found.0 (omega arith) found.1))

pub right_at_last : (spans : List Span) (turns : List ℕ) (j : ℕ) (segments : List (Entry ℕ)) → length turns ≤ j → AreRightBefore spans turns j segments
    → (a : ℕ) → a < 2 ^ 128 → IsRisingOf (numbers_at spans a) (groups_at segments a)
right_at_last spans turns j segments end right a small = right a small (λ k from below. absurd (omega (arith, end, from, below)))

pub right_up_to_next : (spans : List Span) (turns : List ℕ) (j : ℕ) (xs new : List (Entry ℕ)) (s : Entry ℕ)
    → IsRisingOf (0 ∷ flat_map turns_of_span spans) turns → j < length turns
    → s.key ≡ get_or turns j 0 → new ≡ xs ++ s ∷ []
    → IsRisingOf (numbers_at spans s.key) s.groups.items
    → AreRightBefore spans turns j xs → AreRightBefore spans turns (j + 1) new
right_up_to_next spans turns j xs new s rising within start is groups right = λ a small before.
    let earlier : (k : ℕ) → j ≤ k → k < length turns → a < s.key → a < get_or turns k 0 =
    λ k from below low. elim (cases_lt j k) [
      | inl later ↦ before k (omega (arith, later)) below
      | inr same ↦
          let place : k ≡ j = omega (arith, same, from) in
          omega (arith, low, start, ap (λ (i : ℕ). get_or turns i 0) place)
    ] in
    segment_added spans xs new s a is
    (λ low. right a small (λ k from below. earlier k from below low)) groups
    (λ from. same_numbers spans s.key a from small
    (λ t there. rw start (none_between turns j a rising.rising within before t ((rising.same t).1 (Contains-append_right (0 ∷ []) (flat_map turns_of_span spans) t there)))))

-- the spans that have begun before the j-th turn begin before each later one
abbrev pub HaveBegun : List Span → ℕ → List ℕ → ℕ → Type 0
HaveBegun sorted n turns j = All (λ (s : Span). (k : ℕ) → j ≤ k → k < length turns → s.first ≤ get_or turns k 0) (take n sorted)

pub begun_up_to_next : (sorted : List Span) (n : ℕ) (turns : List ℕ) (j start : ℕ) → IsStrictlyIncreasing turns → start ≡ get_or turns j 0 → All (λ s. s.first ≤ start) (take n sorted) → HaveBegun sorted n turns (j + 1)
begun_up_to_next sorted n turns j start rising is begun =
    All-weaker (λ (s : Span). s.first ≤ start) (λ (s : Span). (k : ℕ) → j + 1 ≤ k → k < length turns → s.first ≤ get_or turns k 0)
    (λ s low k from below. omega (arith, low, is, below_from_sorted turns j k 0 (sorted_from_strictly_increasing turns rising) (omega (arith, from)) below))
    (take n sorted) begun

pub begun_at_turn : (sorted : List Span) (n : ℕ) (turns : List ℕ) (j start : ℕ) → start ≡ get_or turns j 0 → j < length turns → HaveBegun sorted n turns j → All (λ s. s.first ≤ start) (take n sorted)
begun_at_turn sorted n turns j start is within begun =
    All-weaker (λ (s : Span). (k : ℕ) → j ≤ k → k < length turns → s.first ≤ get_or turns k 0) (λ (s : Span). s.first ≤ start)
    (λ s low. omega (arith, is, low j (omega arith) within)) (take n sorted) begun

-- the segments begin at the turns
pub key_added : (turns : List ℕ) (j : ℕ) (xs new : List (Entry ℕ)) (s : Entry ℕ) → j < length turns → new ≡ xs ++ s ∷ [] → s.key ≡ get_or turns j 0 → keys_in xs ≡ take j turns → keys_in new ≡ take (j + 1) turns
key_added turns j xs new s within is here was =
    ap keys_in is ∙ (map-append (λ (e : Entry ℕ). e.key) xs (s ∷ [])
    ∙ (ap (λ (keys : List ℕ). keys ++ s.key ∷ []) was ∙ (ap (λ (key : ℕ). take j turns ++ key ∷ []) here ∙ sym (take_more turns j 0 within))))

pub all_keys : (turns : List ℕ) (j : ℕ) (xs : List (Entry ℕ)) → length turns ≤ j → keys_in xs ≡ take j turns → keys_in xs ≡ turns
all_keys turns j xs all was = was ∙ take_all j turns all

pub all_keys_rise : (turns : List ℕ) (j : ℕ) (xs : List (Entry ℕ)) → length turns ≤ j → IsStrictlyIncreasing turns → keys_in xs ≡ take j turns → IsStrictlySortedBy nat_cmp (keys_in xs)
all_keys_rise turns j xs all rising was = rw (all_keys turns j xs all was) (sorted_from_strictly_increasing turns rising)

pub all_keys_few : (turns : List ℕ) (j n : ℕ) (xs : List (Entry ℕ)) → length turns ≤ j → length turns ≤ n → keys_in xs ≡ take j turns → length xs ≤ n
all_keys_few turns j n xs all few was =
    omega (arith, few, length-map xs (λ (e : Entry ℕ). e.key), ap length (all_keys turns j xs all was))
