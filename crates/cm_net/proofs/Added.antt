-- Spans added one by one, and segments added at the end.
use Rattle.std.proofs.Common.{◌≡◌, ℕ, ◌<◌, ◌≤◌, Bool, true, false, leb, List, [], ◌∷◌, ◌++◌, map, Option, None, Some, refl, sym, ap, ◌∙◌, cond, MatchOption}
use Rattle.std.specs.List.{filter}
use Rattle.std.proofs.lemmas.List.{map-append, append-nil}
use Rattle.std.proofs.lemmas.List.Elements.{filter-append}
use Rattle.cm_net.specs.declared.span.Span.{Span}
use Rattle.cm_net.specs.declared.entry.Entry.{Entry}
use Rattle.std.proofs.Common.{inl, inr, length, length-append, ltb, arith, is_some, ◌+◌, ◌*◌, ◌-◌, ◌^◌, zero-add}
use Rattle.std.specs.List.{flat_map}
use Rattle.std.proofs.lemmas.List.Sums.{sum_by-append}
use Rattle.std.proofs.lemmas.Bool.{cases_lt, le-leb, lt-leb}
use Rattle.cm_net.specs.declared.boundary.Boundary.{Boundary}
use Rattle.cm_net.specs.Boundaries.{is_between, rows_of}
use Rattle.cm_net.specs.Groups.{numbers_of, IsRisingOf}
use Rattle.cm_net.proofs.Found.{last_groups-push}
use Rattle.cm_net.specs.Spans.{is_in, numbers_at, groups_at, spans_of, turns_of_span}

-- the number of one span, where it holds the address
abbrev pub number_if : Bool → ℕ → List ℕ
number_if b n = cond b (n ∷ []) []

one_number : (s : Span) (a : ℕ) → numbers_at (s ∷ []) a ≡ number_if (is_in a s) s.group
one_number s a = elim (is_in a s) as (λ b. map (λ (x : Span). x.group) (cond b (s ∷ []) []) ≡ cond b (s.group ∷ []) []) [ true ↦ refl | false ↦ refl ]

pub numbers_at-push : (xs : List Span) (s : Span) (a : ℕ) → numbers_at (xs ++ s ∷ []) a ≡ numbers_at xs a ++ number_if (is_in a s) s.group
numbers_at-push xs s a =
    ap (λ (ys : List Span). map (λ (x : Span). x.group) ys) (filter-append (is_in a) xs (s ∷ []))
    ∙ (map-append (λ (x : Span). x.group) (filter (is_in a) xs) (filter (is_in a) (s ∷ []))
    ∙ ap (λ (ys : List ℕ). numbers_at xs a ++ ys) (one_number s a))

pub groups_at-push : (xs : List (Entry ℕ)) (s : Entry ℕ) (a : ℕ) → groups_at (xs ++ s ∷ []) a ≡ cond (leb s.key a) s.groups.items (groups_at xs a)
groups_at-push xs s a = last_groups-push (λ start. leb start a) xs s

-- what the segments say of an address before a segment that is added, and of one within it
before_added : (spans : List Span) (xs : List (Entry ℕ)) (s : Entry ℕ) (a : ℕ) → a < s.key → IsRisingOf (numbers_at spans a) (groups_at xs a) → IsRisingOf (numbers_at spans a) (groups_at (xs ++ s ∷ []) a)
before_added spans xs s a low old = rw (groups_at-push xs s a, lt-leb s.key a low) old

within_added : (spans : List Span) (xs : List (Entry ℕ)) (s : Entry ℕ) (a : ℕ) → s.key ≤ a → numbers_at spans a ≡ numbers_at spans s.key → IsRisingOf (numbers_at spans s.key) s.groups.items → IsRisingOf (numbers_at spans a) (groups_at (xs ++ s ∷ []) a)
within_added spans xs s a high same new = rw (groups_at-push xs s a, le-leb s.key a high, same) new

pub segment_added : (spans : List Span) (xs new : List (Entry ℕ)) (s : Entry ℕ) (a : ℕ)
    → new ≡ xs ++ s ∷ []
    → (a < s.key → IsRisingOf (numbers_at spans a) (groups_at xs a))
    → IsRisingOf (numbers_at spans s.key) s.groups.items
    → (s.key ≤ a → numbers_at spans a ≡ numbers_at spans s.key)
    → IsRisingOf (numbers_at spans a) (groups_at new a)
segment_added spans xs new s a is old right same =
    rw is (elim (cases_lt a s.key) [ inl low ↦ before_added spans xs s a low (old low) | inr high ↦ within_added spans xs s a high (same high) right ])

-- a row added: its number follows, where its boundary holds the client
one_row : (f : Boundary → Bool) (row : Boundary × ℕ) → numbers_of f (row ∷ []) ≡ number_if (f row.0) row.1
one_row f row = elim (f row.0) as (λ b. map (λ (r : Boundary × ℕ). r.1) (cond b (row ∷ []) []) ≡ cond b (row.1 ∷ []) []) [ true ↦ refl | false ↦ refl ]

pub numbers_of-push : (f : Boundary → Bool) (rows : List (Boundary × ℕ)) (row : Boundary × ℕ) → numbers_of f (rows ++ row ∷ []) ≡ numbers_of f rows ++ number_if (f row.0) row.1
numbers_of-push f rows row =
    ap (λ (rs : List (Boundary × ℕ)). map (λ (r : Boundary × ℕ). r.1) rs) (filter-append (λ (r : Boundary × ℕ). f r.0) rows (row ∷ []))
    ∙ (map-append (λ (r : Boundary × ℕ). r.1) (filter (λ (r : Boundary × ℕ). f r.0) rows) (filter (λ (r : Boundary × ℕ). f r.0) (row ∷ []))
    ∙ ap (λ (ys : List ℕ). numbers_of f rows ++ ys) (one_row f row))

-- whether these ends, where there are any, hold the address
abbrev pub holds_ends : Option (ℕ × ℕ) → ℕ → Bool
holds_ends None a = false
holds_ends (Some ends) a = is_between ends.0 ends.1 a

ends_added : (xs : List Span) (ends : Option (ℕ × ℕ)) (n a : ℕ) → numbers_at (xs ++ spans_of ends n) a ≡ numbers_at xs a ++ number_if (holds_ends ends a) n
ends_added xs None n a = ap (λ (ys : List Span). numbers_at ys a) (append-nil xs) ∙ sym (append-nil (numbers_at xs a))
ends_added xs (Some ends) n a = numbers_at-push xs (record { first = ends.0; last = ends.1; group = n }) a

pub row_added : (f : Boundary → Bool) (xs new : List Span) (rows : List (Boundary × ℕ)) (row : Boundary × ℕ) (ends : Option (ℕ × ℕ)) (a : ℕ)
    → new ≡ xs ++ spans_of ends row.1 → f row.0 ≡ holds_ends ends a → numbers_at xs a ≡ numbers_of f rows
    → numbers_at new a ≡ numbers_of f (rows ++ row ∷ [])
row_added f xs new rows row ends a is same before =
    ap (λ (ys : List Span). numbers_at ys a) is ∙ (ends_added xs ends row.1 a
    ∙ (ap (λ (b : Bool). numbers_at xs a ++ number_if b row.1) (sym same)
    ∙ (ap (λ (ys : List ℕ). ys ++ number_if (f row.0) row.1) before ∙ sym (numbers_of-push f rows row))))

-- what the ends of a boundary say
pub ends_say : (n : ℕ) (ends : Option (ℕ × ℕ)) (test : ℕ → Bool) → MatchOption ends ((a : ℕ) → a < n → test a ≡ false) (λ e. (a : ℕ) → a < n → test a ≡ is_between e.0 e.1 a) → (a : ℕ) → a < n → test a ≡ holds_ends ends a
ends_say n None test h a small = h a small
ends_say n (Some ends) test h a small = h a small

-- how many spans and rows there are
pub rows_of-push : (test : Boundary → Bool) (rows : List (Boundary × ℕ)) (row : Boundary × ℕ) → rows_of test (rows ++ row ∷ []) ≡ rows_of test rows + cond (test row.0) 1 0
rows_of-push test rows row =
    sum_by-append (λ (r : Boundary × ℕ). cond (test r.0) 1 0) rows (row ∷ []) ∙ ap (λ (n : ℕ). rows_of test rows + n) (zero-add (cond (test row.0) 1 0))

length-spans_of : (ends : Option (ℕ × ℕ)) (n : ℕ) → length (spans_of ends n) ≡ cond (is_some ends) 1 0
length-spans_of None n = refl
length-spans_of (Some ends) n = refl

pub row_counted : (test : Boundary → Bool) (xs new : List Span) (rows : List (Boundary × ℕ)) (row : Boundary × ℕ) (ends : Option (ℕ × ℕ))
    → new ≡ xs ++ spans_of ends row.1 → is_some ends ≡ test row.0 → length xs ≡ rows_of test rows → length new ≡ rows_of test (rows ++ row ∷ [])
row_counted test xs new rows row ends is same before =
    ap length is ∙ (length-append xs (spans_of ends row.1)
    ∙ (rw (length-spans_of ends row.1, same, before) (sym (rows_of-push test rows row))))

-- each span has two turns at most
pub length-turns : (xs : List Span) → length (flat_map turns_of_span xs) ≤ 2 * length xs
length-turns [] = omega arith
length-turns (s ∷ xs) =
    let two : length (turns_of_span s) ≤ 2 = elim (ltb s.last (2 ^ 128 - 1)) as (λ b. length (s.first ∷ cond b ((s.last + 1) ∷ []) []) ≤ 2) [ true ↦ omega arith | false ↦ omega arith ] in
    omega (arith, two, length-turns xs, length-append (turns_of_span s) (flat_map turns_of_span xs))
