-- Spans of addresses with the numbers of their groups, and the segments between the ends of spans.
use Rattle.std.specs.Prelude.{◌≡◌, ◌↔◌, Contains, IsSomeAnd, ◌≤◌, ℕ, ◌+◌, ◌*◌, ◌-◌, ◌<◌, ◌^◌, ◌==◌, ◌&&◌, nat_le, nat_lt, Bool, List, map, filter, fold, length, [], ◌∷◌, Option, Some, None, max, if◌then◌else◌}
use Rattle.std.specs.BTreeMap.{BTreeMap, get}
use Rattle.std.specs.List.{list_any}
use Rattle.std.specs.List.Sorted.{IsStrictlyIncreasing, IsStrictlySortedBy}
use Rattle.std.specs.Ordering.{nat_cmp}
use Rattle.cm_net.specs.declared.span.Span.{Span}
use Rattle.cm_net.specs.declared.entry.Entry.{Entry}
use Rattle.cm_net.specs.Boundaries.{is_between}
use Rattle.cm_net.specs.Entries.{keys_in, last_groups}
use Rattle.cm_net.specs.Groups.{IsRisingOf}

-- the address is in the span
abbrev pub is_in : ℕ → Span → Bool
is_in address span = is_between span.first span.last address

-- the numbers of the spans that hold the address
abbrev pub numbers_at : List Span → ℕ → List ℕ
numbers_at spans address = map (λ span. span.group) (filter (λ span. is_in address span) spans)

-- a span of the group of that number holds the address
abbrev pub is_held : List Span → ℕ → ℕ → Bool
is_held spans address group = list_any (λ span. is_in address span && span.group == group) spans

-- the second span is of the group of the first, begins in it or later, and leaves no gap
pub record GoesOn (before span : Span) : Type 0 where
  pub group : before.group ≡ span.group
  pub later : before.first ≤ span.first
  pub gapless : span.first ≤ before.last + 1

-- what the last segment that begins at or before the address has
abbrev pub groups_at : List (Entry ℕ) → ℕ → List ℕ
groups_at segments address = last_groups (λ start. nat_le start address) segments

-- The segments, in the order of their first addresses. For each address they have the numbers of the spans that hold it. Each
-- span makes two more at most.
pub record AreSegmentsOf (spans : List Span) (segments : List (Entry ℕ)) : Type 0 where
  pub right : (address : ℕ) → address < 2 ^ 128 → IsRisingOf (numbers_at spans address) (groups_at segments address)
  pub order : IsStrictlySortedBy nat_cmp (keys_in segments)
  pub few : length segments ≤ 2 * length spans + 1

-- the first address of the span, and the one behind its last where there is one
abbrev pub turns_of_span : Span → List ℕ
turns_of_span span = span.first ∷ (if nat_lt span.last (2 ^ 128 - 1) then (span.last + 1) ∷ [] else [])

-- the reach of a group, and that with a span more
abbrev pub farther : Option ℕ → ℕ → Option ℕ
farther None last = Some last
farther (Some reach) last = Some (max last reach)

-- the greatest last address of the spans of the group, where it has any
abbrev pub reach_of : List Span → ℕ → Option ℕ
reach_of spans group = fold (λ reach span. if group == span.group then farther reach span.last else reach) None spans

-- for each group the map has the greatest last address of its spans
abbrev pub AreReachesOf : List Span → BTreeMap ℕ ℕ → Type 0
AreReachesOf spans reaches = (group : ℕ) → get nat_cmp reaches group ≡ reach_of spans group

-- the groups that reach to the address, rising, each once
pub record AreReaching (reaches : BTreeMap ℕ ℕ) (address : ℕ) (groups : List ℕ) : Type 0 where
  pub rising : IsStrictlyIncreasing groups
  pub those : (group : ℕ) → Contains groups group ↔ IsSomeAnd (get nat_cmp reaches group) (λ last. address ≤ last)

-- the span from the one end to the other, where there are ends
abbrev pub spans_of : Option (ℕ × ℕ) → ℕ → List Span
spans_of None group = []
spans_of (Some ends) group = record { first = ends.0; last = ends.1; group = group } ∷ []
