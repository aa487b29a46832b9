-- The choice of a pull point's source.
use Rattle.std.specs.Prelude.{◌≡◌, ℕ, ◌<◌, Bool, true, false, List, slice_get, Option, Some, None, if◌then◌else◌}
use Rattle.std.specs.Ordering.{nat_cmp, is_lt, ordering_then}
use Rattle.std.specs.declared.cmp.Ordering.{Ordering}
use Rattle.std.specs.Cmp.Lexicographic.{slice_cmp}
use Rattle.cm_points.specs.declared.point.PullSource.{PullSource}

-- how a source stands to another: by its priority, then by its name
abbrev pub source_cmp : PullSource → PullSource → Ordering
source_cmp source other = ordering_then (nat_cmp source.priority other.priority) (slice_cmp nat_cmp source.point other.point)

-- a source stands before another
abbrev pub is_before : PullSource → PullSource → Bool
is_before source other = is_lt (source_cmp source other)

-- the source of that number is there, and usable
pub record IsUsable (sources : List PullSource) (flags : List Bool) (number : ℕ) (source : PullSource) : Type 0 where
  pub is : slice_get sources number ≡ Some source
  pub usable : slice_get flags number ≡ Some true

-- none of the first so many is usable
abbrev pub IsNoneUsable : ℕ → List Bool → Type 0
IsNoneUsable many usable = (k : ℕ) → k < many → slice_get usable k ≡ Some true → ⊥

-- Of the first so many it is usable. No usable one stands before it, and it stands before each usable one that is earlier in
-- the list.
pub record IsChoice (many : ℕ) (sources : List PullSource) (usable : List Bool) (number : ℕ) (source : PullSource) : Type 0 where
  pub within : number < many
  pub is : IsUsable sources usable number source
  pub least : (k : ℕ) (other : PullSource) → k < many → IsUsable sources usable k other → is_before other source ≡ false
  pub first : (k : ℕ) (other : PullSource) → k < number → IsUsable sources usable k other → is_before source other ≡ true

-- the better one of a choice and a further source, of equal ones the earlier
abbrev pub better : Option (ℕ × PullSource) → ℕ → PullSource → Option (ℕ × PullSource)
better None number source = Some (number, source)
better (Some held) number source = if is_before source held.1 then Some (number, source) else Some held

-- the choice once a further source was looked at
abbrev pub chosen : Option (ℕ × PullSource) → ℕ → PullSource → Bool → Option (ℕ × PullSource)
chosen choice number source usable = if usable then better choice number source else choice

-- the choice among the first so many
abbrev pub IsBest : ℕ → List PullSource → List Bool → Option (ℕ × PullSource) → Type 0
IsBest many sources usable None = IsNoneUsable many usable
IsBest many sources usable (Some held) = IsChoice many sources usable held.0 held.1
