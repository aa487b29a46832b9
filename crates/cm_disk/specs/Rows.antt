-- Places in a row, as a walk meets them.
use Rattle.std.specs.Prelude.{◌≡◌, ℕ, suc, true, false, if◌then◌else◌, List, [], ◌∷◌, Option, Some, is_some, slice_get}
use Rattle.std.specs.Ordering.{nat_cmp, is_gt}
use Rattle.std.specs.Cmp.Lexicographic.{slice_cmp}
use Rattle.cm_disk.specs.declared.calls.Slot.{Slot}
use Rattle.cm_disk.specs.Disk.{Files, is_above}

-- a step of a walk: the least place above, of those that are there
pub record IsStep (files : Files) (after : Option (List ℕ)) (next : List ℕ) : Type 0 where
  pub above : is_above after next ≡ true
  pub there : is_some (files next) ≡ true
  pub least : (q : List ℕ) → is_above after q ≡ true → is_some (files q) ≡ true → is_gt (slice_cmp nat_cmp next q) ≡ false

-- one place stands right behind another
pub record IsBehind (places : List (List ℕ)) (place next : List ℕ) : Type 0 where
  pub i : ℕ
  pub here : slice_get places i ≡ Some place
  pub behind : slice_get places (suc i) ≡ Some next

-- a step of a walk goes from each place to the one behind it
abbrev pub InRow : Files → List (List ℕ) → Type 0
InRow files places = (i : ℕ) (place next : List ℕ) → slice_get places i ≡ Some place → slice_get places (suc i) ≡ Some next → IsStep files (Some place) next

-- the places of the entries of which a file is there
abbrev pub there_of : List (List ℕ × Slot) → List (List ℕ)
there_of [] = []
there_of (entry ∷ entries) = if is_some entry.1.file then entry.0 ∷ there_of entries else there_of entries
