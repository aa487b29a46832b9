-- Which places name something below a folder of the host.
use Rattle.std.specs.Prelude.{ℕ, ◌==◌, ◌||◌, Bool, not, List, [], ◌∷◌, length}
use Rattle.std.specs.List.{list_all, slice_split}
use Rattle.std.specs.Str.{bytes_eq}

-- a part of a path that goes down: it isn't empty, `.` or `..`
abbrev pub goes_down : List ℕ → Bool
goes_down part = not (length part == 0 || bytes_eq part (46 ∷ []) || bytes_eq part (46 ∷ 46 ∷ []))

-- a path whose parts, between its slashes, all go down: so it isn't absolute, and never leaves the folder
abbrev pub stays_below : List ℕ → Bool
stays_below path = list_all goes_down (slice_split (λ b. b == 47) path)
