-- What a walk over places sees.
use Rattle.std.specs.Prelude.{◌≡◌, ℕ, ◌&&◌, Bool, true, List, [], ◌∷◌, Option, None, Some, is_some, if◌then◌else◌}
use Rattle.std.specs.List.{list_any}
use Rattle.std.specs.Str.{bytes_eq}
use Rattle.cm_disk.specs.Disk.{Files, is_above}

-- the files at places of a form alone
abbrev pub only_at : (List ℕ → Bool) → Files → Files
only_at is_form files place = if is_form place then files place else None

-- places in rising byte order, the first above this one
abbrev pub rises : Option (List ℕ) → List (List ℕ) → Bool
rises after [] = true
rises after (place ∷ places) = is_above after place && rises (Some place) places

-- these are the places of all files, in byte order
pub record AreListed (files : Files) (places : List (List ℕ)) : Type 0 where
  pub rising : rises None places ≡ true
  pub all : (q : List ℕ) → is_some (files q) ≡ list_any (bytes_eq q) places
