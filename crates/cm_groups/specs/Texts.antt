-- What the texts of groups name.
use Rattle.std.specs.Prelude.{ℕ, ◌||◌, nat_lt, Bool, false, List, [], ◌∷◌, map}
use Rattle.cm_net.specs.declared.boundary.Boundary.{Boundary}
use Rattle.cm_groups.specs.declared.fallback.Fallback.{Fallback}
use Rattle.cm_groups.specs.declared.fallback.Fallback.TheVariants.{Never, After}
use Rattle.cm_groups.specs.declared.group_text.GroupText.{GroupText}
use Rattle.cm_groups.specs.Codes.{default_name}
use Rattle.cm_groups.specs.Names.{is_among}

-- the names of the boundaries, in order
abbrev pub names_of_rows : List (List ℕ × Boundary) → List (List ℕ)
names_of_rows rows = map (λ row. row.0) rows

-- the names of the groups that have texts, in order
abbrev pub names_of_texts : List GroupText → List (List ℕ)
names_of_texts texts = map (λ text. text.name) texts

-- the names of all groups by their numbers: the default group has number 0
abbrev pub group_names : List ℕ → List GroupText → List (List ℕ)
group_names code texts = default_name code ∷ names_of_texts texts

-- a name stands twice
abbrev pub has_repeat : List (List ℕ) → Bool
has_repeat [] = false
has_repeat (name ∷ names) = is_among names name || has_repeat names

-- more than 10,000 minutes
abbrev pub is_too_long : Fallback → Bool
is_too_long Never = false
is_too_long (After minutes) = nat_lt 10000 minutes
