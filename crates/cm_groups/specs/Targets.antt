-- The groups that are reached, by marks.
use Rattle.std.specs.Prelude.{ℕ, ◌==◌, ◌&&◌, not, Bool, List, if◌then◌else◌}
use Rattle.cm_groups.specs.Marked.{is_marked}

-- the group is reached, by the marks of the current groups and of those to which they lead
abbrev pub is_marked_reached : List Bool → List Bool → Bool → Bool → ℕ → Bool
is_marked_reached own targets neighbours default number =
    (if number == 0 then default else neighbours && not (is_marked own number) && is_marked targets number)
