-- Which further groups a client reaches.
use Rattle.std.specs.Prelude.{ℕ, ◌==◌, ◌&&◌, ◌||◌, nat_le, not, Bool, false, List, length, if◌then◌else◌}
use Rattle.std.specs.List.{list_any}
use Rattle.cm_groups.specs.declared.fallback.Fallback.{Fallback}
use Rattle.cm_groups.specs.declared.fallback.Fallback.TheVariants.{Never, After}
use Rattle.cm_groups.specs.declared.group.Group.{Group}
use Rattle.cm_groups.specs.Current.{passes}

-- it counts after that many minutes: from the minute of its number on
abbrev pub counts : ℕ → Fallback → Bool
counts elapsed Never = false
counts elapsed (After minutes) = nat_le minutes elapsed

-- the group has a relation to that one
abbrev pub has_relation : ℕ → Group → Bool
has_relation number group = list_any (λ relation. relation.0 == number) group.relations

-- the group has a relation to that one which counts
abbrev pub leads_to : ℕ → ℕ → Group → Bool
leads_to elapsed number group = list_any (λ relation. relation.0 == number && counts elapsed relation.1) group.relations

-- the group's relation to the default group counts: the one that it has, or else one of 120 minutes
abbrev pub leads_to_default : ℕ → Group → Bool
leads_to_default elapsed group = (if has_relation 0 group then leads_to elapsed 0 group else nat_le 120 elapsed)

-- some current group passes the test
abbrev pub some_current : (Group → Bool) → List Group → List ℕ → Bool
some_current test groups current = list_any (λ number. passes test groups number) current

-- the default group is reached: it is allowed, and no group is current or one leads to it
abbrev pub is_default_reached : List Group → List ℕ → ℕ → Bool → Bool
is_default_reached groups current elapsed allowed = allowed && (length current == 0 || some_current (leads_to_default elapsed) groups current)

-- a neighbour is reached: they are allowed, it is not current, and a current group leads to it
abbrev pub is_neighbour_reached : List Group → List ℕ → ℕ → Bool → ℕ → Bool
is_neighbour_reached groups current elapsed allowed number =
    allowed && not (list_any (λ other. other == number) current) && some_current (leads_to elapsed number) groups current

-- the group of that number is reached: group 0 as the default group, any other one as a neighbour
abbrev pub is_reached : List Group → List ℕ → ℕ → Bool → Bool → ℕ → Bool
is_reached groups current elapsed neighbours default_group number =
    (if number == 0 then is_default_reached groups current elapsed default_group else is_neighbour_reached groups current elapsed neighbours number)
