-- The groups that have a point.
use Rattle.std.specs.Prelude.{◌≡◌, ℕ, ◌==◌, Bool, List, Vec}
use Rattle.std.specs.List.{list_any}
use Rattle.std.specs.declared.alloc.Global.{Global}
use Rattle.std.specs.BTreeMap.{BTreeMap, get}
use Rattle.std.specs.Cmp.Lexicographic.{slice_cmp}
use Rattle.std.specs.Ordering.{nat_cmp}
use Rattle.cm_net.specs.Sites.{numbers_there}
use Rattle.cm_groups.specs.declared.group.Group.{Group}
use Rattle.cm_groups.specs.Current.{passes}
use Rattle.cm_groups.specs.Names.{is_among}

-- the group has the point
abbrev pub has_point : List ℕ → Group → Bool
has_point name group = is_among group.points name

-- the map has the number for the point
abbrev pub has_group : BTreeMap (List ℕ) (Vec ℕ Global) → List ℕ → ℕ → Bool
has_group having name number = list_any (λ other. other == number) (numbers_there (get (slice_cmp nat_cmp) having name))

-- for each point the map has the numbers of the groups that have it, and no others
abbrev pub HasGroups : List Group → BTreeMap (List ℕ) (Vec ℕ Global) → Type 0
HasGroups groups having = (name : List ℕ) (number : ℕ) → has_group having name number ≡ passes (has_point name) groups number
