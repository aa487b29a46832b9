-- The rows of the index of groups, and what is true of all groups.
use Rattle.std.specs.Prelude.{◌≡◌, ℕ, ◌+◌, ◌<◌, ◌≤◌, List, [], ◌∷◌, ◌++◌, All, Some, Vec, length, map, option_map}
use Rattle.std.specs.declared.alloc.Global.{Global}
use Rattle.std.specs.BTreeMap.{BTreeMap}
use Rattle.std.specs.List.{slice_get}
use Rattle.cm_net.specs.declared.boundary.Boundary.{Boundary}
use Rattle.cm_groups.specs.declared.group.Group.{Group}
use Rattle.cm_groups.specs.Having.{HasGroups}

-- each boundary of the groups with the number of its group, where the first group has this number
abbrev pub rows_from : ℕ → List Group → List (Boundary × ℕ)
rows_from number [] = []
rows_from number (group ∷ groups) = map (λ boundary. (boundary, number)) group.boundaries ++ rows_from (number + 1) groups

-- each relation of the group is to one of so many groups
abbrev pub LeadsWithin : ℕ → Group → Type 0
LeadsWithin count group = All (λ relation. relation.0 < count) group.relations

-- group 0 is there and has no boundary, relations lead to groups that are there, and there are at most 501
pub record AreGroups (groups : List Group) : Type 0 where
  pub first : option_map (λ (group : Group). group.boundaries) (slice_get groups 0) ≡ Some []
  pub within : All (LeadsWithin (length groups)) groups
  pub few : length groups ≤ 501

-- the index has the rows of the groups, and the map their points
pub record AreKept (groups : List Group) (rows : List (Boundary × ℕ)) (having : BTreeMap (List ℕ) (Vec ℕ Global)) : Type 0 where
  pub sound : AreGroups groups
  pub indexed : rows ≡ rows_from 0 groups
  pub pointed : HasGroups groups having
