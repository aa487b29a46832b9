-- What holds of each topology that a text says.
use Rattle.std.specs.Prelude.{◌≡◌, ◌≤◌, ◌&&◌, ℕ, not, Bool, true, All, List, length}
use Rattle.std.specs.List.{IsDistinct}
use Rattle.std.specs.Str.{bytes_eq}
use Rattle.cm_base.specs.Names.{is_folded_name, is_label}
use Rattle.cm_groups.specs.Names.{is_among}
use Rattle.cm_points.specs.declared.point.Point.{Point}
use Rattle.cm_topo.specs.declared.topology.Topology.{Topology}
use Rattle.cm_topo.specs.Keys.{is_reserved}
use Rattle.cm_topo.specs.SecondPass.{names_of_peers, names_of_point_groups, names_of_points}

-- a folded name that no shelf of the site has
abbrev pub is_point_name : List ℕ → Bool
is_point_name name = is_folded_name name && not (is_reserved name)

-- names of a form, none of them twice
pub record AreNames (form : List ℕ → Bool) (names : List (List ℕ)) : Type 0 where
  pub formed : All (λ name. form name ≡ true) names
  pub distinct : IsDistinct bytes_eq names

-- no part has more entries than it may
pub record IsWithinLimits (topology : Topology) : Type 0 where
  pub boundaries : topology.boundary_count ≤ 2000
  pub groups : topology.group_count ≤ 500
  pub points : length topology.points ≤ 64
  pub point_groups : length topology.point_groups ≤ 64
  pub peers : length topology.peers ≤ 5000

-- each of these names is that of a point
abbrev pub ArePoints : List Point → List (List ℕ) → Type 0
ArePoints points names = All (λ name. is_among (names_of_points points) name ≡ true) names

pub record IsTopology (topology : Topology) : Type 0 where
  pub limits : IsWithinLimits topology
  pub points : AreNames is_point_name (names_of_points topology.points)
  pub point_groups : AreNames is_label (names_of_point_groups topology.point_groups)
  pub peers : AreNames is_folded_name (names_of_peers topology.peers)
  pub members : All (λ group. ArePoints topology.points group.members) topology.point_groups
