-- The second pass: the names that refer to others, through the parts in order.
use Rattle.std.specs.Prelude.{ℕ, ◌+◌, ◌++◌, ◌≤◌, not, Bool, List, length, map, take}
use Rattle.std.specs.List.{flat_map, list_any}
use Rattle.std.specs.Str.{bytes_eq}
use Rattle.cm_groups.specs.declared.fallback.Fallback.{Fallback}
use Rattle.cm_groups.specs.declared.group_text.GroupText.{GroupText}
use Rattle.cm_groups.specs.Faults.{lacks_boundary}
use Rattle.cm_groups.specs.Names.{is_among, is_before}
use Rattle.cm_groups.specs.Texts.{group_names, names_of_rows}
use Rattle.cm_net.specs.declared.boundary.Boundary.{Boundary}
use Rattle.cm_peer.specs.declared.peer.Peer.{Peer}
use Rattle.cm_points.specs.declared.point.Point.{Point}
use Rattle.cm_points.specs.declared.point.PointGroup.{PointGroup}
use Rattle.cm_points.specs.declared.point.PullSource.{PullSource}
use Rattle.cm_topo.specs.declared.known.Known.{Known}
use Rattle.cm_topo.specs.declared.trouble.Placed.{Placed}
use Rattle.cm_topo.specs.declared.topology_text.GroupsText.{GroupsText}
use Rattle.cm_topo.specs.declared.topology_text.ServersText.{ServersText}
use Rattle.cm_topo.specs.declared.topology_text.TopologyText.{TopologyText}
use Rattle.cm_topo.specs.declared.trouble.Trouble.{Trouble}
use Rattle.cm_topo.specs.Rules.{no_such_boundary, no_such_group, no_such_point, pull_from_itself, same_name, same_relation, self_relation}
use Rattle.cm_topo.specs.Troubles.{broken_if, broken_unless, each_entry, fault_at, numbered}

-- the names of points, of point groups and of peers, in order
abbrev pub names_of_points : List Point → List (List ℕ)
names_of_points points = map (λ point. point.name) points

abbrev pub names_of_point_groups : List PointGroup → List (List ℕ)
names_of_point_groups groups = map (λ group. group.name) groups

abbrev pub names_of_peers : List Peer → List (List ℕ)
names_of_peers peers = map (λ peer. peer.name) peers

-- the names that there are; the default group has number 0 among the groups
abbrev pub known_of : TopologyText → Known
known_of text = record {
  boundaries = names_of_rows text.sites.boundaries;
  groups = group_names text.sites.code text.sites.groups;
  points = names_of_points text.servers.points;
  point_groups = names_of_point_groups text.servers.point_groups;
  peers = names_of_peers text.servers.peers;
}

-- the name stands in its part before that place
abbrev pub repeated : List (List ℕ) → ℕ → List ℕ → List Trouble
repeated names end name = broken_if (is_before names end name) same_name

-- one of the wanted names is not there
abbrev pub lacks : List (List ℕ) → List (List ℕ) → Bool
lacks names wanted = list_any (λ name. not (is_among names name)) wanted

-- the name of a boundary
abbrev pub boundary_refers : Known → ℕ → List ℕ × Boundary → List Trouble
boundary_refers known entry row = repeated known.boundaries entry row.0

-- the name of a group, its boundaries and its points
abbrev pub group_refers : Known → ℕ → GroupText → List Trouble
group_refers known entry text =
    repeated known.groups (entry + 1) text.name
    ++ broken_if (lacks_boundary known.boundaries text) no_such_boundary
    ++ broken_if (lacks known.points text.points) no_such_point

-- where a relation of a group of that name leads, behind these relations
abbrev pub relation_refers : Known → List ℕ → List (List ℕ × Fallback) → List ℕ → List Trouble
relation_refers known name before to =
    broken_unless (is_among known.groups to) no_such_group
    ++ broken_if (bytes_eq to name) self_relation
    ++ broken_if (list_any (λ relation. bytes_eq relation.0 to) before) same_relation

-- the relations of a group of that name, in order
abbrev pub relations_refer : Known → List ℕ → List (List ℕ × Fallback) → List Trouble
relations_refer known name relations = numbered (λ number relation. relation_refers known name (take number relations) relation.0) 0 relations

abbrev pub group_relations_refer : Known → ℕ → GroupText → List Trouble
group_relations_refer known entry text = relations_refer known text.name text.relations

-- a source of a point of that name
abbrev pub source_refers : Known → List ℕ → PullSource → List Trouble
source_refers known name source =
    broken_unless (is_among known.points source.point) no_such_point
    ++ broken_if (bytes_eq source.point name) pull_from_itself

-- the name of a point, and its sources
abbrev pub point_refers : Known → ℕ → Point → List Trouble
point_refers known entry point = repeated known.points entry point.name ++ flat_map (source_refers known point.name) point.sources

-- the name of a point group, and its members
abbrev pub point_group_refers : Known → ℕ → PointGroup → List Trouble
point_group_refers known entry group = repeated known.point_groups entry group.name ++ broken_if (lacks known.points group.members) no_such_point

-- the name of a peer
abbrev pub peer_refers : Known → ℕ → Peer → List Trouble
peer_refers known entry peer = repeated known.peers entry peer.name

-- the boundaries, the groups and their relations, by the names that there are
abbrev pub groups_refer : Known → GroupsText → List Placed
groups_refer known text =
    each_entry 1 (boundary_refers known) 0 text.boundaries
    ++ each_entry 2 (group_refers known) 0 text.groups
    ++ each_entry 3 (group_relations_refer known) 0 text.groups

-- the points, the point groups, the peers and the default points
abbrev pub servers_refer : Known → ServersText → List Placed
servers_refer known text =
    each_entry 4 (point_refers known) 0 text.points
    ++ each_entry 5 (point_group_refers known) 0 text.point_groups
    ++ each_entry 6 (peer_refers known) 0 text.peers
    ++ map (fault_at 7 0) (broken_if (lacks known.points text.default_points) no_such_point)

-- all parts in order, by the names that there are
abbrev pub refers : Known → TopologyText → List Placed
refers known text = groups_refer known text.sites ++ servers_refer known text.servers

abbrev pub second_pass : TopologyText → List Placed
second_pass text = refers (known_of text) text

-- no part has more rows than it may
pub record AreFewGroups (text : GroupsText) : Type 0 where
  pub boundaries : length text.boundaries ≤ 2000
  pub groups : length text.groups ≤ 500

pub record AreFewServers (text : ServersText) : Type 0 where
  pub points : length text.points ≤ 64
  pub point_groups : length text.point_groups ≤ 64
  pub peers : length text.peers ≤ 5000
