-- What is kept of a site: its topology, what was sent, the targets, and how the peers stand.
use Rattle.std.specs.Prelude.{ℕ, ◌==◌, ◌&&◌, cond, Bool, true, false, List, [], ◌∷◌, map, filter, find, sum_by, length, Option, Some, None, option_map}
use Rattle.std.specs.List.{list_any}
use Rattle.std.specs.Option.{option_map_or}
use Rattle.std.specs.Str.{bytes_eq}
use Rattle.std.specs.Ordering.{nat_cmp, is_lt, ordering_then}
use Rattle.std.specs.declared.cmp.Ordering.{Ordering}
use Rattle.std.specs.declared.cmp.Ordering.TheVariants.{Less, Greater}
use Rattle.std.specs.Cmp.Lexicographic.{slice_cmp}
use Rattle.cm_groups.specs.declared.group.Group.{Group}
use Rattle.cm_peer.specs.declared.peer.Peer.{Peer}
use Rattle.cm_peer.specs.declared.peer.PeerState.{PeerState}
use Rattle.cm_points.specs.declared.point.Point.{Point}
use Rattle.cm_points.specs.declared.point.PointGroup.{PointGroup}
use Rattle.cm_points.specs.Installs.{InstalledRow, is_row}
use Rattle.cm_topo.specs.declared.topology.Topology.{Topology}
use Rattle.cm_notes.specs.declared.to.To.{To}
use Rattle.cm_notes.specs.declared.to.To.TheVariants.{Point as ToPoint, Group as ToGroup}
use Rattle.cm_register.specs.declared.target.TargetRow.{TargetRow}
use Rattle.cm_register.specs.declared.target.TargetState.{TargetState}
use Rattle.cm_register.specs.declared.target.TargetState.TheVariants.{Due, Installed, Failed, Leaving}
use Rattle.cm_register.specs.Lists.{rising}

-- a version that was sent to a point or a point group
pub record SentRow : Type 0 where
  pub id : List ℕ
  pub version : ℕ
  pub to : To

-- The sent rows stand by package, version and receiver, the targets by point, package and version, the peers' states in the order of
-- the topology's peers. `number` is the greatest number of a topology so far, `next` the next target's.
pub record Records : Type 0 where
  pub topology : Option Topology
  pub number : ℕ
  pub sent : List SentRow
  pub targets : List TargetRow
  pub next : ℕ
  pub peers : List (List ℕ × PeerState)

-- new records
abbrev pub no_records : Records
no_records = record { topology = None; number = 0; sent = []; targets = []; next = 1; peers = [] }

-- the parts of the topology, none before the first one
abbrev pub points_of : Records → List Point
points_of records = option_map_or (λ (topology : Topology). topology.points) records.topology []

abbrev pub point_groups_of : Records → List PointGroup
point_groups_of records = option_map_or (λ (topology : Topology). topology.point_groups) records.topology []

abbrev pub groups_of : Records → List Group
groups_of records = option_map_or (λ (topology : Topology). topology.groups) records.topology []

abbrev pub peers_of : Records → List Peer
peers_of records = option_map_or (λ (topology : Topology). topology.peers) records.topology []

-- one of these points has the name
abbrev pub has_point : List Point → List ℕ → Bool
has_point points name = list_any (λ (point : Point). bytes_eq point.name name) points

-- the members of the point group of that name
abbrev pub members_of : List PointGroup → List ℕ → Option (List (List ℕ))
members_of groups name = option_map (λ (group : PointGroup). group.members) (find (λ (group : PointGroup). bytes_eq group.name name) groups)

-- the points to which is sent, by name; none where the topology does not have the point or the group
abbrev pub named_points : To → Records → Option (List (List ℕ))
named_points (ToPoint name) records = cond (has_point (points_of records) name) (Some (name ∷ [])) None
named_points (ToGroup name) records = option_map rising (members_of (point_groups_of records) name)

-- the point, package and version of a target
abbrev pub key_of : TargetRow → InstalledRow
key_of row = (row.point, row.package, row.version)

abbrev pub is_target : List ℕ → List ℕ → ℕ → TargetRow → Bool
is_target point id version row = is_row point id version (key_of row)

-- a target of any point is of this version
abbrev pub is_of_version : List ℕ → ℕ → TargetRow → Bool
is_of_version id version row = bytes_eq row.package id && row.version == version

-- targets stand by point, package, version
abbrev pub target_cmp : TargetRow → TargetRow → Ordering
target_cmp row other =
    ordering_then (slice_cmp nat_cmp row.point other.point) (ordering_then (slice_cmp nat_cmp row.package other.package) (nat_cmp row.version other.version))

abbrev pub is_target_before : TargetRow → TargetRow → Bool
is_target_before row other = is_lt (target_cmp row other)

-- how far the point is with the version, none where it has no target
abbrev pub target_state : List ℕ → List ℕ → ℕ → List TargetRow → Option TargetState
target_state point id version targets = option_map (λ (row : TargetRow). row.state) (find (is_target point id version) targets)

abbrev pub has_target : List ℕ → List ℕ → ℕ → List TargetRow → Bool
has_target point id version targets = list_any (is_target point id version) targets

abbrev pub is_installed : TargetState → Bool
is_installed (Due due tries) = false
is_installed Installed = true
is_installed Failed = false
is_installed Leaving = false

-- what is installed on the points
abbrev pub installed_rows : Records → List InstalledRow
installed_rows records = map key_of (filter (λ (row : TargetRow). is_installed row.state) records.targets)

-- how a receiver stands to another: points before groups, then by name
abbrev pub to_cmp : To → To → Ordering
to_cmp (ToPoint name) (ToPoint other) = slice_cmp nat_cmp name other
to_cmp (ToPoint name) (ToGroup other) = Less
to_cmp (ToGroup name) (ToPoint other) = Greater
to_cmp (ToGroup name) (ToGroup other) = slice_cmp nat_cmp name other

-- the receiver is that one
abbrev pub is_to : To → To → Bool
is_to (ToPoint name) (ToPoint other) = bytes_eq name other
is_to (ToPoint name) (ToGroup other) = false
is_to (ToGroup name) (ToPoint other) = false
is_to (ToGroup name) (ToGroup other) = bytes_eq name other

-- sent rows stand by package, version, receiver
abbrev pub sent_cmp : SentRow → SentRow → Ordering
sent_cmp row other = ordering_then (slice_cmp nat_cmp row.id other.id) (ordering_then (nat_cmp row.version other.version) (to_cmp row.to other.to))

abbrev pub is_sent : List ℕ → ℕ → SentRow → Bool
is_sent id version row = bytes_eq row.id id && row.version == version

abbrev pub is_same_sent : SentRow → SentRow → Bool
is_same_sent row other = is_sent row.id row.version other && is_to row.to other.to

-- what was sent to a receiver, by package and version
abbrev pub sent_to : To → List SentRow → List SentRow
sent_to to rows = filter (λ (row : SentRow). is_to row.to to) rows

-- a peer of which nothing was told
abbrev pub first_state : PeerState
first_state = record { low_battery = false; load = 0; queue = 0; used = 0; cached = [] }

-- how the peer of that name stands
abbrev pub peer_state : List ℕ → List (List ℕ × PeerState) → Option PeerState
peer_state name peers = option_map (λ (peer : List ℕ × PeerState). peer.1) (find (λ (peer : List ℕ × PeerState). bytes_eq peer.0 name) peers)

-- all cached rows of all peers
abbrev pub cached_count : Records → ℕ
cached_count records = sum_by (λ (peer : List ℕ × PeerState). length peer.1.cached) records.peers
