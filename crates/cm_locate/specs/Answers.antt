-- The ranked answer.
use Rattle.std.specs.Prelude.{List, ◌++◌, Option, None, if◌then◌else◌}
use Rattle.std.specs.List.{filter_map, zip}
use Rattle.std.specs.List.Sorted.{IsPermutation, IsSorted}
use Rattle.std.specs.Ordering.{nat_cmp, ordering_then}
use Rattle.std.specs.declared.cmp.Ordering.{Ordering}
use Rattle.std.specs.Cmp.Lexicographic.{slice_cmp}
use Rattle.cm_groups.specs.declared.group.Group.{Group}
use Rattle.cm_peer.specs.declared.peer.Peer.{Peer}
use Rattle.cm_peer.specs.declared.peer.PeerState.{PeerState}
use Rattle.cm_peer.specs.declared.sources.Kind.TheVariants.{Point as ThePoint, Peer as ThePeer}
use Rattle.cm_peer.specs.declared.sources.SourceRow.{SourceRow}
use Rattle.cm_points.specs.declared.point.Point.{Point}
use Rattle.cm_points.specs.Installs.{InstalledRow}
use Rattle.cm_locate.specs.declared.ask.Ask.{Ask}
use Rattle.cm_locate.specs.Eligible.{is_eligible_peer, is_eligible_point}
use Rattle.cm_locate.specs.Ranks.{Source, row_of}

abbrev pub source_of_point : Point → Source
source_of_point point = record { kind = ThePoint; name = point.name; address = point.address; site = point.site }

abbrev pub source_of_peer : Peer → Source
source_of_peer peer = record { kind = ThePeer; name = peer.name; address = peer.address; site = peer.site }

-- the row of a point, where it is eligible
abbrev pub point_row : List Group → List InstalledRow → Ask → Point → Option SourceRow
point_row groups installed ask point = (if is_eligible_point groups installed ask point then row_of groups ask (source_of_point point) else None)

-- the row of a peer, where it is eligible
abbrev pub peer_row : List Group → Ask → Peer × PeerState → Option SourceRow
peer_row groups ask pair = (if is_eligible_peer groups ask pair.0 pair.1 then row_of groups ask (source_of_peer pair.0) else None)

-- the rows of the eligible points, in the order of the points
abbrev pub point_rows : List Group → List InstalledRow → Ask → List Point → List SourceRow
point_rows groups installed ask points = filter_map (point_row groups installed ask) points

-- the rows of the eligible peers, in the order of the peers
abbrev pub peer_rows : List Group → Ask → List Peer → List PeerState → List SourceRow
peer_rows groups ask peers states = filter_map (peer_row groups ask) (zip peers states)

-- rows stand in order by rank, then by name
abbrev pub row_cmp : SourceRow → SourceRow → Ordering
row_cmp row other = ordering_then (nat_cmp row.rank other.rank) (slice_cmp nat_cmp row.name other.name)

-- the rows of all eligible sources, each once, by rank and then by name
pub record IsAnswer (groups : List Group) (points : List Point) (peers : List Peer) (states : List PeerState) (installed : List InstalledRow) (ask : Ask) (rows : List SourceRow) : Type 0 where
  pub each : IsPermutation (point_rows groups installed ask points ++ peer_rows groups ask peers states) rows
  pub sorted : IsSorted row_cmp rows
