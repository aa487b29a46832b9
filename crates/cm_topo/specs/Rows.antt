-- What each table says, its keys in order, and the document as rows: the first pass.
use Rattle.std.specs.Prelude.{ℕ, ◌==◌, true, false, List, [], length, map, Option, Some, None, Result, Ok, Err, codes, if◌then◌else◌}
use Rattle.std.specs.List.{zip}
use Rattle.cm_groups.specs.declared.fallback.Fallback.{Fallback}
use Rattle.cm_groups.specs.declared.fallback.Fallback.TheVariants.{After}
use Rattle.cm_groups.specs.declared.group_text.GroupText.{GroupText}
use Rattle.cm_groups.specs.declared.options.Options.{Options}
use Rattle.cm_net.specs.declared.boundary.Boundary.{Boundary}
use Rattle.cm_peer.specs.declared.peer.Peer.{Peer}
use Rattle.cm_points.specs.declared.point.Point.{Point}
use Rattle.cm_points.specs.declared.point.PointGroup.{PointGroup}
use Rattle.cm_points.specs.declared.point.PullSource.{PullSource}
use Rattle.toml.specs.Data.{Data, Members, as_table, get_member}
use Rattle.cm_topo.specs.declared.trouble.Placed.{Placed}
use Rattle.cm_topo.specs.declared.topology_text.GroupsText.{GroupsText}
use Rattle.cm_topo.specs.declared.topology_text.ServersText.{ServersText}
use Rattle.cm_topo.specs.declared.topology_text.TopologyText.{TopologyText}
use Rattle.cm_topo.specs.declared.trouble.Trouble.{Trouble}
use Rattle.cm_topo.specs.declared.trouble.Trouble.TheVariants.{Shape, Broken}
use Rattle.cm_topo.specs.Entries.{list_said, rows_said}
use Rattle.cm_topo.specs.Keys.{address_said, boundary_said, code_said, flag_said, is_reserved, label_said, minutes_said, name_said, needed, number_said, otherwise, perhaps}
use Rattle.cm_topo.specs.Rules.{bad_name, most_relations, no_pull_source}
use Rattle.cm_topo.specs.Troubles.{fault_at, in_order2, in_order3, in_order4, result_and_then, result_map_err}

-- a value that must be a table
abbrev pub in_table : {X : Type 0} → (Members → Result X Trouble) → Option Members → Result X Trouble
in_table row None = Err Shape
in_table row (Some d) = row d

abbrev pub table_said : {X : Type 0} → (Members → Result X Trouble) → Data → Result X Trouble
table_said row value = in_table row (as_table value)

-- `[[boundary]]`
abbrev pub boundary_row : Members → Result (List ℕ × Boundary) Trouble
boundary_row d = in_order2 (λ name boundary. (name, boundary)) (needed label_said (get_member (codes "name") d)) (needed boundary_said (get_member (codes "at") d))

-- the truth values of a group
abbrev pub options_row : Members → Result Options Trouble
options_row d =
    in_order3 (λ peers same_subnet_only prefer_points. record { peers = peers; same_subnet_only = same_subnet_only; prefer_points = prefer_points })
    (otherwise true flag_said (get_member (codes "peers") d))
    (otherwise false flag_said (get_member (codes "same_subnet_only") d))
    (otherwise false flag_said (get_member (codes "prefer_points") d))

-- `[[group]]`, without its relations
abbrev pub group_row : Members → Result GroupText Trouble
group_row d =
    in_order4 (λ name boundaries points options. record { name = name; options = options; boundaries = boundaries; points = points; relations = [] })
    (needed label_said (get_member (codes "name") d))
    (list_said label_said None (get_member (codes "boundaries") d))
    (list_said name_said None (get_member (codes "points") d))
    (options_row d)

-- `[[group.relation]]`
abbrev pub relation_row : Members → Result (List ℕ × Fallback) Trouble
relation_row d = in_order2 (λ to minutes. (to, minutes)) (needed label_said (get_member (codes "to") d)) (otherwise (After 120) minutes_said (get_member (codes "minutes") d))

-- the relations of a group
abbrev pub relations_row : Members → Result (List (List ℕ × Fallback)) Trouble
relations_row d = list_said (table_said relation_row) (Some most_relations) (get_member (codes "relation") d)

-- one of `sources`
abbrev pub source_row : Members → Result PullSource Trouble
source_row d = in_order2 (λ point priority. record { point = point; priority = priority }) (needed name_said (get_member (codes "from") d)) (needed (number_said 255) (get_member (codes "priority") d))

-- `sources`: where it is there, at least one
abbrev pub at_least_one : List PullSource → Result (List PullSource) Trouble
at_least_one sources = if length sources == 0 then Err (Broken no_pull_source) else Ok sources

abbrev pub sources_said : Option Data → Result (List PullSource) Trouble
sources_said None = Ok []
sources_said (Some value) = result_and_then (list_said (table_said source_row) None (Some value)) at_least_one

-- the name of a point
abbrev pub unless_reserved : List ℕ → Result (List ℕ) Trouble
unless_reserved name = if is_reserved name then Err (Broken bad_name) else Ok name

abbrev pub point_name_said : Option Data → Result (List ℕ) Trouble
point_name_said value = result_and_then (needed name_said value) unless_reserved

-- `[[point]]`
abbrev pub point_row : Members → Result Point Trouble
point_row d =
    in_order4 (λ name address site sources. record { name = name; address = address; site = site; sources = sources })
    (point_name_said (get_member (codes "name") d))
    (needed address_said (get_member (codes "address") d))
    (perhaps name_said (get_member (codes "site") d))
    (sources_said (get_member (codes "sources") d))

-- `[[point_group]]`
abbrev pub point_group_row : Members → Result PointGroup Trouble
point_group_row d = in_order2 (λ name members. record { name = name; members = members }) (needed label_said (get_member (codes "name") d)) (list_said name_said None (get_member (codes "members") d))

-- `[[peer]]`
abbrev pub peer_row : Members → Result Peer Trouble
peer_row d =
    in_order4 (λ name address site connections. record { name = name; address = address; site = site; connections = connections })
    (needed name_said (get_member (codes "name") d))
    (needed address_said (get_member (codes "address") d))
    (perhaps name_said (get_member (codes "site") d))
    (needed (number_said 65535) (get_member (codes "connections") d))

-- `[default]`
abbrev pub default_row : Members → Result (List (List ℕ)) Trouble
default_row d = list_said name_said None (get_member (codes "points") d)

-- the rows of the part of that number, of which there may be so many
abbrev pub part_said : {X : Type 0} → (Data → Result X Trouble) → ℕ → ℕ → Option Data → Result (List X) Placed
part_said said part limit value = result_map_err (λ wrong. fault_at part wrong.0 wrong.1) (rows_said said (Some limit) value)

-- what a value says that stands in no entry of a part
abbrev pub alone : {X : Type 0} → ℕ → Result X Trouble → Result X Placed
alone part said = result_map_err (fault_at part 0) said

-- a group with its relations
abbrev pub with_relations : GroupText → List (List ℕ × Fallback) → GroupText
with_relations group relations = record { name = group.name; options = group.options; boundaries = group.boundaries; points = group.points; relations = relations }

abbrev pub groups_text : List ℕ → List (List ℕ × Boundary) → List GroupText → List (List (List ℕ × Fallback)) → GroupsText
groups_text code boundaries groups relations = record { code = code; boundaries = boundaries; groups = map (λ row. with_relations row.0 row.1) (zip groups relations) }

-- parts 0 to 3: the code, the boundaries, the groups and their relations
abbrev pub groups_read : Members → Result GroupsText Placed
groups_read d =
    in_order4 groups_text
    (alone 0 (needed code_said (get_member (codes "code") d)))
    (part_said (table_said boundary_row) 1 2000 (get_member (codes "boundary") d))
    (part_said (table_said group_row) 2 500 (get_member (codes "group") d))
    (part_said (table_said relations_row) 3 500 (get_member (codes "group") d))

-- parts 4 to 7: the points, the point groups, the peers and the default points
abbrev pub servers_read : Members → Result ServersText Placed
servers_read d =
    in_order4 (λ points point_groups peers default_points. record { points = points; point_groups = point_groups; peers = peers; default_points = default_points })
    (part_said (table_said point_row) 4 64 (get_member (codes "point") d))
    (part_said (table_said point_group_row) 5 64 (get_member (codes "point_group") d))
    (part_said (table_said peer_row) 6 5000 (get_member (codes "peer") d))
    (alone 7 (otherwise [] (table_said default_row) (get_member (codes "default") d)))

-- the rows of a document, or the first fault in an entry by itself
abbrev pub text_read : Members → Result TopologyText Placed
text_read d = in_order2 (λ groups servers. record { sites = groups; servers = servers }) (groups_read d) (servers_read d)
