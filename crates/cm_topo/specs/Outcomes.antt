-- What a text says: a topology, or its first fault.
use Rattle.std.specs.Prelude.{ℕ, List, [], ◌∷◌, length, cond, Option, None, Some, Result, Ok, Err}
use Rattle.std.specs.Str.{is_utf8}
use Rattle.cm_groups.specs.Groups.{groups_of}
use Rattle.toml.specs.Data.{Members}
use Rattle.toml.specs.Parse.{parse_document}
use Rattle.cm_topo.specs.declared.fault.TopoFault.{TopoFault}
use Rattle.cm_topo.specs.declared.fault.TopoFault.TheVariants.{NotToml}
use Rattle.cm_topo.specs.declared.trouble.Placed.{Placed}
use Rattle.cm_topo.specs.declared.topology.Topology.{Topology}
use Rattle.cm_topo.specs.declared.topology_text.TopologyText.{TopologyText}
use Rattle.cm_topo.specs.Rows.{text_read}
use Rattle.cm_topo.specs.SecondPass.{second_pass}
use Rattle.cm_topo.specs.Troubles.{fault_of, result_and_then, result_map_err}

-- the topology of rows without a fault
abbrev pub topology_of : TopologyText → Topology
topology_of text = record {
  code = text.sites.code;
  boundary_count = length text.sites.boundaries;
  group_count = length text.sites.groups;
  groups = groups_of text.sites.code text.sites.boundaries text.sites.groups text.servers.default_points;
  points = text.servers.points;
  point_groups = text.servers.point_groups;
  peers = text.servers.peers;
}

-- the first fault, or the topology where there is none
abbrev pub unless_faulty : List Placed → Topology → Result Topology Placed
unless_faulty [] topology = Ok topology
unless_faulty (fault ∷ more) topology = Err fault

abbrev pub checked : TopologyText → Result Topology Placed
checked text = unless_faulty (second_pass text) (topology_of text)

-- the first fault of the first pass, else that of the second one, else the topology
abbrev pub both_passes : Members → Result Topology Placed
both_passes d = result_and_then (text_read d) checked

-- what a document comes to
abbrev pub outcome : Members → Result Topology TopoFault
outcome d = result_map_err fault_of (both_passes d)

-- the document that a text is, where it is text and TOML
abbrev pub document_of : List ℕ → Option Members
document_of text = cond (is_utf8 text) (parse_document text) None

abbrev pub outcome_or : Option Members → Result Topology TopoFault
outcome_or None = Err NotToml
outcome_or (Some document) = outcome document

-- the topology that a text says, or its first fault
abbrev pub topology_in : List ℕ → Result Topology TopoFault
topology_in text = outcome_or (document_of text)
