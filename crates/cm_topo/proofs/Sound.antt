-- A document never comes to want of memory, and a topology that it comes to is sound.
use Rattle.std.proofs.Common.{◌≡◌, ◌≢◌, ◌∙◌, ℕ, refl, ap, sym, subst, true, All, List, [], ◌∷◌, Option, Some, None, Result, Ok, Err}
use Rattle.std.specs.Result.{MatchResult}
use Rattle.std.proofs.lemmas.List.Elements.{All-head, All-map}
use Rattle.toml.specs.Data.{Members}
use Rattle.cm_base.specs.Names.{is_folded_name, is_label}
use Rattle.cm_peer.specs.declared.peer.Peer.{Peer}
use Rattle.cm_points.specs.declared.point.Point.{Point}
use Rattle.cm_points.specs.declared.point.PointGroup.{PointGroup}
use Rattle.cm_topo.specs.declared.fault.TopoFault.{TopoFault}
use Rattle.cm_topo.specs.declared.fault.TopoFault.TheVariants as fault
use Rattle.cm_topo.specs.declared.trouble.Placed.{Placed}
use Rattle.cm_topo.specs.declared.topology.Topology.{Topology}
use Rattle.cm_topo.specs.declared.topology_text.TopologyText.{TopologyText}
use Rattle.cm_topo.specs.declared.trouble.Trouble.{Trouble}
use Rattle.cm_topo.specs.declared.trouble.Trouble.TheVariants.{Shape, Broken, Memory}
use Rattle.cm_topo.specs.Outcomes.{both_passes, checked, document_of, outcome, outcome_or, topology_in, topology_of, unless_faulty}
use Rattle.cm_topo.specs.Rows.{text_read}
use Rattle.cm_topo.specs.SecondPass.{names_of_peers, names_of_point_groups, names_of_points, second_pass}
use Rattle.cm_topo.specs.Topologies.{AreNames, IsTopology, IsWithinLimits, is_point_name}
use Rattle.cm_topo.specs.Troubles.{fault_from, fault_of, result_and_then, result_map_err}
use Rattle.cm_topo.proofs.InOrder.{GivesPlaced, and_then}
use Rattle.cm_topo.proofs.Referred.{ArePlacedFaults, AreReferred, second_faults, second_none}
use Rattle.cm_topo.proofs.Told.{IsReadText, gives_text}

-- the topology of rows that were read and whose names refer to what is there
topology_is_sound : (text : TopologyText) → IsReadText text → AreReferred text.servers → IsTopology (topology_of text)
topology_is_sound text read referred = record {
  limits = record {
    boundaries = read.sites.boundaries;
    groups = read.sites.groups;
    points = read.servers.few.points;
    point_groups = read.servers.few.point_groups;
    peers = read.servers.few.peers;
  };
  points = record { formed = All-map (λ (name : List ℕ). is_point_name name ≡ true) (λ (point : Point). point.name) text.servers.points read.servers.points; distinct = referred.points };
  point_groups = record { formed = All-map (λ (name : List ℕ). is_label name ≡ true) (λ (group : PointGroup). group.name) text.servers.point_groups read.servers.point_groups; distinct = referred.point_groups };
  peers = record { formed = All-map (λ (name : List ℕ). is_folded_name name ≡ true) (λ (peer : Peer). peer.name) text.servers.peers read.servers.peers; distinct = referred.peers };
  members = referred.members;
}

-- the first of the faults, or the topology
gives_checked : (text : TopologyText) → IsReadText text → (faults : List Placed) → ArePlacedFaults faults → (faults ≡ [] → AreReferred text.servers) → GivesPlaced IsTopology (unless_faulty faults (topology_of text))
gives_checked text read [] are none = topology_is_sound text read (none refl)
gives_checked text read (fault ∷ faults) are none = All-head (λ (placed : Placed). placed.trouble ≢ Memory) fault faults are

gives_topology : (d : Members) → GivesPlaced IsTopology (both_passes d)
gives_topology d =
    and_then IsReadText IsTopology (λ (placed : Placed). placed.trouble ≢ Memory) (text_read d) checked
    (λ text read. gives_checked text read (second_pass text) (second_faults text) (second_none text)) (gives_text d)

no_memory : (trouble : Trouble) (part entry : ℕ) → trouble ≢ Memory → fault_from trouble part entry ≢ fault.Memory
no_memory Shape part entry other e = cc
no_memory (Broken rule) part entry other e = cc
no_memory Memory part entry other e = other refl

sound : (said : Result Topology Placed) (topology : Topology) → GivesPlaced IsTopology said → result_map_err fault_of said ≡ Ok topology → IsTopology topology
sound (Ok found) topology is e = let same : found ≡ topology = cc in subst IsTopology same is
sound (Err placed) topology is e = absurd (cc)

told : (said : Result Topology Placed) → GivesPlaced IsTopology said → result_map_err fault_of said ≢ Err fault.Memory
told (Ok found) is e = cc
told (Err placed) is e = no_memory placed.trouble placed.part placed.entry is (cc)

in_sound : (found : Option Members) (topology : Topology) → outcome_or found ≡ Ok topology → IsTopology topology
in_sound None topology e = absurd (cc)
in_sound (Some d) topology e = sound (both_passes d) topology (gives_topology d) e

in_told : (found : Option Members) → outcome_or found ≢ Err fault.Memory
in_told None e = cc
in_told (Some d) e = told (both_passes d) (gives_topology d) e

pub each_is_sound : (bytes : List ℕ) (topology : Topology) → topology_in bytes ≡ Ok topology → IsTopology topology
each_is_sound bytes topology e = in_sound (document_of bytes) topology e

pub none_wants_memory : (bytes : List ℕ) → topology_in bytes ≢ Err fault.Memory
none_wants_memory bytes e = in_told (document_of bytes) e
