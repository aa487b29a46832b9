-- The records while nothing was written but topologies.
use Rattle.std.specs.Prelude.{ℕ, List, [], map, Option}
use Rattle.std.specs.Option.{option_map_or}
use Rattle.cm_peer.specs.declared.peer.Peer.{Peer}
use Rattle.cm_peer.specs.declared.peer.PeerState.{PeerState}
use Rattle.cm_topo.specs.declared.topology.Topology.{Topology}
use Rattle.cm_register.specs.Records.{Records, first_state}

-- the peers of a topology, each in its first state
abbrev pub first_states : Topology → List (List ℕ × PeerState)
first_states topology = map (λ (peer : Peer). (peer.name, first_state)) topology.peers

-- nothing was sent, and nothing was told of a peer
abbrev pub under_alone : Option Topology → ℕ → Records
under_alone topology number = record {
  topology = topology;
  number = number;
  sent = [];
  targets = [];
  next = 1;
  peers = option_map_or first_states topology [];
}
