-- What is kept in memory takes a topology as its record does.
use Rattle.std.proofs.Common.{◌≡◌, ℕ, true, false, List, [], ◌∷◌, ◌++◌, refl, ◌∙◌, ap, sym}
use Rattle.std.specs.Prelude.{cond, max, map, find, fold, Option, Some, None, option_map, unwrap_or}
use Rattle.std.specs.List.{flat_map}
use Rattle.std.specs.Option.{option_map_or}
use Rattle.std.specs.Str.{bytes_eq}
use Rattle.cm_base.specs.declared.hash.Hash.{Hash}
use Rattle.cm_notes.specs.declared.note.Note.TheVariants as note
use Rattle.cm_peer.specs.declared.peer.Peer.{Peer}
use Rattle.cm_peer.specs.declared.peer.PeerState.{PeerState}
use Rattle.cm_points.specs.declared.point.PointGroup.{PointGroup}
use Rattle.cm_topo.specs.declared.topology.Topology.{Topology}
use Rattle.cm_register.specs.AfterNote.{after_note, after_topology, joined, joins, joins_of, newcomers, under}
use Rattle.cm_register.specs.Kept.{first_states, under_alone}
use Rattle.cm_register.specs.Records.{Records, SentRow, first_state, peer_state}
use Rattle.cm_register.proofs.Noted.{noted_topology}

nothing_from : {A B : Type 0} (f : A → List B) → ((x : A) → f x ≡ []) → (xs : List A) → flat_map f xs ≡ []
nothing_from f none [] = refl
nothing_from f none (x ∷ xs) = ap (λ t. t ++ flat_map f xs) (none x) ∙ nothing_from f none xs

-- where nothing was sent no point gets a target
no_joins : (topology : Option Topology) (number : ℕ) (next : Topology) → joins (under_alone topology number) next ≡ []
no_joins topology number next =
    nothing_from (λ (group : PointGroup). flat_map (joins_of (under_alone topology number) group.name) (newcomers (under_alone topology number) group))
    (λ group. nothing_from (joins_of (under_alone topology number) group.name) (λ member. refl) (newcomers (under_alone topology number) group))
    next.point_groups

-- each peer is in its first state
first_of : (name : List ℕ) (peers : List Peer) → unwrap_or (peer_state name (map (λ (peer : Peer). (peer.name, first_state)) peers)) first_state ≡ first_state
first_of name [] = refl
first_of name (peer ∷ peers) =
    elim (bytes_eq peer.name name) as (λ b. unwrap_or (option_map (λ (p : List ℕ × PeerState). p.1) (cond b (Some (peer.name, first_state)) (find (λ (p : List ℕ × PeerState). bytes_eq p.0 name) (map (λ (peer : Peer). (peer.name, first_state)) peers)))) first_state ≡ first_state) [
      | true ↦ refl
      | false ↦ first_of name peers
    ]

first_alone : (name : List ℕ) (topology : Option Topology) → unwrap_or (peer_state name (option_map_or first_states topology [])) first_state ≡ first_state
first_alone name None = refl
first_alone name (Some topology) = first_of name topology.peers

all_first : (old : Option Topology) (peers : List Peer)
    → map {B = List ℕ × PeerState} (λ (peer : Peer). (peer.name, unwrap_or (peer_state peer.name (option_map_or first_states old [])) first_state)) peers ≡ map (λ (peer : Peer). (peer.name, first_state)) peers
all_first old [] = refl
all_first old (peer ∷ peers) = let head = first_alone peer.name old in let rest = all_first old peers in cc

alone_then : (number minute : ℕ) (topology : Topology) (old : Option Topology) (before : ℕ) → after_topology number minute topology (under_alone old before) ≡ under_alone (Some topology) (max before number)
unfolding after_topology
alone_then number minute topology old before =
    ap (λ (these : List (List ℕ × SentRow)). under number topology (fold (joined minute) (under_alone old before) these)) (no_joins old before topology)
    ∙ ap (λ (peers : List (List ℕ × PeerState)). let r : Records = record { topology = Some topology; number = max before number; sent = []; targets = []; next = 1; peers = peers } in r) (all_first old topology.peers)

-- the topology is replaced, and the number is the greater one
pub topology_taken : (number size : ℕ) (hash : Hash) (minute : ℕ) (topology : Topology) (old : Option Topology) (before : ℕ)
    → under_alone (Some topology) (max before number) ≡ after_note (note.Topology number size hash minute) (Some topology) (under_alone old before)
topology_taken number size hash minute topology old before =
    sym (noted_topology number size hash minute topology (under_alone old before) ∙ alone_then number minute topology old before)
