-- A worked site: three points, a point group and three peers; and small logs of it.
use Rattle.std.specs.Prelude.{ℕ, true, false, List, [], ◌∷◌, ◌++◌, map, filter, not, codes, Option, Some, None, if◌then◌else◌}
use Rattle.std.specs.Str.{bytes_eq}
use Rattle.cm_base.specs.declared.hash.Hash.{Hash}
use Rattle.cm_disk.specs.Disk.{Files}
use Rattle.cm_log.specs.declared.shelf.Shelf.TheVariants.{Site}
use Rattle.cm_log.specs.declared.shelf.Side.TheVariants.{First, Second}
use Rattle.cm_log.specs.Records.{spelled as spelled_records}
use Rattle.cm_log.specs.Settled.{idle_log}
use Rattle.cm_log.specs.Shelves.{log_place, ready_place}
use Rattle.cm_net.specs.declared.address.Address.TheVariants.{V4}
use Rattle.cm_notes.specs.declared.note.Note.{Note}
use Rattle.cm_notes.specs.declared.note.Note.TheVariants as note
use Rattle.cm_notes.specs.declared.to.To.TheVariants.{Point as ToPoint, Group as ToGroup}
use Rattle.cm_peer.specs.declared.peer.Cached.{Cached}
use Rattle.cm_peer.specs.declared.peer.Peer.{Peer}
use Rattle.cm_points.specs.declared.point.Point.{Point}
use Rattle.cm_topo.specs.declared.topology.Topology.{Topology}
use Rattle.cm_register.specs.declared.target.TargetRow.{TargetRow}
use Rattle.cm_register.specs.declared.target.TargetState.{TargetState}
use Rattle.cm_register.specs.AfterNote.{after_notes}
use Rattle.cm_register.specs.Records.{Records, no_records}

-- some hash
abbrev pub hash_of : ℕ → Hash
hash_of byte = record { 0 = byte ∷ [] }

abbrev pub app : List ℕ
app = codes "PS100001"

abbrev pub point_at : List ℕ → Point
point_at name = record { name = name; address = V4 167837706; site = None; sources = [] }

abbrev pub peer_at : List ℕ → Peer
peer_at name = record { name = name; address = V4 167837773; site = None; connections = 10 }

-- the points, without those of that name
abbrev pub points_but : List ℕ → List Point
points_but name = filter (λ (point : Point). not (bytes_eq point.name name)) (map point_at (codes "dp1" ∷ codes "dp2" ∷ codes "dp4" ∷ []))

-- the topology, where its one point group has these members
abbrev pub france_of : List (List ℕ) → Topology
france_of members = record {
  code = codes "PS1";
  boundary_count = 0;
  group_count = 0;
  groups = [];
  points = points_but [];
  point_groups = record { name = codes "all-france"; members = members } ∷ [];
  peers = map peer_at (codes "pc7" ∷ codes "pc8" ∷ codes "pc9" ∷ []);
}

abbrev pub france : Topology
france = france_of (codes "dp1" ∷ codes "dp4" ∷ [])

-- a further member; without the first point; without the group; other peers
abbrev pub wider : Topology
wider = france_of (codes "dp1" ∷ codes "dp4" ∷ codes "dp2" ∷ [])

abbrev pub without_first_point : Topology
without_first_point = record france { points = points_but (codes "dp1") }

abbrev pub without_group : Topology
without_group = record france { point_groups = [] }

abbrev pub with_peers : List (List ℕ) → Topology
with_peers names = record france { peers = map peer_at names }

-- a record of a topology of that number, with the topology
abbrev pub replaced : ℕ → Topology → Note × Option Topology
replaced number topology = (note.Topology number 0 (hash_of 0) 7, Some topology)

-- one of another kind
abbrev pub told : Note → Note × Option Topology
told one = (one, None)

-- the topology, with these records behind it
abbrev pub behind_france : List (Note × Option Topology) → Records
behind_france notes = after_notes (replaced 1 france ∷ notes) no_records

abbrev pub target : List ℕ → TargetState → ℕ → TargetRow
target point state number = record { point = point; «package» = app; version = 1; state = state; number = number }

abbrev pub cached_row : ℕ → ℕ → Cached
cached_row version byte = record { «package» = app; version = version; hash = hash_of byte }

-- the version was sent to a point, which has it
abbrev pub sent_and_installed : List ℕ → List (Note × Option Topology)
sent_and_installed point = told (note.Sent app 1 (ToPoint point) 0) ∷ told (note.Installed point app 1) ∷ []

-- installed on all points, and cached at a peer
abbrev pub all_have_it : Records
all_have_it = behind_france (
    sent_and_installed (codes "dp1") ++ sent_and_installed (codes "dp2") ++ sent_and_installed (codes "dp4")
    ++ told (note.Cached (codes "pc9") app 1 (hash_of 7)) ∷ [])

-- two versions were sent to the group and are there
abbrev pub both_versions : Records
both_versions = behind_france (
    told (note.Sent app 1 (ToGroup (codes "all-france")) 0) ∷ told (note.Sent app 2 (ToGroup (codes "all-france")) 0)
    ∷ told (note.Installed (codes "dp1") app 1) ∷ told (note.Installed (codes "dp4") app 1)
    ∷ told (note.Installed (codes "dp1") app 2) ∷ told (note.Installed (codes "dp4") app 2) ∷ [])

-- a point was sent the version, left the topology, and came back: its sent row stayed, its target did not
abbrev pub lone_row : Records
lone_row = behind_france (told (note.Sent app 1 (ToPoint (codes "dp1")) 0) ∷ replaced 2 without_first_point ∷ replaced 3 france ∷ [])

-- a point that was sent the version, was tried in vain for the last time, and is sent it again
abbrev pub sent_after_failure : Records
sent_after_failure = behind_france (
    told (note.Sent app 1 (ToPoint (codes "dp2")) 5) ∷ told (note.Tried (codes "dp2") app 1 18446744073709551615)
    ∷ told (note.Sent app 1 (ToPoint (codes "dp2")) 9) ∷ [])

-- a point has its own target for the version, and then joins a group to which it was sent
abbrev pub joined_with_target : Records
joined_with_target = behind_france (
    told (note.Sent app 1 (ToPoint (codes "dp2")) 5) ∷ told (note.Sent app 1 (ToGroup (codes "all-france")) 5) ∷ replaced 2 wider ∷ [])

-- a group whose members are not in the order of their names
abbrev pub members_backwards : Records
members_backwards = after_notes (
    replaced 5 (france_of (codes "dp4" ∷ codes "dp1" ∷ [])) ∷ told (note.Sent app 1 (ToGroup (codes "all-france")) 5) ∷ []) no_records

-- two peers were told of, and one has something cached
abbrev pub peers_told : Records
peers_told = behind_france (
    told (note.Cached (codes "pc9") app 1 (hash_of 7)) ∷ told (note.PeerState (codes "pc9") true 81 2 3)
    ∷ told (note.PeerState (codes "pc7") false 5 0 0) ∷ [])

-- small logs

-- files with this live log and no text
abbrev pub with_log : List ℕ → Files
with_log bytes place =
    if bytes_eq (ready_place Site) place then Some []
    else (if bytes_eq (log_place Site First) place then Some bytes
    else (if bytes_eq (log_place Site Second) place then Some idle_log
    else None))

-- a live log of these records with these bytes behind them
abbrev pub log_of : List (List ℕ) → List ℕ → List ℕ
log_of bodies behind = (1 ∷ 1 ∷ 1 ∷ 0 ∷ 0 ∷ 0 ∷ 0 ∷ 0 ∷ 0 ∷ 0 ∷ []) ++ (spelled_records bodies ++ behind)

-- the topologies of that number are named, by size and hash of no text
abbrev pub of_number : ℕ → Note
of_number number = note.Topology number 9 (record { 0 = map (λ (byte : ℕ). 7) (codes "ba7816bf8f01cfea414140de5dae2223") }) 7

abbrev pub deleted : Note
deleted = note.Deleted app 1
