-- What each record of the site's log makes of the records. None is refused: one that names what is not there changes nothing.
use Rattle.std.specs.Prelude.{ℕ, ◌+◌, ◌-◌, ◌^◌, ◌==◌, ◌&&◌, not, min, max, if◌then◌else◌, Bool, true, false, List, [], ◌∷◌, ◌++◌, map, filter, fold, Option, Some, None, unwrap_or}
use Rattle.std.specs.List.{list_any, flat_map}
use Rattle.std.specs.Option.{option_map_or}
use Rattle.std.specs.Ordering.{is_lt}
use Rattle.std.specs.Str.{bytes_eq}
use Rattle.cm_groups.specs.Names.{is_among}
use Rattle.cm_peer.specs.declared.peer.Cached.{Cached}
use Rattle.cm_peer.specs.declared.peer.Peer.{Peer}
use Rattle.cm_peer.specs.declared.peer.PeerState.{PeerState}
use Rattle.cm_points.specs.declared.point.PointGroup.{PointGroup}
use Rattle.cm_topo.specs.declared.topology.Topology.{Topology}
use Rattle.cm_notes.specs.declared.note.Note.{Note}
use Rattle.cm_notes.specs.declared.note.Note.TheVariants as note
use Rattle.cm_notes.specs.declared.to.To.{To}
use Rattle.cm_notes.specs.declared.to.To.TheVariants.{Point as ToPoint, Group as ToGroup}
use Rattle.cm_register.specs.declared.target.TargetRow.{TargetRow}
use Rattle.cm_register.specs.declared.target.TargetState.{TargetState}
use Rattle.cm_register.specs.declared.target.TargetState.TheVariants.{Due, Installed, Failed, Leaving}
use Rattle.cm_register.specs.Lists.{with_item}
use Rattle.cm_register.specs.Records.{Records, SentRow, first_state, has_point, has_target, is_same_sent, is_sent, is_target, is_target_before, members_of, named_points, peer_state, point_groups_of, sent_cmp, sent_to, target_state}

-- targets

-- the target of these is in that state
abbrev pub with_state : (TargetState → TargetState) → List ℕ → List ℕ → ℕ → List TargetRow → List TargetRow
with_state change point id version targets =
    map (λ (row : TargetRow). if is_target point id version row then record row { state = change row.state } else row) targets

abbrev pub without_target : List ℕ → List ℕ → ℕ → List TargetRow → List TargetRow
without_target point id version targets = filter (λ (row : TargetRow). not (is_target point id version row)) targets

-- a target, at its place, instead of the former one of these
abbrev pub with_target : TargetRow → List TargetRow → List TargetRow
with_target row targets = with_item is_target_before row (without_target row.point row.package row.version targets)

-- the target is due at that minute with no tries and the next number
abbrev pub made_due : List ℕ → List ℕ → ℕ → ℕ → Records → Records
made_due point id version minute records = record records {
  targets = with_target (record { point = point; «package» = id; version = version; state = Due minute 0; number = records.next }) records.targets;
  next = records.next + 1;
}

-- a target that is due was tried once more: it is due later, or failed at the last minute that there is
abbrev pub tried : ℕ → TargetState → TargetState
tried due (Due at tries) = if due == 2 ^ 64 - 1 then Failed else Due due (min (tries + 1) 255)
tried due Installed = Installed
tried due Failed = Failed
tried due Leaving = Leaving

-- sent

-- a sent row, once
abbrev pub with_sent : SentRow → List SentRow → List SentRow
with_sent row rows = if list_any (is_same_sent row) rows then rows else with_item (λ (a b : SentRow). is_lt (sent_cmp a b)) row rows

-- a version goes to a point that has no target for it, or one that failed
abbrev pub is_open : Option TargetState → Bool
is_open None = true
is_open (Some Failed) = true
is_open (Some state) = false

abbrev pub aimed : List ℕ → ℕ → ℕ → Records → List ℕ → Records
aimed id version minute records point =
    if is_open (target_state point id version records.targets) then made_due point id version minute records else records

-- the version is sent to points, one after the other
abbrev pub after_sent : SentRow → ℕ → Records → List (List ℕ) → Records
after_sent row minute records points = fold (aimed row.id row.version minute) (record records { sent = with_sent row records.sent }) points

-- the target leaves, and the point's own sent row
abbrev pub after_gone : List ℕ → List ℕ → ℕ → Records → Records
after_gone point id version records = record records {
  targets = without_target point id version records.targets;
  sent = filter (λ (row : SentRow). not (is_same_sent (record { id = id; version = version; to = ToPoint point }) row)) records.sent;
}

-- peers

-- the state of the peer of that name
abbrev pub changed_peer : List ℕ → (PeerState → PeerState) → List ℕ × PeerState → List ℕ × PeerState
changed_peer name change peer = (peer.0, if bytes_eq peer.0 name then change peer.1 else peer.1)

abbrev pub with_peer : List ℕ → (PeerState → PeerState) → Records → Records
with_peer name change records = record records { peers = map (changed_peer name change) records.peers }

abbrev pub is_cached : List ℕ → ℕ → Cached → Bool
is_cached id version row = bytes_eq row.package id && row.version == version

-- a cached row behind the others, once
abbrev pub with_cached : Cached → PeerState → PeerState
with_cached row state =
    if list_any (λ (other : Cached). is_cached row.package row.version other && bytes_eq other.hash.0 row.hash.0) state.cached then state
    else record state { cached = state.cached ++ row ∷ [] }

abbrev pub without_cached : List ℕ → ℕ → PeerState → PeerState
without_cached id version state = record state { cached = filter (λ (row : Cached). not (is_cached id version row)) state.cached }

-- all sent rows and cached rows of a version leave
abbrev pub after_deleted : List ℕ → ℕ → Records → Records
after_deleted id version records = record records {
  sent = filter (λ (row : SentRow). not (is_sent id version row)) records.sent;
  peers = map (λ (peer : List ℕ × PeerState). (peer.0, without_cached id version peer.1)) records.peers;
}

-- topology

-- the members of a group that were none before
abbrev pub newcomers : Records → PointGroup → List (List ℕ)
newcomers records group = filter (λ member. not (is_among (unwrap_or (members_of (point_groups_of records) group.name) []) member)) group.members

-- the targets that a new member of a group gets: one for each version that was sent to the group
abbrev pub joins_of : Records → List ℕ → List ℕ → List (List ℕ × SentRow)
joins_of records group member = map (λ row. (member, row)) (sent_to (ToGroup group) records.sent)

-- the same for all groups of a topology, each with its members in order
abbrev pub joins : Records → Topology → List (List ℕ × SentRow)
joins records topology = flat_map (λ (group : PointGroup). flat_map (joins_of records group.name) (newcomers records group)) topology.point_groups

-- a point that has no target for the version gets one
abbrev pub joined : ℕ → Records → List ℕ × SentRow → Records
joined minute records join =
    if has_target join.0 join.1.id join.1.version records.targets then records else made_due join.0 join.1.id join.1.version minute records

-- what is sent to a group that is gone leaves
abbrev pub is_to_there : Topology → To → Bool
is_to_there topology (ToPoint name) = true
is_to_there topology (ToGroup name) = list_any (λ (group : PointGroup). bytes_eq group.name name) topology.point_groups

-- the records under another topology: what belongs to points, point groups and peers that are gone leaves
abbrev pub under : ℕ → Topology → Records → Records
under number topology records = record {
  topology = Some topology;
  number = max records.number number;
  sent = filter (λ (row : SentRow). is_to_there topology row.to) records.sent;
  targets = filter (λ (row : TargetRow). has_point topology.points row.point) records.targets;
  next = records.next;
  peers = map (λ (peer : Peer). (peer.name, unwrap_or (peer_state peer.name records.peers) first_state)) topology.peers;
}

-- the topology is replaced: points that join a group get what was sent to it
unfoldable pub after_topology : ℕ → ℕ → Topology → Records → Records
after_topology number minute topology records = under number topology (fold (joined minute) records (joins records topology))

-- The records after a record of the log. One of a topology comes with the topology that its text says.
unfoldable pub after_note : Note → Option Topology → Records → Records
after_note (note.Topology number size hash minute) text records = option_map_or (λ topology. after_topology number minute topology records) text records
after_note (note.Sent id version to minute) text records =
    option_map_or (after_sent (record { id = id; version = version; to = to }) minute records) (named_points to records) records
after_note (note.Installed point id version) text records = record records { targets = with_state (λ state. Installed) point id version records.targets }
after_note (note.Tried point id version due) text records = record records { targets = with_state (tried due) point id version records.targets }
after_note (note.Leaving point id version) text records = record records { targets = with_state (λ state. Leaving) point id version records.targets }
after_note (note.Gone point id version) text records = if has_target point id version records.targets then after_gone point id version records else records
after_note (note.Deleted id version) text records = after_deleted id version records
after_note (note.PeerState name low load queue used) text records =
    with_peer name (λ state. record { low_battery = low; load = load; queue = queue; used = used; cached = state.cached }) records
after_note (note.Cached name id version hash) text records = with_peer name (with_cached (record { «package» = id; version = version; hash = hash })) records

-- the records after several in their order, each with its topology where it is one of a topology
abbrev pub after_notes : List (Note × Option Topology) → Records → Records
after_notes notes records = fold (λ so_far (one : Note × Option Topology). after_note one.0 one.1 so_far) records notes
