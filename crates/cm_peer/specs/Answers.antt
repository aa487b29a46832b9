-- What a peer answers.
use Rattle.std.specs.Prelude.{ℕ, ◌==◌, ◌&&◌, nat_le, nat_lt, Bool, List, find, Option, Some, None, if◌then◌else◌}
use Rattle.std.specs.Str.{bytes_eq}
use Rattle.cm_peer.specs.declared.peer.Cached.{Cached}
use Rattle.cm_peer.specs.declared.peer.PeerState.{PeerState}
use Rattle.cm_peer.specs.declared.offers.Want.{Want}
use Rattle.cm_peer.specs.declared.offers.Cause.{Cause}
use Rattle.cm_peer.specs.declared.offers.Cause.TheVariants.{LowBattery, Processor, DiskQueue, NoConnection, NotCached}
use Rattle.cm_peer.specs.declared.offers.Answer.{Answer}
use Rattle.cm_peer.specs.declared.offers.Answer.TheVariants.{Serve, Refused}

-- the row is that of the wanted package and version
abbrev pub is_row_of : Want → Cached → Bool
is_row_of want row = bytes_eq row.package want.package && row.version == want.version

-- the first row of the wanted package and version
abbrev pub row_of : Want → List Cached → Option Cached
row_of want rows = find (is_row_of want) rows

-- Why a peer serves nothing now: a low battery, a load above 80, a queue above 10, no connection left; the first that applies.
abbrev pub busy_cause : PeerState → ℕ → Option Cause
busy_cause state connections =
    if state.low_battery then Some LowBattery
    else if nat_lt 80 state.load then Some (Processor state.load)
    else if nat_lt 10 state.queue then Some (DiskQueue state.queue)
    else if nat_le connections state.used then Some (NoConnection connections)
    else None

-- the version of a row is served, and no row is none to serve
abbrev pub answer_of_row : Option Cached → Answer
answer_of_row None = Refused NotCached
answer_of_row (Some row) = Serve row.hash

-- a cause stands before any answer
abbrev pub unless_busy : Option Cause → Answer → Answer
unless_busy None answer = answer
unless_busy (Some cause) answer = Refused cause

-- the answer of a peer that serves at most so many connections
abbrev pub answer_of : PeerState → ℕ → Want → Answer
answer_of state connections want = unless_busy (busy_cause state connections) (answer_of_row (row_of want state.cached))
