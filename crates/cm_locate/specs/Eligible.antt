-- Which points and peers may serve a client.
use Rattle.std.specs.Prelude.{ℕ, ◌==◌, ◌&&◌, ◌||◌, not, Bool, List, length, filter}
use Rattle.std.specs.List.{list_any, range_with_len}
use Rattle.std.specs.Str.{bytes_eq}
use Rattle.cm_groups.specs.declared.group.Group.{Group}
use Rattle.cm_groups.specs.declared.options.Options.{Options}
use Rattle.cm_groups.specs.Current.{holds_client, is_current}
use Rattle.cm_groups.specs.Reach.{is_reached, some_current}
use Rattle.cm_peer.specs.declared.peer.Peer.{Peer}
use Rattle.cm_peer.specs.declared.peer.Cached.{Cached}
use Rattle.cm_peer.specs.declared.peer.PeerState.{PeerState}
use Rattle.cm_points.specs.declared.point.Point.{Point}
use Rattle.cm_points.specs.Installs.{InstalledRow, is_installed}
use Rattle.cm_locate.specs.declared.ask.Ask.{Ask}
use Rattle.cm_locate.specs.Asks.{is_asking, is_near}

-- the numbers of the groups that pass the test, rising
abbrev pub numbers_that : (ℕ → Bool) → List Group → List ℕ
numbers_that test groups = filter test (range_with_len 0 (length groups))

-- the current groups of the client: all that have a boundary which holds it
unfoldable pub current_of : List Group → Ask → List ℕ
current_of groups ask = numbers_that (is_current groups ask.address ask.site) groups

-- the further groups that the client reaches, by its current ones and the minutes
unfoldable pub reached_of : List Group → Ask → List ℕ
reached_of groups ask = numbers_that (is_reached groups (current_of groups ask) ask.elapsed ask.neighbours ask.default_group) groups

-- the group has the point
abbrev pub has_point : List ℕ → Group → Bool
has_point name group = list_any (λ point. bytes_eq point name) group.points

-- one of the groups of these numbers has the point
abbrev pub is_in : List Group → List ℕ → List ℕ → Bool
is_in groups name numbers = some_current (has_point name) groups numbers

-- a point has the version installed, and is in a current or reached group
abbrev pub is_eligible_point : List Group → List InstalledRow → Ask → Point → Bool
is_eligible_point groups installed ask point =
    is_installed installed point.name ask.package ask.version
    && (is_in groups point.name (current_of groups ask) || is_in groups point.name (reached_of groups ask))

-- the row is of the version that is asked for
abbrev pub is_of_version : Ask → Cached → Bool
is_of_version ask row = bytes_eq row.package ask.package && row.version == ask.version

-- a cached row is of the version that is asked for
abbrev pub has_cached : Ask → PeerState → Bool
has_cached ask state = list_any (is_of_version ask) state.cached

-- these options let a peer serve that is in the client's subnet, or is not
abbrev pub allows : Bool → Options → Bool
allows near options = options.peers && (not options.same_subnet_only || near)

-- the group holds the peer, by its address or site, and lets it serve the client
abbrev pub lets : Ask → Peer → Group → Bool
lets ask peer group = holds_client peer.address peer.site group && allows (is_near ask peer.address) group.options

-- a peer has the version cached, is not the computer that asks, and one current group lets it serve the client
abbrev pub is_eligible_peer : List Group → Ask → Peer → PeerState → Bool
is_eligible_peer groups ask peer state =
    has_cached ask state && not (is_asking ask peer.name) && some_current (lets ask peer) groups (current_of groups ask)
