-- Points that may serve, when minutes have passed.
use Rattle.std.proofs.Common.{◌≡◌, ℕ, ◌≤◌, ◌&&◌, ◌||◌, Bool, true, false, cond, IsTrue, List, [], ◌∷◌, filter, length, refl, sym, ◌∙◌, Option, None, option_map}
use Rattle.std.specs.List.{list_any, range_with_len}
use Rattle.std.proofs.lemmas.Bool.{true≢false}
use Rattle.cm_groups.specs.declared.group.Group.{Group}
use Rattle.cm_groups.specs.Current.{passes}
use Rattle.cm_groups.specs.Reach.{is_reached}
use Rattle.cm_peer.specs.declared.peer.Peer.{Peer}
use Rattle.cm_peer.specs.declared.peer.PeerState.{PeerState}
use Rattle.cm_peer.specs.declared.sources.Kind.TheVariants.{Point as ThePoint}
use Rattle.cm_peer.specs.declared.sources.SourceRow.{SourceRow}
use Rattle.cm_points.specs.declared.point.Point.{Point}
use Rattle.cm_points.specs.Installs.{InstalledRow, is_installed}
use Rattle.cm_locate.specs.declared.ask.Ask.{Ask}
use Rattle.cm_locate.specs.Eligible.{current_of, has_point, is_eligible_point, is_in, reached_of}
use Rattle.cm_locate.specs.Answers.{peer_row, point_row, source_of_point}
use Rattle.cm_locate.specs.Ranks.{Source, default_of, neighbours_of, prefers_points}
use Rattle.cm_locate.proofs.Reordered.{rank_by}

kept_any : (p : ℕ → Bool) (b : Bool) (x : ℕ) (kept : List ℕ) → list_any p (cond b (x ∷ kept) kept) ≡ ((b && p x) || list_any p kept)
kept_any p true x kept = refl
kept_any p false x kept = refl

one_still : (b c v w z : Bool) → (b ≡ true → c ≡ true) → (w ≡ true → z ≡ true) → ((b && v) || w) ≡ true → ((c && v) || z) ≡ true
one_still true true true w z f g h = refl
one_still true true false w z f g h = g h
one_still true false v w z f g h = absurd (true≢false (sym (f refl)))
one_still false true true w z f g h = refl
one_still false true false w z f g h = g h
one_still false false v w z f g h = g h

any_still : (p t u : ℕ → Bool) → ((n : ℕ) → t n ≡ true → u n ≡ true) → (xs : List ℕ) → list_any p (filter t xs) ≡ true → list_any p (filter u xs) ≡ true
any_still p t u still [] h = h
any_still p t u still (x ∷ xs) h =
    kept_any p (u x) x (filter u xs)
    ∙ one_still (t x) (u x) (p x) (list_any p (filter t xs)) (list_any p (filter u xs)) (still x) (any_still p t u still xs) (sym (kept_any p (t x) x (filter t xs)) ∙ h)

eligible_still : (i c r s : Bool) → (r ≡ true → s ≡ true) → (i && (c || r)) ≡ true → (i && (c || s)) ≡ true
eligible_still true true r s f h = refl
eligible_still true false r s f h = f h
eligible_still false c r s f h = h

-- what is reached after some minutes is reached after more
abbrev pub StaysReached : Type 0
StaysReached = (groups : List Group) (current : List ℕ) (elapsed later : ℕ) (neighbours default_group : Bool) (number : ℕ) → elapsed ≤ later
    → IsTrue (is_reached groups current elapsed neighbours default_group number) → IsTrue (is_reached groups current later neighbours default_group number)

-- a point that may serve may still do so later
pub point_still : StaysReached → (groups : List Group) (installed : List InstalledRow) (ask : Ask) (later : ℕ) (point : Point) → ask.elapsed ≤ later
    → is_eligible_point groups installed ask point ≡ true → is_eligible_point groups installed (record ask { elapsed = later }) point ≡ true
unfolding current_of reached_of
point_still stays groups installed ask later point more h =
    eligible_still (is_installed installed point.name ask.package ask.version) (is_in groups point.name (current_of groups ask)) (is_in groups point.name (reached_of groups ask))
    (is_in groups point.name (reached_of groups (record ask { elapsed = later })))
    (any_still (λ number. passes (has_point point.name) groups number)
    (is_reached groups (current_of groups ask) ask.elapsed ask.neighbours ask.default_group)
    (is_reached groups (current_of groups ask) later ask.neighbours ask.default_group)
    (λ number. stays groups (current_of groups ask) ask.elapsed later ask.neighbours ask.default_group number more)
    (range_with_len 0 (length groups)))
    h

-- the row of a point, by whether it is in a current group, a reached one, a neighbour, and the default group
abbrev row_by : Bool → Ask → Source → Bool → Bool → Bool → Bool → Bool → Option SourceRow
row_by has ask source prefers c r b d =
    cond (has && (c || r)) (option_map (λ rank. record { rank = rank; kind = ThePoint; name = source.name }) (rank_by ask (record source { kind = ThePoint }) c b d prefers)) None

same_row : (has : Bool) (ask : Ask) (source : Source) (prefers c r b d s e f : Bool) → c ≡ true → row_by has ask source prefers c r b d ≡ row_by has ask source prefers c s e f
same_row has ask source prefers true r b d s e f h = refl
same_row has ask source prefers false r b d s e f h = absurd (true≢false (sym h))

-- a point of a current group has the same row
pub point_stays : (groups : List Group) (installed : List InstalledRow) (ask : Ask) (later : ℕ) (point : Point) → is_in groups point.name (current_of groups ask) ≡ true
    → point_row groups installed (record ask { elapsed = later }) point ≡ point_row groups installed ask point
unfolding current_of
point_stays groups installed ask later point h =
    let after : Ask = record ask { elapsed = later } in
    same_row (is_installed installed point.name ask.package ask.version) ask (source_of_point point) (prefers_points groups ask) (is_in groups point.name (current_of groups ask))
    (is_in groups point.name (reached_of groups after)) (is_in groups point.name (neighbours_of (reached_of groups after))) (is_in groups point.name (default_of (reached_of groups after)))
    (is_in groups point.name (reached_of groups ask)) (is_in groups point.name (neighbours_of (reached_of groups ask))) (is_in groups point.name (default_of (reached_of groups ask))) h

-- a peer has the same row
pub peer_stays : (groups : List Group) (ask : Ask) (later : ℕ) (peer : Peer) (state : PeerState) → peer_row groups (record ask { elapsed = later }) (peer, state) ≡ peer_row groups ask (peer, state)
unfolding current_of
peer_stays groups ask later peer state = refl
