-- The rank of a source by what it depends on, and answers by other rows that say the same.
use Rattle.std.proofs.Common.{◌≡◌, ℕ, ◌&&◌, ◌||◌, not, Bool, cond, List, [], ◌∷◌, ◌++◌, refl, sym, ap, ◌∙◌, subst, Option, None, option_map}
use Rattle.std.specs.List.{cons_option, filter_map, zip}
use Rattle.std.specs.List.Sorted.{IsPermutation}
use Rattle.cm_groups.specs.declared.group.Group.{Group}
use Rattle.cm_peer.specs.declared.peer.Peer.{Peer}
use Rattle.cm_peer.specs.declared.peer.PeerState.{PeerState}
use Rattle.cm_peer.specs.declared.sources.SourceRow.{SourceRow}
use Rattle.cm_points.specs.declared.point.Point.{Point}
use Rattle.cm_points.specs.Installs.{AreSameRows, InstalledRow, is_installed}
use Rattle.cm_locate.specs.declared.ask.Ask.{Ask}
use Rattle.cm_locate.specs.Answers.{IsAnswer, peer_row, peer_rows, point_row, point_rows, source_of_peer, source_of_point}
use Rattle.cm_locate.specs.Asks.{is_asking, is_near, is_of_site}
use Rattle.cm_locate.specs.Eligible.{current_of, has_cached, has_point, is_eligible_peer, is_eligible_point, is_in, lets, reached_of}
use Rattle.cm_locate.specs.Ranks.{Source, default_of, exchanged, first_fit, is_point, neighbours_of, prefers_points, rank_of, row_of}

-- the rank of a source by whether it is in a current group, in a neighbour that is reached, in the default group, and whether points are preferred
abbrev pub rank_by : Ask → Source → Bool → Bool → Bool → Bool → Option ℕ
rank_by ask source c b d prefers =
    option_map (exchanged prefers)
    (first_fit
    ((is_point source.kind && c && is_asking ask source.name, 1)
    ∷ (not (is_point source.kind) && is_near ask source.address, 2)
    ∷ (is_point source.kind && c && is_near ask source.address, 3)
    ∷ (not (is_point source.kind) && is_of_site ask source.site, 4)
    ∷ (is_point source.kind && c && is_of_site ask source.site, 5)
    ∷ (not (is_point source.kind), 6)
    ∷ (is_point source.kind && c, 7)
    ∷ (is_point source.kind && b, 8)
    ∷ (is_point source.kind && d, 9)
    ∷ []))

made_same : {X Y : Type 0} (f g : X → Option Y) → ((x : X) → f x ≡ g x) → (xs : List X) → filter_map f xs ≡ filter_map g xs
made_same f g same [] = refl
made_same f g same (x ∷ xs) = ap (λ o. cons_option o (filter_map f xs)) (same x) ∙ ap (cons_option (g x)) (made_same f g same xs)

-- an answer is one by other rows that are the same
moved_answer : (groups others : List Group) (points : List Point) (peers : List Peer) (states : List PeerState) (installed its : List InstalledRow) (ask : Ask) (rows : List SourceRow)
    → ((point : Point) → point_row others its ask point ≡ point_row groups installed ask point) → ((pair : Peer × PeerState) → peer_row others ask pair ≡ peer_row groups ask pair)
    → IsAnswer groups points peers states installed ask rows → IsAnswer others points peers states its ask rows
moved_answer groups others points peers states installed its ask rows points_same peers_same answer =
    let same : (point_rows groups installed ask points ++ peer_rows groups ask peers states) ≡ (point_rows others its ask points ++ peer_rows others ask peers states) =
    sym (ap (λ (of_points : List SourceRow). of_points ++ peer_rows others ask peers states) (made_same (point_row others its ask) (point_row groups installed ask) points_same points)
    ∙ ap (λ (of_peers : List SourceRow). point_rows groups installed ask points ++ of_peers) (made_same (peer_row others ask) (peer_row groups ask) peers_same (zip peers states))) in
    record { each = subst (λ (listed : List SourceRow). IsPermutation listed rows) same answer.each; sorted = answer.sorted }

-- an answer by what was built of rows is one by the rows
pub answer_by_rows : (groups : List Group) (points : List Point) (peers : List Peer) (states : List PeerState) (given built : List InstalledRow) (ask : Ask) (rows : List SourceRow)
    → AreSameRows given built → IsAnswer groups points peers states built ask rows → IsAnswer groups points peers states given ask rows
answer_by_rows groups points peers states given built ask rows same answer =
    moved_answer groups groups points peers states built given ask rows
    (λ point.
    let there : Bool = is_in groups point.name (current_of groups ask) || is_in groups point.name (reached_of groups ask) in
    ap (λ has. cond (has && there) (row_of groups ask (source_of_point point)) None) (sym (same point.name ask.package ask.version)))
    (λ pair. refl) answer
