-- Each source stands once, where no two points and no two peers have one name.
use Rattle.std.proofs.Common.{◌≡◌, ℕ, option_map, Bool, false, List, [], ◌∷◌, ◌++◌, All, AllPairs, IfSome, map, get_or, refl, sym, ap, ◌∙◌, arith, Option, None, Some}
use Rattle.std.specs.Cmp.{IsTotalOrder}
use Rattle.std.specs.Cmp.Lexicographic.{slice_cmp}
use Rattle.std.specs.List.{AllByRecursion, IsDistinct, cons_option, filter_map, zip}
use Rattle.std.specs.Ordering.{is_eq, is_lt, nat_cmp, ordering_reverse, ordering_then}
use Rattle.std.specs.Str.{bytes_eq}
use Rattle.std.specs.declared.cmp.Ordering.{Ordering}
use Rattle.std.specs.declared.cmp.Ordering.TheVariants.{Less, Equal, Greater}
use Rattle.std.proofs.lemmas.List.Elements.{All-append, All-from_recursion, All-head, All-tail, All-weaker, recursion_from_All}
use Rattle.std.proofs.lemmas.List.Sorted.{ranks_by, sorted_far}
use Rattle.std.proofs.lemmas.Map.Keys.{IsDistinct-IsPermutation, IsDistinct-cons, IsDistinct-head, IsDistinct-tail, apart_from_distinct}
use Rattle.std.proofs.lemmas.Map.Lookups.{exact_unsigned}
use Rattle.std.proofs.lemmas.Map.Text.{is_eq-slice_cmp}
use Rattle.cm_groups.specs.declared.group.Group.{Group}
use Rattle.cm_peer.specs.declared.peer.Peer.{Peer}
use Rattle.cm_peer.specs.declared.peer.PeerState.{PeerState}
use Rattle.cm_peer.specs.declared.sources.Kind.{Kind}
use Rattle.cm_peer.specs.declared.sources.Kind.TheVariants.{Point as ThePoint, Peer as ThePeer}
use Rattle.cm_peer.specs.declared.sources.SourceRow.{SourceRow}
use Rattle.cm_points.specs.declared.point.Point.{Point}
use Rattle.cm_points.specs.Installs.{InstalledRow}
use Rattle.cm_locate.specs.declared.ask.Ask.{Ask}
use Rattle.cm_locate.specs.Answers.{IsAnswer, peer_row, peer_rows, point_row, point_rows, row_cmp, source_of_peer, source_of_point}
use Rattle.cm_locate.specs.Eligible.{is_eligible_peer, is_eligible_point}
use Rattle.cm_locate.specs.Ranks.{kind_of_rank, prefers_points, rank_of, row_of}
use Rattle.cm_locate.proofs.KindsApart.{HasKind, all_made, kinds, row_cmp_total, where_eligible}

-- two rows tie in the order
abbrev ties : SourceRow → SourceRow → Bool
ties row other = is_eq (row_cmp row other)

ties_then : (a b : Ordering) → is_eq b ≡ false → is_eq (ordering_then a b) ≡ false
ties_then Less b h = refl
ties_then Equal b h = h
ties_then Greater b h = refl

-- rows of other names do not tie
names_apart : (row other : SourceRow) (name its : List ℕ) → row.name ≡ name → other.name ≡ its → bytes_eq name its ≡ false → ties row other ≡ false
names_apart row other name its one two h =
    ties_then (nat_cmp row.rank other.rank) (slice_cmp nat_cmp row.name other.name)
    (is_eq-slice_cmp row.name other.name ∙ ap (λ (n : List ℕ). bytes_eq n other.name) one ∙ ap (bytes_eq name) two ∙ h)

one_apart : (P : SourceRow → Type 0) (found : Option SourceRow) (rest : List SourceRow) → IfSome found P → AllByRecursion P rest → AllByRecursion P (cons_option found rest)
one_apart P None rest h all = all
one_apart P (Some row) rest h all = (h, all)

if_named : (row : SourceRow) (name its : List ℕ) (found : Option SourceRow) → row.name ≡ name → bytes_eq name its ≡ false → IfSome found (λ other. other.name ≡ its) → IfSome found (λ other. ties row other ≡ false)
if_named row name its None one h named = tt
if_named row name its (Some other) one h named = names_apart row other name its one named h

later_apart : {X : Type 0} (name : X → List ℕ) (f : X → Option SourceRow) → ((x : X) → IfSome (f x) (λ row. row.name ≡ name x)) → (row : SourceRow) (its : List ℕ) → row.name ≡ its → (xs : List X)
    → AllByRecursion (λ other. bytes_eq its other ≡ false) (map name xs) → AllByRecursion (λ other. ties row other ≡ false) (filter_map f xs)
later_apart name f named row its one [] h = h
later_apart name f named row its one (x ∷ xs) h =
    one_apart (λ other. ties row other ≡ false) (f x) (filter_map f xs) (if_named row its (name x) (f x) one h.0 (named x)) (later_apart name f named row its one xs h.1)

one_distinct : (found : Option SourceRow) (rest : List SourceRow) → IfSome found (λ row. AllByRecursion (λ other. ties row other ≡ false) rest) → IsDistinct ties rest → IsDistinct ties (cons_option found rest)
one_distinct None rest h all = all
one_distinct (Some row) rest h all = IsDistinct-cons ties row rest h all

if_some : {X : Type 0} (P Q : X → Type 0) (found : Option X) → ((x : X) → P x → Q x) → IfSome found P → IfSome found Q
if_some P Q None f h = tt
if_some P Q (Some x) f h = f x h

none_tie : IsDistinct ties []
unfolding IsDistinct
none_tie = tt

-- rows of things with other names are distinct
rows_distinct : {X : Type 0} (name : X → List ℕ) (f : X → Option SourceRow) → ((x : X) → IfSome (f x) (λ row. row.name ≡ name x)) → (xs : List X) → IsDistinct bytes_eq (map name xs) → IsDistinct ties (filter_map f xs)
rows_distinct name f named [] h = none_tie
rows_distinct name f named (x ∷ xs) h =
    one_distinct (f x) (filter_map f xs)
    (if_some (λ row. row.name ≡ name x) (λ row. AllByRecursion (λ other. ties row other ≡ false) (filter_map f xs)) (f x)
    (λ row one. later_apart name f named row (name x) one xs (IsDistinct-head bytes_eq (name x) (map name xs) h)) (named x))
    (rows_distinct name f named xs (IsDistinct-tail bytes_eq (name x) (map name xs) h))

distinct_both : (xs ys : List SourceRow) → IsDistinct ties xs → IsDistinct ties ys → All (λ x. All (λ y. ties x y ≡ false) ys) xs → IsDistinct ties (xs ++ ys)
distinct_both [] ys one two cross = two
distinct_both (x ∷ xs) ys one two cross =
    let P : SourceRow → Type 0 = λ y. ties x y ≡ false in
    let C : SourceRow → Type 0 = λ z. All (λ y. ties z y ≡ false) ys in
    IsDistinct-cons ties x (xs ++ ys)
    (recursion_from_All P (xs ++ ys) (All-append P xs ys (All-from_recursion P xs (IsDistinct-head ties x xs one)) (All-head C x xs cross)))
    (distinct_both xs ys (IsDistinct-tail ties x xs one) two (All-tail C x xs cross))

-- a row of that kind, by its rank too
abbrev Is : List Group → Ask → Kind → SourceRow → Type 0
Is groups ask kind row = (row.kind ≡ kind) × HasKind groups ask row

kinds_apart : (groups : List Group) (ask : Ask) (row other : SourceRow) → Is groups ask ThePoint row → Is groups ask ThePeer other → ties row other ≡ false
kinds_apart groups ask row other one two =
    elim (nat_cmp row.rank other.rank) as (λ o. nat_cmp row.rank other.rank ≡ o → is_eq (ordering_then o (slice_cmp nat_cmp row.name other.name)) ≡ false) [
      | Less ↦ λ e. refl
      | Equal ↦ λ e.
          let same : ThePoint ≡ ThePeer =
          sym one.0 ∙ one.1 ∙ ap (kind_of_rank (prefers_points groups ask)) (exact_unsigned row.rank other.rank e) ∙ sym two.1 ∙ two.0 in
          absurd (cc)
      | Greater ↦ λ e. refl
    ] refl

flipped : (a b : Ordering) → a ≡ ordering_reverse b → is_eq a ≡ is_eq b
flipped a Less e = ap is_eq e
flipped a Equal e = ap is_eq e
flipped a Greater e = ap is_eq e

before : (o p : Ordering) → o ≡ ordering_reverse p → is_eq o ≡ false → is_lt p ≡ false → o ≡ Less
before Less p e f g = refl
before Equal p e f g = absurd (cc)
before Greater Less e f g = absurd (cc)
before Greater Equal e f g = absurd (cc)
before Greater Greater e f g = absurd (cc)

both_facts : (name : List ℕ) (kind : Kind) (groups : List Group) (ask : Ask) (found : Option ℕ) → IfSome found (λ rank. kind ≡ kind_of_rank (prefers_points groups ask) rank)
    → IfSome {T = SourceRow} (option_map (λ rank. record { rank = rank; kind = kind; name = name }) found) (λ row. (row.name ≡ name) × Is groups ask kind row)
both_facts name kind groups ask None h = tt
both_facts name kind groups ask (Some rank) h = (refl, (refl, h))

-- the rows of an answer rise strictly
pub rows_rise : (groups : List Group) (points : List Point) (peers : List Peer) (states : List PeerState) (installed : List InstalledRow) (ask : Ask) (rows : List SourceRow)
    → IsDistinct bytes_eq (map (λ point. point.name) points) → IsDistinct bytes_eq (map (λ pair. pair.0.name) (zip peers states))
    → IsAnswer groups points peers states installed ask rows → AllPairs (λ row other. row_cmp row other ≡ Less) rows
rows_rise groups points peers states installed ask rows points_apart peers_apart answer =
    let o : IsTotalOrder row_cmp = row_cmp_total in
    let of_points : List SourceRow = point_rows groups installed ask points in
    let of_peers : List SourceRow = peer_rows groups ask peers states in
    let N : List ℕ → Kind → SourceRow → Type 0 = λ name kind row. (row.name ≡ name) × Is groups ask kind row in
    let point_facts : (point : Point) → IfSome (point_row groups installed ask point) (N point.name ThePoint) =
    λ point. where_eligible (N point.name ThePoint) (is_eligible_point groups installed ask point) (row_of groups ask (source_of_point point))
    (both_facts point.name ThePoint groups ask (rank_of groups ask (source_of_point point)) (kinds groups ask ThePoint point.name point.address point.site)) in
    let peer_facts : (pair : Peer × PeerState) → IfSome (peer_row groups ask pair) (N pair.0.name ThePeer) =
    λ pair. where_eligible (N pair.0.name ThePeer) (is_eligible_peer groups ask pair.0 pair.1) (row_of groups ask (source_of_peer pair.0))
    (both_facts pair.0.name ThePeer groups ask (rank_of groups ask (source_of_peer pair.0)) (kinds groups ask ThePeer pair.0.name pair.0.address pair.0.site)) in
    let are_points : All (Is groups ask ThePoint) of_points =
    all_made (Is groups ask ThePoint) (point_row groups installed ask) points (λ point. if_some (N point.name ThePoint) (Is groups ask ThePoint) (point_row groups installed ask point) (λ row h. h.1) (point_facts point)) in
    let are_peers : All (Is groups ask ThePeer) of_peers =
    all_made (Is groups ask ThePeer) (peer_row groups ask) (zip peers states) (λ pair. if_some (N pair.0.name ThePeer) (Is groups ask ThePeer) (peer_row groups ask pair) (λ row h. h.1) (peer_facts pair)) in
    let all_apart : IsDistinct ties (of_points ++ of_peers) =
    distinct_both of_points of_peers
    (rows_distinct (λ (point : Point). point.name) (point_row groups installed ask) (λ point. if_some (N point.name ThePoint) (λ row. row.name ≡ point.name) (point_row groups installed ask point) (λ row h. h.0) (point_facts point)) points points_apart)
    (rows_distinct (λ (pair : Peer × PeerState). pair.0.name) (peer_row groups ask) (λ pair. if_some (N pair.0.name ThePeer) (λ row. row.name ≡ pair.0.name) (peer_row groups ask pair) (λ row h. h.0) (peer_facts pair)) (zip peers states) peers_apart)
    (All-weaker (Is groups ask ThePoint) (λ row. All (λ other. ties row other ≡ false) of_peers)
    (λ row one. All-weaker (Is groups ask ThePeer) (λ other. ties row other ≡ false) (λ other two. kinds_apart groups ask row other one two) of_peers are_peers) of_points are_points) in
    let apart : IsDistinct ties rows =
    IsDistinct-IsPermutation ties (λ row other. flipped (row_cmp row other) (row_cmp other row) (o.antisymm row other)) (of_points ++ of_peers) rows answer.each all_apart in
    λ i j d lt l.
    before (row_cmp (get_or rows i d) (get_or rows j d)) (row_cmp (get_or rows j d) (get_or rows i d)) (o.antisymm (get_or rows i d) (get_or rows j d))
    (apart_from_distinct ties rows i j d apart lt l)
    (sorted_far (λ a b. is_lt (row_cmp a b)) (ranks_by row_cmp_total (λ (z : SourceRow). z)) rows answer.sorted i j d (omega arith) l)
