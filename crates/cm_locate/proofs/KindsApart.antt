-- The rank tells the kind of a source.
use Rattle.std.proofs.Common.{◌≡◌, ℕ, ◌+◌, arith, sum_by, ◌||◌, Bool, true, false, cond, List, [], ◌∷◌, ◌++◌, All, IfSome, IsSome, refl, sym, ap, ◌∙◌, subst, Option, None, Some, option_map}
use Rattle.std.specs.List.{cons_option, filter_map, zip}
use Rattle.std.specs.List.Sorted.{IsPermutation}
use Rattle.std.specs.Option.{option_map_or}
use Rattle.std.specs.Cmp.{IsTotalOrder}
use Rattle.std.specs.Cmp.Lexicographic.{slice_cmp}
use Rattle.std.specs.Ordering.{nat_cmp, ordering_then}
use Rattle.std.specs.declared.cmp.Ordering.{Ordering}
use Rattle.std.specs.declared.cmp.Ordering.TheVariants.{Less, Equal, Greater}
use Rattle.std.proofs.lemmas.Bool.{and_parts}
use Rattle.std.proofs.lemmas.Cmp.{nat_cmp_total, nat_list_cmp_total, on_total, then_total}
use Rattle.std.proofs.lemmas.List.Elements.{All-append, All-cons, All-nil}
use Rattle.std.proofs.lemmas.List.Sorted.{All-permutation, sum_by-IsPermutation}
use Rattle.std.proofs.lemmas.List.Sums.{sum_by-append, sum_by-cons}
use Rattle.std.proofs.lemmas.Map.Lookups.{exact_bytes, exact_unsigned}
use Rattle.cm_net.specs.declared.address.Address.{Address}
use Rattle.cm_groups.specs.declared.group.Group.{Group}
use Rattle.cm_peer.specs.declared.peer.Peer.{Peer}
use Rattle.cm_peer.specs.declared.peer.PeerState.{PeerState}
use Rattle.cm_peer.specs.declared.sources.Kind.{Kind}
use Rattle.cm_peer.specs.declared.sources.Kind.TheVariants.{Point as ThePoint, Peer as ThePeer}
use Rattle.cm_peer.specs.declared.sources.SourceRow.{SourceRow}
use Rattle.cm_points.specs.declared.point.Point.{Point}
use Rattle.cm_points.specs.Installs.{InstalledRow, is_installed}
use Rattle.cm_locate.specs.declared.ask.Ask.{Ask}
use Rattle.cm_locate.specs.Answers.{IsAnswer, peer_row, peer_rows, point_row, point_rows, row_cmp, source_of_peer, source_of_point}
use Rattle.cm_locate.specs.Asks.{is_asking, is_near, is_of_site}
use Rattle.cm_locate.specs.Eligible.{current_of, is_eligible_peer, is_eligible_point, is_in, reached_of}
use Rattle.cm_locate.specs.Ranks.{Source, default_of, exchanged, first_fit, kind_of_rank, neighbours_of, prefers_points, rank_of, rank_of_current, rank_of_peer, row_of}
use Rattle.cm_locate.proofs.PointsMade.{in_either}
use Rattle.cm_locate.proofs.RanksFit.{point_fits}
use Rattle.cm_locate.proofs.Unique.{sorted_once}

point_kind : (c a n s b d prefers : Bool) → IfSome (cond c (Some (rank_of_current a n s prefers)) (cond b (Some 8) (cond d (Some 9) None))) (λ rank. ThePoint ≡ kind_of_rank prefers rank)
point_kind true true n s b d true = refl
point_kind true true n s b d false = refl
point_kind true false true s b d true = refl
point_kind true false true s b d false = refl
point_kind true false false true b d prefers = refl
point_kind true false false false b d prefers = refl
point_kind false a n s true d prefers = refl
point_kind false a n s false true prefers = refl
point_kind false a n s false false prefers = tt

-- the table for a peer: whether it is near, and of the site
abbrev peer_table : Bool → Bool → List (Bool × ℕ)
peer_table n s = (false, 1) ∷ (n, 2) ∷ (false, 3) ∷ (s, 4) ∷ (false, 5) ∷ (true, 6) ∷ (false, 7) ∷ (false, 8) ∷ (false, 9) ∷ []

peer_fits : (n s prefers : Bool) → option_map (exchanged prefers) (first_fit (peer_table n s)) ≡ Some (rank_of_peer n s prefers)
peer_fits true s true = refl
peer_fits true s false = refl
peer_fits false true true = refl
peer_fits false true false = refl
peer_fits false false true = refl
peer_fits false false false = refl

peer_kind : (n s prefers : Bool) → ThePeer ≡ kind_of_rank prefers (rank_of_peer n s prefers)
peer_kind true s true = refl
peer_kind true s false = refl
peer_kind false true prefers = refl
peer_kind false false prefers = refl

-- the rank of a source is one of its kind
pub kinds : (groups : List Group) (ask : Ask) (kind : Kind) (name : List ℕ) (address : Address) (site : Option (List ℕ))
    → IfSome (rank_of groups ask (record { kind = kind; name = name; address = address; site = site })) (λ rank. kind ≡ kind_of_rank (prefers_points groups ask) rank)
kinds groups ask ThePoint name address site =
    let c = is_in groups name (current_of groups ask) in
    let a = is_asking ask name in
    let n = is_near ask address in
    let s = is_of_site ask site in
    let b = is_in groups name (neighbours_of (reached_of groups ask)) in
    let d = is_in groups name (default_of (reached_of groups ask)) in
    let p = prefers_points groups ask in
    subst (λ (o : Option ℕ). IfSome o (λ rank. ThePoint ≡ kind_of_rank p rank)) (sym (point_fits c a n s b d p)) (point_kind c a n s b d p)
kinds groups ask ThePeer name address site =
    let n = is_near ask address in
    let s = is_of_site ask site in
    let p = prefers_points groups ask in
    subst (λ (o : Option ℕ). IfSome o (λ rank. ThePeer ≡ kind_of_rank p rank)) (sym (peer_fits n s p)) (peer_kind n s p)

pub kind_is : (groups : List Group) (ask : Ask) (source : Source) (rank : ℕ) → rank_of groups ask source ≡ Some rank → source.kind ≡ kind_of_rank (prefers_points groups ask) rank
kind_is groups ask source rank e =
    subst (λ (o : Option ℕ). IfSome o (λ r. source.kind ≡ kind_of_rank (prefers_points groups ask) r)) e (kinds groups ask source.kind source.name source.address source.site)

pub peer_has_rank : (groups : List Group) (ask : Ask) (peer : Peer) → IsSome (rank_of groups ask (source_of_peer peer))
peer_has_rank groups ask peer =
    subst (λ (o : Option ℕ). IsSome o) (sym (peer_fits (is_near ask peer.address) (is_of_site ask peer.site) (prefers_points groups ask))) refl

-- a row is of the kind of its rank
abbrev pub HasKind : List Group → Ask → SourceRow → Type 0
HasKind groups ask row = row.kind ≡ kind_of_rank (prefers_points groups ask) row.rank

row_has : (kind : Kind) (name : List ℕ) (prefers : Bool) (found : Option ℕ) → IfSome found (λ rank. kind ≡ kind_of_rank prefers rank)
    → IfSome {T = SourceRow} (option_map (λ rank. record { rank = rank; kind = kind; name = name }) found) (λ row. row.kind ≡ kind_of_rank prefers row.rank)
row_has kind name prefers None h = tt
row_has kind name prefers (Some rank) h = h

pub where_eligible : (P : SourceRow → Type 0) (test : Bool) (found : Option SourceRow) → IfSome found P → IfSome (cond test found None) P
where_eligible P true found h = h
where_eligible P false found h = tt

one_more : {X : Type 0} (P : X → Type 0) (found : Option X) (rest : List X) → IfSome found P → All P rest → All P (cons_option found rest)
one_more P None rest is all = all
one_more P (Some x) rest is all = All-cons P x rest is all

pub all_made : {X Y : Type 0} (P : Y → Type 0) (f : X → Option Y) (xs : List X) → ((x : X) → IfSome (f x) P) → All P (filter_map f xs)
all_made P f [] h = All-nil P
all_made P f (x ∷ xs) h = one_more P (f x) (filter_map f xs) (h x) (all_made P f xs h)

rows_have : (groups : List Group) (points : List Point) (peers : List Peer) (states : List PeerState) (installed : List InstalledRow) (ask : Ask)
    → All (HasKind groups ask) (point_rows groups installed ask points ++ peer_rows groups ask peers states)
rows_have groups points peers states installed ask =
    let P : SourceRow → Type 0 = HasKind groups ask in
    All-append P (point_rows groups installed ask points) (peer_rows groups ask peers states)
    (all_made P (point_row groups installed ask) points
    (λ point. where_eligible P (is_eligible_point groups installed ask point) (row_of groups ask (source_of_point point))
    (row_has ThePoint point.name (prefers_points groups ask) (rank_of groups ask (source_of_point point)) (kinds groups ask ThePoint point.name point.address point.site))))
    (all_made P (peer_row groups ask) (zip peers states)
    (λ pair. where_eligible P (is_eligible_peer groups ask pair.0 pair.1) (row_of groups ask (source_of_peer pair.0))
    (row_has ThePeer pair.0.name (prefers_points groups ask) (rank_of groups ask (source_of_peer pair.0)) (kinds groups ask ThePeer pair.0.name pair.0.address pair.0.site))))

pub row_cmp_total : IsTotalOrder row_cmp
row_cmp_total = then_total (on_total (λ (row : SourceRow). row.rank) nat_cmp_total) (on_total (λ (row : SourceRow). row.name) nat_list_cmp_total)

both_equal : (a b : Ordering) → ordering_then a b ≡ Equal → (a ≡ Equal) × (b ≡ Equal)
both_equal Less b e = absurd (cc)
both_equal Equal b e = (refl, e)
both_equal Greater b e = absurd (cc)

same_row : (groups : List Group) (ask : Ask) (row other : SourceRow) → HasKind groups ask row → HasKind groups ask other → row_cmp row other ≡ Equal → row ≡ other
same_row groups ask row other one two e =
    let parts = both_equal (nat_cmp row.rank other.rank) (slice_cmp nat_cmp row.name other.name) e in
    let ranks : row.rank ≡ other.rank = exact_unsigned row.rank other.rank parts.0 in
    let names : row.name ≡ other.name = exact_bytes row.name other.name parts.1 in
    let same_kinds : row.kind ≡ other.kind = one ∙ ap (kind_of_rank (prefers_points groups ask)) ranks ∙ sym two in
    rebuilt row.rank other.rank row.kind other.kind row.name other.name ranks same_kinds names
  where
    rebuilt : (r s : ℕ) (k l : Kind) (n m : List ℕ) → r ≡ s → k ≡ l → n ≡ m → ◌≡◌ {A = SourceRow} (record { rank = r; kind = k; name = n }) (record { rank = s; kind = l; name = m })
    rebuilt r s k l n m ranks same_kinds names = cc

sum_option : {Y : Type 0} (f : Y → ℕ) (found : Option Y) (rest : List Y) → sum_by f (cons_option found rest) ≡ option_map_or f found 0 + sum_by f rest
sum_option f None rest = omega arith
sum_option f (Some y) rest = sum_by-cons f y rest

-- a sum over what is made is one over what it is made of
sum_made : {X Y : Type 0} (f : Y → ℕ) (g : X → Option Y) (xs : List X) → sum_by f (filter_map g xs) ≡ sum_by (λ x. option_map_or f (g x) 0) xs
sum_made f g [] = refl
sum_made f g (x ∷ xs) =
    sum_option f (g x) (filter_map g xs)
    ∙ ap (λ n. option_map_or f (g x) 0 + n) (sum_made f g xs)
    ∙ sym (sum_by-cons (λ z. option_map_or f (g z) 0) x xs)

made_alike : {X Y : Type 0} (f : Y → ℕ) (g : X → Option Y) (xs ys : List X) → IsPermutation xs ys → sum_by f (filter_map g xs) ≡ sum_by f (filter_map g ys)
made_alike f g xs ys moved = sum_made f g xs ∙ sym (sum_by-IsPermutation (λ x. option_map_or f (g x) 0) xs ys moved) ∙ sym (sum_made f g ys)

-- two answers are the same, in whatever order the sources are listed
pub answers_same : (groups : List Group) (points other_points : List Point) (peers other_peers : List Peer) (states other_states : List PeerState) (installed : List InstalledRow) (ask : Ask) (rows others : List SourceRow)
    → IsPermutation points other_points → IsPermutation (zip peers states) (zip other_peers other_states)
    → IsAnswer groups points peers states installed ask rows → IsAnswer groups other_points other_peers other_states installed ask others → rows ≡ others
answers_same groups points other_points peers other_peers states other_states installed ask rows others moved exchanged_peers one two =
    let P : SourceRow → Type 0 = HasKind groups ask in
    let of_points : List SourceRow = point_rows groups installed ask points in
    let of_peers : List SourceRow = peer_rows groups ask peers states in
    let of_other_points : List SourceRow = point_rows groups installed ask other_points in
    let of_other_peers : List SourceRow = peer_rows groups ask other_peers other_states in
    sorted_once row_cmp_total P (same_row groups ask) rows others
    (All-permutation P (of_points ++ of_peers) rows one.each (rows_have groups points peers states installed ask))
    (All-permutation P (of_other_points ++ of_other_peers) others two.each (rows_have groups other_points other_peers other_states installed ask))
    one.sorted two.sorted
    (λ f.
    sum_by-IsPermutation f (of_points ++ of_peers) rows one.each
    ∙ sum_by-append f of_points of_peers
    ∙ ap (λ n. n + sum_by f of_peers) (made_alike f (point_row groups installed ask) points other_points moved)
    ∙ ap (λ n. sum_by f of_other_points + n) (made_alike f (peer_row groups ask) (zip peers states) (zip other_peers other_states) exchanged_peers)
    ∙ sym (sum_by-append f of_other_points of_other_peers)
    ∙ sym (sum_by-IsPermutation f (of_other_points ++ of_other_peers) others two.each))

some_rank : (c b d : Bool) (first : ℕ) → (c || (b || d)) ≡ true → IsSome {T = ℕ} (cond c (Some first) (cond b (Some 8) (cond d (Some 9) None)))
some_rank true b d first h = refl
some_rank false true d first h = refl
some_rank false false true first h = refl
some_rank false false false first h = absurd (cc)

pub point_has_rank : (groups : List Group) (installed : List InstalledRow) (ask : Ask) (point : Point) → is_eligible_point groups installed ask point ≡ true → IsSome (rank_of groups ask (source_of_point point))
point_has_rank groups installed ask point h =
    let c = is_in groups point.name (current_of groups ask) in
    let a = is_asking ask point.name in
    let n = is_near ask point.address in
    let s = is_of_site ask point.site in
    let b = is_in groups point.name (neighbours_of (reached_of groups ask)) in
    let d = is_in groups point.name (default_of (reached_of groups ask)) in
    let p = prefers_points groups ask in
    let there : (c || is_in groups point.name (reached_of groups ask)) ≡ true =
    (and_parts (is_installed installed point.name ask.package ask.version) (c || is_in groups point.name (reached_of groups ask)) h).1 in
    let split : (c || (b || d)) ≡ true = sym (ap (λ v. c || v) (in_either groups point.name (reached_of groups ask))) ∙ there in
    subst (λ (o : Option ℕ). IsSome o) (sym (point_fits c a n s b d p)) (some_rank c b d (rank_of_current a n s p) split)
