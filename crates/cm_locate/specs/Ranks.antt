-- The ranks of sources.
use Rattle.std.specs.Prelude.{ℕ, ◌==◌, ◌&&◌, ◌||◌, not, Bool, true, false, List, [], ◌∷◌, filter, find, Option, option_map, if◌then◌else◌}
use Rattle.cm_net.specs.declared.address.Address.{Address}
use Rattle.cm_groups.specs.declared.group.Group.{Group}
use Rattle.cm_groups.specs.Reach.{some_current}
use Rattle.cm_peer.specs.declared.sources.Kind.{Kind}
use Rattle.cm_peer.specs.declared.sources.Kind.TheVariants.{Point, Peer}
use Rattle.cm_peer.specs.declared.sources.SourceRow.{SourceRow}
use Rattle.cm_locate.specs.declared.ask.Ask.{Ask}
use Rattle.cm_locate.specs.Asks.{is_asking, is_near, is_of_site}
use Rattle.cm_locate.specs.Eligible.{current_of, is_in, reached_of}

-- a point or a peer, with what its rank depends on
pub record Source : Type 0 where
  pub kind : Kind
  pub name : List ℕ
  pub address : Address
  pub site : Option (List ℕ)

abbrev pub is_point : Kind → Bool
is_point Point = true
is_point Peer = false

-- a point of one of these groups
abbrev pub is_point_in : List Group → Source → List ℕ → Bool
is_point_in groups source numbers = is_point source.kind && is_in groups source.name numbers

-- the neighbours among these groups
abbrev pub neighbours_of : List ℕ → List ℕ
neighbours_of numbers = filter (λ number. not (number == 0)) numbers

-- the default group, where it is among these groups
abbrev pub default_of : List ℕ → List ℕ
default_of numbers = filter (λ number. number == 0) numbers

-- the rows of the table: whether each fits the source, and its rank
abbrev pub table : List Group → Ask → Source → List (Bool × ℕ)
table groups ask source =
    (is_point_in groups source (current_of groups ask) && is_asking ask source.name, 1)
    ∷ (not (is_point source.kind) && is_near ask source.address, 2)
    ∷ (is_point_in groups source (current_of groups ask) && is_near ask source.address, 3)
    ∷ (not (is_point source.kind) && is_of_site ask source.site, 4)
    ∷ (is_point_in groups source (current_of groups ask) && is_of_site ask source.site, 5)
    ∷ (not (is_point source.kind), 6)
    ∷ (is_point_in groups source (current_of groups ask), 7)
    ∷ (is_point_in groups source (neighbours_of (reached_of groups ask)), 8)
    ∷ (is_point_in groups source (default_of (reached_of groups ask)), 9)
    ∷ []

-- some current group puts points in the client's subnet before peers there
abbrev pub prefers_points : List Group → Ask → Bool
prefers_points groups ask = some_current (λ group. group.options.prefer_points) groups (current_of groups ask)

-- the second and the third rank change places
abbrev pub exchanged : Bool → ℕ → ℕ
exchanged prefers rank = (if prefers && rank == 2 then 3 else (if prefers && rank == 3 then 2 else rank))

-- the number of the first row that fits
abbrev pub first_fit : List (Bool × ℕ) → Option ℕ
first_fit rows = option_map (λ row. row.1) (find (λ row. row.0) rows)

-- The rank of a source: the first row of the table that fits, with ranks 2 and 3 exchanged where a current group prefers points.
-- Each eligible source has one.
abbrev pub rank_of : List Group → Ask → Source → Option ℕ
rank_of groups ask source = option_map (exchanged (prefers_points groups ask)) (first_fit (table groups ask source))

-- a source with its rank
abbrev pub row_of : List Group → Ask → Source → Option SourceRow
row_of groups ask source = option_map (λ rank. record { rank = rank; kind = source.kind; name = source.name }) (rank_of groups ask source)

-- the rank of a point of a current group that is the asking computer, in the client's subnet, of its site
abbrev pub rank_of_current : Bool → Bool → Bool → Bool → ℕ
rank_of_current asking near of_site prefers =
    (if asking then 1 else (if near then (if prefers then 2 else 3) else (if of_site then 5 else 7)))

-- the rank of a peer in the client's subnet, of its site
abbrev pub rank_of_peer : Bool → Bool → Bool → ℕ
rank_of_peer near of_site prefers = (if near then (if prefers then 3 else 2) else (if of_site then 4 else 6))

-- which kind of source a rank is of, where points are preferred or not
abbrev pub kind_of_rank : Bool → ℕ → Kind
kind_of_rank prefers rank =
    (if rank == 2 then (if prefers then Point else Peer) else
    (if rank == 3 then (if prefers then Peer else Point) else
    (if rank == 4 || rank == 6 then Peer else Point)))
