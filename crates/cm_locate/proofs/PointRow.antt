-- The row of a point that has a rank.
use Rattle.std.proofs.Common.{◌≡◌, ℕ, ◌&&◌, ◌||◌, Bool, true, false, cond, List, refl, sym, ap, ◌∙◌, Option, None, Some, option_map}
use Rattle.cm_groups.specs.declared.group.Group.{Group}
use Rattle.cm_peer.specs.declared.sources.Kind.TheVariants.{Point as ThePoint}
use Rattle.cm_peer.specs.declared.sources.SourceRow.{SourceRow}
use Rattle.cm_points.specs.declared.point.Point.{Point}
use Rattle.cm_points.specs.Installs.{InstalledRow, is_installed}
use Rattle.cm_locate.specs.declared.ask.Ask.{Ask}
use Rattle.cm_locate.specs.Answers.{point_row, source_of_point}
use Rattle.cm_locate.specs.Asks.{is_asking, is_near, is_of_site}
use Rattle.cm_locate.specs.Eligible.{current_of, is_eligible_point, is_in, reached_of}
use Rattle.cm_locate.specs.Ranks.{default_of, neighbours_of, prefers_points, rank_of, row_of}
use Rattle.cm_locate.proofs.PointsMade.{in_either}
use Rattle.cm_locate.proofs.RanksFit.{ranked_in}

-- a point with a rank is in a current or a reached group
pub ranked_is_in : (groups : List Group) (ask : Ask) (point : Point) (rank : ℕ) → rank_of groups ask (source_of_point point) ≡ Some rank
    → (is_in groups point.name (current_of groups ask) || is_in groups point.name (reached_of groups ask)) ≡ true
ranked_is_in groups ask point rank e =
    let reached : List ℕ = reached_of groups ask in
    ap (λ b. is_in groups point.name (current_of groups ask) || b) (in_either groups point.name reached)
    ∙ ranked_in (is_in groups point.name (current_of groups ask)) (is_asking ask point.name) (is_near ask point.address) (is_of_site ask point.site)
    (is_in groups point.name (neighbours_of reached)) (is_in groups point.name (default_of reached)) (prefers_points groups ask) rank e

chosen : (test : Bool) (found : Option SourceRow) → test ≡ true → cond test found None ≡ found
chosen true found e = refl
chosen false found e = absurd (cc)

pub ranked_row : (groups : List Group) (installed : List InstalledRow) (ask : Ask) (point : Point) (rank : ℕ)
    → true ≡ is_installed installed point.name ask.package ask.version → rank_of groups ask (source_of_point point) ≡ Some rank
    → Some (record { rank = rank; kind = ThePoint; name = point.name }) ≡ point_row groups installed ask point
ranked_row groups installed ask point rank has e =
    let made : ℕ → SourceRow = λ r. record { rank = r; kind = ThePoint; name = point.name } in
    let eligible : is_eligible_point groups installed ask point ≡ true =
    ap (λ b. b && (is_in groups point.name (current_of groups ask) || is_in groups point.name (reached_of groups ask))) (sym has) ∙ ranked_is_in groups ask point rank e in
    sym (chosen (is_eligible_point groups installed ask point) (row_of groups ask (source_of_point point)) eligible ∙ ap (λ (o : Option ℕ). option_map made o) e)
