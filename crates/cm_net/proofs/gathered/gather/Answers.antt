use Rattle.std.proofs.Common.{ℕ, List, take, subst}
use Rattle.cm_net.specs.declared.boundary.Boundary.{Boundary}
use Rattle.cm_net.specs.Gathered.{IsGatheredOf}
use Rattle.cm_net.specs.Groups.{rows_in}
use Rattle.cm_net.proofs.GatheredRows.{list_more}
use Rattle.cm_net.proofs.gathered.gather.Goals as goal

pub loop-boundaries-preserved : goal.loop-boundaries-preserved
loop-boundaries-preserved c =
    let place = c.loop-boundaries.boundaries-index in
    subst (λ (rows : List (Boundary × ℕ)). IsGatheredOf rows c.add_all.new.self)
    (list_more c.args.lists.now place c.loop-boundaries-item.result c.loop-boundaries-test.true c.loop-boundaries-item.is)
    (rw c.items.ensures at (c.in_ok-add_all.ensures (rows_in (take place c.args.lists.now)) c.loop-boundaries.invariant))
