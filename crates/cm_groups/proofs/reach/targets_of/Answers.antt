-- One current group more.
use Rattle.std.proofs.Common.{◌≡◌, ◌<◌, ◌||◌, ◌∙◌, Bool, arith, ap, get_or, length, refl}
use Rattle.cm_groups.specs.Current.{passes}
use Rattle.cm_groups.specs.Marked.{is_marked}
use Rattle.cm_groups.specs.Reach.{leads_to}
use Rattle.cm_groups.proofs.Has.{passes_at}
use Rattle.cm_groups.proofs.Marking.{one_more}
use Rattle.cm_groups.proofs.reach.targets_of.Goals as goal

pub loop-number-preserved : goal.loop-number-preserved
loop-number-preserved c =
    let at : c.from.result ≡ get_or c.args.current.now c.loop-number.number-index 0 = omega arith in
    let there : get_or c.args.current.now c.loop-number.number-index 0 < length c.args.groups.now = c.requires.there c.loop-number.number-index 0 c.loop-number-test.true in
    let below : c.from.result < length c.args.groups.now = omega arith in (
      λ number.
          one_more (λ one. passes (leads_to c.args.elapsed number) c.args.groups.now one) c.args.current.now c.loop-number.number-index c.from.result 0 _ _ c.loop-number-test.true at
          (c.mark_targets.ensures.marked number
          ∙ ap (λ (b : Bool). is_marked c.loop-number.marks number || b)
          (passes_at (leads_to c.args.elapsed number) c.args.groups.now c.from.result c.from.result c.index-groups-from.result below refl c.index-groups-from.is))
          (c.loop-number.invariant.0 number),
      c.mark_targets.ensures.count ∙ c.loop-number.invariant.1,
    )
