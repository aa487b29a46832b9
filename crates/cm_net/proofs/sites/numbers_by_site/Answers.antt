use Rattle.std.proofs.Common.{take, arith}
use Rattle.std.proofs.lemmas.List.{take_more}
use Rattle.cm_net.proofs.Named.{entry_numbers}
use Rattle.cm_net.proofs.sites.numbers_by_site.Goals as goal

pub loop-name-preserved : goal.loop-name-preserved
loop-name-preserved c =
    let entries = take c.loop-name.name-index c.args.entries.now in
    let entry = c.loop-name-item.result in (
      λ site. rw (take_more c.args.entries.now c.loop-name.name-index entry c.loop-name-test.true, ← c.loop-name-item.is)
          (entry_numbers entries entry site _ _ (rw c.deref.ensures.value at (c.in_ok-add_numbers.ensures.added site)) (c.loop-name.invariant.0 site)),
      omega (arith, c.in_ok-add_numbers.ensures.few, c.loop-name.invariant.1),
    )
