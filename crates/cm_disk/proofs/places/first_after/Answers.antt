use Rattle.std.proofs.Common.{subst}
use Rattle.std.specs.Option.{option_copied}
use Rattle.cm_disk.proofs.Above.{kept_in, Follows, follows-range, next-none, next-step, first-follows, row-front}
use Rattle.cm_disk.proofs.places.first_after.Goals as goal

pub returns-in_default-clause-least : goal.returns-in_default-clause-least
returns-in_default-clause-least c =
    let files = kept_in c.args.slots.now in
    let after = option_copied c.args.after in
    let all = follows-range c.args.slots.now after c.range-kept.result c.bound_above.result c.range-kept.ensures.ordered c.bound_above.ensures (c.range-kept.ensures.between tt) in
    next-none files after (subst (Follows files after) (c.next_there.ensures.none c.in_default.is) all)

pub returns-clause-above : goal.returns-clause-above
returns-clause-above c =
    let files = kept_in c.args.slots.now in
    let after = option_copied c.args.after in
    let all = follows-range c.args.slots.now after c.range-kept.result c.bound_above.result c.range-kept.ensures.ordered c.bound_above.ensures (c.range-kept.ensures.between tt) in
    (first-follows files after c.in-Some.first _ (subst (Follows files after) c.in-Some.ensures.next all)).above

pub returns-clause-least : goal.returns-clause-least
returns-clause-least c =
    let files = kept_in c.args.slots.now in
    let after = option_copied c.args.after in
    let all = follows-range c.args.slots.now after c.range-kept.result c.bound_above.result c.range-kept.ensures.ordered c.bound_above.ensures (c.range-kept.ensures.between tt) in
    next-step files after c.in-Some.first (first-follows files after c.in-Some.first _ (subst (Follows files after) c.in-Some.ensures.next all))

pub returns-clause-row : goal.returns-clause-row
returns-clause-row c =
    let files = kept_in c.args.slots.now in
    let after = option_copied c.args.after in
    let all = follows-range c.args.slots.now after c.range-kept.result c.bound_above.result c.range-kept.ensures.ordered c.bound_above.ensures (c.range-kept.ensures.between tt) in
    row-front files after _ c.read_more.new.places.items c.read_more.ensures.0 (subst (Follows files after) c.in-Some.ensures.next all) c.read_more.ensures.1
