use Rattle.cm_pkglib.specs.Counts.{sealed_of}
use Rattle.cm_contents.proofs.Wanted.{next-range}
use Rattle.cm_contents.proofs.wants.Wants.next.Goals as goal

pub returns : goal.returns
returns c manifest has =
    next-range c.args.self.now.sizes (sealed_of c.args.counts.now) c.args.after c.bound_above.result c.range-kept.result _ manifest
    c.range-kept.ensures.ordered c.bound_above.ensures (c.range-kept.ensures.between tt) c.next_unsealed.ensures has
