use Rattle.std.proofs.Common.{arith}
use Rattle.cm_pkglib.proofs.Times.{times_here}
use Rattle.cm_pkglib.proofs.counts.Counts.take_each.Goals as goal

pub lower-requires : goal.lower-requires
lower-requires c =
    let entry = c.entry-item.result in
    omega (arith, c.loop-entry.invariant.counts entry.hash, c.requires entry.hash, times_here c.args.entries.now c.loop-entry.entry-index entry c.loop-entry-test.true c.entry-item.is)
