use Rattle.std.proofs.Common.{arith}
use Rattle.cm_pkglib.proofs.Times.{times_here}
use Rattle.cm_pkglib.proofs.counts.Counts.add_each.Goals as goal

pub raise-requires : goal.raise-requires
raise-requires c =
    let entry = c.index-entries-i.result in
    omega (arith, c.loop-i.invariant.counts entry.hash, c.requires entry.hash, times_here c.args.entries.now c.loop-i.i entry c.loop-i-test.true c.index-entries-i.is)
