use Rattle.std.proofs.Common.{arith}
use Rattle.std.proofs.lemmas.Iterator.{YieldsList-from_zip, items_from_collect}
use Rattle.std.proofs.lemmas.Iterator.Adapters.{YieldsList-from_vec}
use Rattle.cm_groups.proofs.making.numbered.Goals as goal

pub returns : goal.returns
returns c =
    items_from_collect c.collect.result c.collect.ensures.ran
    (YieldsList-from_zip {v = λ y. y} {w = λ y. y}
    (YieldsList-from_vec c.args.held.items (rw c.zip.ensures.first c.into_iter.ensures.rest) (rw c.zip.ensures.first (omega (arith, c.into_iter.ensures.len))))
    (YieldsList-from_vec c.args.numbers.items c.zip.ensures.second.0 (omega (arith, c.zip.ensures.second.1))))
