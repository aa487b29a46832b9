use Rattle.std.proofs.Common.{List, sym, subst}
use Rattle.cm_tree.specs.declared.entry.Entry.{Entry}
use Rattle.cm_contents.specs.Seals.{IsCounted}
use Rattle.cm_contents.proofs.Counted.{taken_same, counted_less}
use Rattle.cm_contents.proofs.counting.uncount_taken.Goals as goal

pub returns-in-Some-clause-counted : goal.returns-in-Some-clause-counted
returns-in-Some-clause-counted c =
    let stored = c.in-Some.manifest.now in
    let state = c.args.contents.now.state in
    let same = taken_same c.args.contents.now.taken stored c.in-Some.ensures in
    (counted_less c.args.counts.now c.take.new.self state stored (subst (λ (m : List Entry). IsCounted c.args.counts.now state m) (sym same) c.requires) c.take.ensures.counts c.take.ensures.seals).0

pub returns-in-Some-clause-seals : goal.returns-in-Some-clause-seals
returns-in-Some-clause-seals c =
    let stored = c.in-Some.manifest.now in
    let state = c.args.contents.now.state in
    let same = taken_same c.args.contents.now.taken stored c.in-Some.ensures in
    (counted_less c.args.counts.now c.take.new.self state stored (subst (λ (m : List Entry). IsCounted c.args.counts.now state m) (sym same) c.requires) c.take.ensures.counts c.take.ensures.seals).1
