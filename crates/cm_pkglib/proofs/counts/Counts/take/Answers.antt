use Rattle.std.proofs.Common.{List, ◌∷◌, ◌++◌, subst}
use Rattle.cm_tree.specs.declared.entry.Entry.{Entry}
use Rattle.cm_pkglib.specs.Counts.{CountsAll}
use Rattle.cm_pkglib.proofs.Times.{one_less}
use Rattle.cm_pkglib.proofs.counts.Counts.take.Goals as goal

pub returns-clause-from_scratch : goal.returns-clause-from_scratch
returns-clause-from_scratch c =
    subst (λ (m : List Entry). (front back : List (List Entry)) → CountsAll c.args.self.now (front ++ m ∷ back) → CountsAll c.take_each.new.self (front ++ back)) c.entries.ensures.value
    (λ front back all hash. one_less hash c.entries.result.now front back _ _ (c.take_each.ensures.counts hash) (all hash))
