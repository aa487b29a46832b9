use Rattle.std.proofs.Common.{List, ◌∷◌, OnOk, subst}
use Rattle.cm_tree.specs.declared.entry.Entry.{Entry}
use Rattle.cm_pkglib.specs.Counts.{CountsAll}
use Rattle.cm_pkglib.proofs.Times.{one_more, on_ok}
use Rattle.cm_pkglib.proofs.counts.Counts.add.Goals as goal

pub returns-clause-from_scratch : goal.returns-clause-from_scratch
returns-clause-from_scratch c =
    subst (λ (m : List Entry). (manifests : List (List Entry)) → CountsAll c.args.self.now manifests → OnOk c.add_each.result (CountsAll c.add_each.new.self (m ∷ manifests))) c.entries.ensures.value
    (λ manifests all. on_ok c.add_each.result _ _ (λ more hash. one_more hash c.entries.result.now manifests _ _ (more hash) (all hash)) c.add_each.ensures.ok)
