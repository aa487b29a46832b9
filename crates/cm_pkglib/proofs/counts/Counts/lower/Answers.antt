use Rattle.std.proofs.Common.{refl, ◌∙◌, ap, sym, ◌-◌, None, arith}
use Rattle.std.specs.BTreeMap.{get}
use Rattle.cm_pkglib.specs.Counts.{hash_cmp}
use Rattle.cm_pkglib.proofs.Times.{lowered, seals_fall, seal_more, is_there, ok_since}
use Rattle.cm_pkglib.proofs.counts.Counts.lower.Goals as goal

pub returns-then-count-eq1-clause-counts : goal.returns-then-count-eq1-clause-counts
returns-then-count-eq1-clause-counts c = λ other.
    lowered (λ h. get hash_cmp c.args.self.now.hashes h) c.args.hash other _ None
    (ap (λ n. n - 1) (sym c.if-count-eq1.true ∙ c.of-count.ensures))
    (c.remove-last.ensures.updates.0 other)

pub returns-then-count-eq1-clause-seals : goal.returns-then-count-eq1-clause-seals
returns-then-count-eq1-clause-seals c = λ other.
    seals_fall (λ h. get hash_cmp c.args.self.now.hashes h) c.args.hash other _ None refl (c.remove-last.ensures.updates.0 other)

pub returns-else-count-eq1-clause-counts : goal.returns-else-count-eq1-clause-counts
returns-else-count-eq1-clause-counts c = λ other.
    let updates = ok_since c.insert-lowered.result _ _ c.insert-lowered.ensures.updates c.insert-lowered.ensures.absent (is_there _ c.requires) in
    lowered (λ h. get hash_cmp c.args.self.now.hashes h) c.args.hash other _ _ (ap (λ n. n - 1) c.of-count.ensures) (updates.0 other)

pub returns-else-count-eq1-clause-seals : goal.returns-else-count-eq1-clause-seals
returns-else-count-eq1-clause-seals c = λ other.
    let updates = ok_since c.insert-lowered.result _ _ c.insert-lowered.ensures.updates c.insert-lowered.ensures.absent (is_there _ c.requires) in
    seals_fall (λ h. get hash_cmp c.args.self.now.hashes h) c.args.hash other _ _ (c.sealed-sealed.ensures ∙ seal_more (c.of-count.result - 1) _ (omega arith)) (updates.0 other)
