use Rattle.std.proofs.Common.{refl, ◌∙◌, ap, ◌+◌, Some}
use Rattle.std.specs.BTreeMap.{get}
use Rattle.cm_pkglib.specs.Counts.{hash_cmp}
use Rattle.cm_pkglib.proofs.Times.{raised, seals_stay}
use Rattle.cm_pkglib.proofs.counts.Counts.raise.Goals as goal

pub returns-clause-ok : goal.returns-clause-ok
returns-clause-ok c = λ other.
    raised (λ h. get hash_cmp c.args.self.now.hashes h) c.args.hash other _ _ (ap (λ n. n + 1) c.of-count.ensures) (c.in_ok-insert.ensures.updates.0 other)

pub returns-clause-seals : goal.returns-clause-seals
returns-clause-seals c = λ other.
    seals_stay (λ h. get hash_cmp c.args.self.now.hashes h) c.args.hash other _ _ c.sealed-sealed.ensures (c.in_ok-insert.ensures.updates.0 other)
