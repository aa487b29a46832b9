use Rattle.std.proofs.Common.{refl}
use Rattle.std.specs.BTreeMap.{get}
use Rattle.cm_pkglib.specs.Counts.{hash_cmp}
use Rattle.cm_pkglib.proofs.Times.{counts_stay, sealed_there, is_there, ok_since}
use Rattle.cm_pkglib.proofs.counts.Counts.seal.Goals as goal

pub returns-clause-counts : goal.returns-clause-counts
returns-clause-counts c = λ other.
    let updates = ok_since c.insert-sealed.result _ _ c.insert-sealed.ensures.updates c.insert-sealed.ensures.absent (is_there _ c.requires) in
    counts_stay (λ h. get hash_cmp c.args.self.now.hashes h) c.args.hash other _ _ c.of-count.ensures (updates.0 other)

pub returns-clause-seals : goal.returns-clause-seals
returns-clause-seals c = λ other.
    let updates = ok_since c.insert-sealed.result _ _ c.insert-sealed.ensures.updates c.insert-sealed.ensures.absent (is_there _ c.requires) in
    sealed_there (λ h. get hash_cmp c.args.self.now.hashes h) c.args.hash other _ _ c.args.seal refl (updates.0 other)
