use Rattle.std.specs.BTreeMap.{get}
use Rattle.cm_pkglib.specs.Counts.{hash_cmp}
use Rattle.cm_pkglib.proofs.Times.{none_counted}
use Rattle.cm_pkglib.proofs.laws.sealed_are_named.Goals as goal

pub returns : goal.returns
returns c = λ counts hash zero. none_counted (get hash_cmp counts.hashes hash) zero
