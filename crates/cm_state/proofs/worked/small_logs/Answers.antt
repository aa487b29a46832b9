use Rattle.std.proofs.Common.{refl}
use Rattle.std.specs.Fmt.{digits}
use Rattle.cm_pkglib.specs.Changes.{package_at}
use Rattle.cm_state.proofs.worked.small_logs.Goals as goal

pub returns-clause-cut : goal.returns-clause-cut
unfolding package_at
returns-clause-cut c = refl

pub returns-clause-no_manifest : goal.returns-clause-no_manifest
unfolding package_at digits
returns-clause-no_manifest c = refl

pub returns-clause-dropped : goal.returns-clause-dropped
unfolding package_at
returns-clause-dropped c = refl

pub returns-clause-removed : goal.returns-clause-removed
unfolding package_at
returns-clause-removed c = refl

pub returns-clause-removed_twice : goal.returns-clause-removed_twice
unfolding package_at
returns-clause-removed_twice c = refl
