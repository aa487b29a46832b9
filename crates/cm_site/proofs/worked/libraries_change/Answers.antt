use Rattle.std.proofs.Common.{refl}
use Rattle.std.specs.Fmt.{digits}
use Rattle.cm_site.proofs.worked.libraries_change.Goals as goal

pub returns-clause-purged : goal.returns-clause-purged
unfolding digits
returns-clause-purged c = refl
