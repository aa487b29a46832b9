use Rattle.std.proofs.Common.{refl}
use Rattle.hex.proofs.OnLiterals.{hex_on_literals}
use Rattle.std.specs.Fmt.{digits}
use Rattle.cm_pkglib.specs.Changes.{package_at}
use Rattle.cm_state.proofs.worked.three_files.Goals as goal

pub returns-clause-opened : goal.returns-clause-opened
unfolding package_at
returns-clause-opened c = refl

pub returns-clause-place : goal.returns-clause-place
unfolding digits
returns-clause-place c = refl

pub returns-clause-file : goal.returns-clause-file
unfolding hex_on_literals
returns-clause-file c = refl
