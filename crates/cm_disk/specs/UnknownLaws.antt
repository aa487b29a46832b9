-- What the laws of a disk that tells nothing name. A law of an impl can name nothing outside of specs/.
use Rattle.std.specs.Prelude.{◌≡◌, ℕ, Option, None, Some}
use Rattle.std.proofs.Common.{arith}
use Rattle.std.proofs.lemmas.Option.{none-some}
use Rattle.cm_disk.specs.Disk.{Files}
use Rattle.cm_disk.specs.Unknown.{Unknown}

pub unknown : (t : ℕ) (files : Files) → Unknown t files
unknown t files = record { any = omega arith }

-- what a disk that tells nothing would tell
pub untold : {T : Type 0} (files : Files) → ◌≡◌ {A = Option Files} None (Some files) → T
untold files is = absurd (none-some files is)
