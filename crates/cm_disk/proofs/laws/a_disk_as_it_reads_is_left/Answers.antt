use Rattle.std.proofs.Common.{refl}
use Rattle.cm_disk.specs.StandsLaws.{as_it_reads}
use Rattle.cm_disk.specs.Stands.{files_after}
use Rattle.cm_disk.proofs.laws.a_disk_as_it_reads_is_left.Goals as goal

pub returns : goal.returns
returns c calls q = as_it_reads calls (files_after calls) refl q
