use Rattle.std.specs.Prelude.{⊤}
use Rattle.cm_disk.specs.Unknown.{Unknown}
use Rattle.cm_disk.proofs.Moments.{still}
use Rattle.cmsite.proofs.bay_disk.BayDiskDisk.cut.Goals as goal

pub returns-in-Absent-clause-time : goal.returns-in-Absent-clause-time
returns-in-Absent-clause-time g c = still 0 Unknown (λ place file. ⊤)

pub returns-in-Refused-clause-time : goal.returns-in-Refused-clause-time
returns-in-Refused-clause-time g c = still 0 Unknown (λ place file. ⊤)
