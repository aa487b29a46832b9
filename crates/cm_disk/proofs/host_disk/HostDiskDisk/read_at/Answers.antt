use Rattle.std.specs.Prelude.{⊤}
use Rattle.cm_disk.specs.Unknown.{Unknown}
use Rattle.cm_disk.proofs.Moments.{still}
use Rattle.cm_disk.proofs.host_disk.HostDiskDisk.read_at.Goals as goal

pub returns-in-Ok-clause-time : goal.returns-in-Ok-clause-time
returns-in-Ok-clause-time g c = still 0 Unknown (λ place file. ⊤)

pub returns-in-Err-clause-time : goal.returns-in-Err-clause-time
returns-in-Err-clause-time g c = still 0 Unknown (λ place file. ⊤)
