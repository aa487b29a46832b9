use Rattle.cm_disk.proofs.Steps.{durable_sync}
use Rattle.cm_disk.proofs.laws.a_sync_leaves_what_a_read_gives.Goals as goal

pub returns : goal.returns
returns c calls place = durable_sync calls place
