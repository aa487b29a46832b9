use Rattle.cm_disk.proofs.Joined.{stand_back}
use Rattle.cm_disk.proofs.mem_disk.put_back.Goals as goal

pub returns : goal.returns
returns c = stand_back c.args.slots.now c.insert-absent.new.self c.args.place c.args.slot c.insert-absent.result c.requires c.insert-absent.ensures.updates c.insert-absent.ensures.absent
