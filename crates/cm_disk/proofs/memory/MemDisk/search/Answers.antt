use Rattle.std.proofs.Common.{ap}
use Rattle.cm_disk.specs.Images.{Stand}
use Rattle.cm_disk.specs.Stands.{files_after}
use Rattle.cm_disk.proofs.Above.{kept_in, row-same}
use Rattle.cm_disk.proofs.memory.MemDisk.search.Goals as goal

pub invariant_of-self-clause-row : goal.invariant_of-self-clause-row
invariant_of-self-clause-row c =
    row-same (kept_in c.args.self.now.slots) (files_after c.args.self.now.calls.items) c.first_after.new.places.items (λ q. ap (λ (s : Stand). s.now) (c.args.self.now.same q)) c.first_after.ensures.row
