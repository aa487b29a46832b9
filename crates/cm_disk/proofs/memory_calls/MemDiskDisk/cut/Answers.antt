use Rattle.std.proofs.Common.{refl}
use Rattle.cm_disk.specs.declared.calls.Work.TheVariants.{Cut}
use Rattle.cm_disk.specs.Disk.{shortened}
use Rattle.cm_disk.specs.Stands.{stand_after, files_after}
use Rattle.cm_disk.proofs.Clauses.{time_of, touches_of, there_of_call, does_of, cut_now}
use Rattle.cm_disk.proofs.Steps.{touches_cut, there_cut}
use Rattle.cm_disk.proofs.memory_calls.MemDiskDisk.cut.Goals as goal

pub returns-clause-work : goal.returns-clause-work
returns-clause-work c =
    does_of c.args.self.now.calls.items c.change.new.self.calls.items c.args.place.now (Cut c.args.size) (shortened c.args.size)
    (cut_now c.args.size (stand_after c.args.self.now.calls.items c.args.place.now) (c.requires (files_after c.args.self.now.calls.items) refl).0) c.change.result c.change.ensures.ok c.change.ensures.err

pub returns-clause-touches : goal.returns-clause-touches
returns-clause-touches c =
    touches_of c.args.self.now.calls.items c.change.new.self.calls.items c.args.place.now (Cut c.args.size) _ (touches_cut c.args.self.now.calls.items c.args.place.now c.args.size) c.change.result c.change.ensures.ok c.change.ensures.err

pub returns-clause-time : goal.returns-clause-time
returns-clause-time c = time_of c.args.self.now.calls.items c.change.new.self.calls.items c.args.place.now (Cut c.args.size) c.change.result c.change.ensures.ok c.change.ensures.err

pub returns-clause-there : goal.returns-clause-there
returns-clause-there c =
    there_of_call c.args.self.now.calls.items c.change.new.self.calls.items c.args.place.now (Cut c.args.size) (there_cut c.args.self.now.calls.items c.args.place.now c.args.size) c.change.result c.change.ensures.ok c.change.ensures.err
