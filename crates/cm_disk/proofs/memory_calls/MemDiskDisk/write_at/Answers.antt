use Rattle.std.proofs.Common.{◌⊎◌, List, ℕ, ◌+◌, ◌<◌, ◌≤◌, length, ◌∙◌, ap, subst}
use Rattle.cm_disk.specs.declared.calls.Work.TheVariants.{Write}
use Rattle.cm_disk.specs.Disk.{written, Touches}
use Rattle.cm_disk.specs.Stands.{files_after, left_after}
use Rattle.cm_disk.proofs.Clauses.{time_of, touches_of, there_of_call, does_of, does_nothing, recorded_write}
use Rattle.cm_disk.proofs.Steps.{touches_write, there_write}
use Rattle.cm_disk.proofs.memory_calls.MemDiskDisk.write_at.Goals as goal

pub returns-in_default-clause-work : goal.returns-in_default-clause-work
returns-in_default-clause-work c =
    does_nothing (files_after c.args.self.now.calls.items) (files_after c.lack.new.self.calls.items) c.args.place.now (written c.args.offset c.args.bytes.now) c.lack.result (ap (λ v. files_after v.items) (c.lack.ensures.calls ∙ c.fails-listed.ensures.calls))

pub returns-clause-work : goal.returns-clause-work
returns-clause-work c =
    does_of c.args.self.now.calls.items c.change.new.self.calls.items c.args.place.now (Write c.args.offset c.in-Ok.bytes) (written c.args.offset c.args.bytes.now)
    (ap (λ (l : List ℕ). written c.args.offset l (files_after c.args.self.now.calls.items c.args.place.now)) c.in-Ok.ensures) c.change.result c.change.ensures.ok c.change.ensures.err

pub returns-clause-touches : goal.returns-clause-touches
returns-clause-touches c =
    subst (λ (l : List ℕ). Touches c.args.place.now (λ i. (i < c.args.offset) ⊎ (c.args.offset + length l ≤ i)) (left_after c.args.self.now.calls.items) (left_after c.change.new.self.calls.items)) c.in-Ok.ensures
    (touches_of c.args.self.now.calls.items c.change.new.self.calls.items c.args.place.now (Write c.args.offset c.in-Ok.bytes) _ (touches_write c.args.self.now.calls.items c.args.place.now c.args.offset c.in-Ok.bytes) c.change.result c.change.ensures.ok c.change.ensures.err)

pub returns-clause-time : goal.returns-clause-time
returns-clause-time c = time_of c.args.self.now.calls.items c.change.new.self.calls.items c.args.place.now (Write c.args.offset c.in-Ok.bytes) c.change.result c.change.ensures.ok c.change.ensures.err

pub returns-clause-there : goal.returns-clause-there
returns-clause-there c =
    there_of_call c.args.self.now.calls.items c.change.new.self.calls.items c.args.place.now (Write c.args.offset c.in-Ok.bytes) (there_write c.args.self.now.calls.items c.args.place.now c.args.offset c.in-Ok.bytes) c.change.result c.change.ensures.ok c.change.ensures.err

pub returns-clause-recorded : goal.returns-clause-recorded
returns-clause-recorded c = recorded_write c.args.self.now c.change.new.self c.args.place.now c.args.offset c.in-Ok.bytes c.args.bytes.now c.in-Ok.ensures c.change.result c.change.ensures.recorded
