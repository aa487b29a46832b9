use Rattle.std.proofs.Common.{ℕ, List, subst}
use Rattle.std.specs.Prelude.{None, OnOk}
use Rattle.std.specs.Option.{ForSome}
use Rattle.cm_disk.specs.Disk.{Only}
use Rattle.cm_log.specs.Frames.{LeavesAlone}
use Rattle.cm_library.specs.Purging.{stored_place, IsOther}
use Rattle.cm_library.proofs.Folders.{alone_erased}
use Rattle.cm_library.proofs.stored.erase_at.Goals as goal

pub returns-clause-durable : goal.returns-clause-durable
returns-clause-durable g c =
    let d = g.D.Disk in
    subst (λ (p : List ℕ). OnOk c.erase.result (ForSome (d.reads c.args.disk.now) (λ _. Only None (d.may_leave c.erase.new.disk p)))) c.in-Some.ensures.place c.erase.ensures.durable

pub returns-clause-alone : goal.returns-clause-alone
returns-clause-alone g c =
    let d = g.D.Disk in
    subst (λ (p : List ℕ). LeavesAlone (IsOther p) d.reads d.may_leave d.moment d.left_since d.faults c.args.disk.now c.erase.new.disk) c.in-Some.ensures.place
    (alone_erased d.reads d.may_leave d.moment d.left_since d.faults c.args.disk.now c.erase.new.disk (stored_place c.in-Some.stored) c.erase.result c.erase.ensures.work c.erase.ensures.others c.erase.ensures.run c.erase.ensures.cause.later)
