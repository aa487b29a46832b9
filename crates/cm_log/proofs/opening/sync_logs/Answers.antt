use Rattle.std.proofs.Common.{◌∙◌}
use Rattle.cm_log.proofs.Frames.{only_call, only_then}
use Rattle.cm_log.proofs.Rest.{logs_at}
use Rattle.cm_log.proofs.opening.sync_logs.Goals as goal

pub returns-in_err-sync-clause-only : goal.returns-in_err-sync-clause-only
returns-in_err-sync-clause-only g c =
    let d = g.D.Disk in
    only_then
    (only_call d.reads d.may_leave d.moment d.left_since d.faults c.args.disk.now c.sync-is_first.new.self (g.met.D.Disk.only_now c.args.disk.now) c.sync-is_first.ensures.same c.sync-is_first.ensures.stop c.sync-is_first.ensures.time c.sync-is_first.ensures.cause.later)
    (only_call d.reads d.may_leave d.moment d.left_since d.faults c.sync-is_first.new.self c.sync.new.self (g.met.D.Disk.only_now c.sync-is_first.new.self) c.sync.ensures.same c.sync.ensures.stop c.sync.ensures.time c.sync.ensures.cause.later)

pub returns-clause-only : goal.returns-clause-only
returns-clause-only g c =
    let d = g.D.Disk in
    only_then
    (only_call d.reads d.may_leave d.moment d.left_since d.faults c.args.disk.now c.sync-is_first.new.self (g.met.D.Disk.only_now c.args.disk.now) c.sync-is_first.ensures.same c.sync-is_first.ensures.stop c.sync-is_first.ensures.time c.sync-is_first.ensures.cause.later)
    (only_call d.reads d.may_leave d.moment d.left_since d.faults c.sync-is_first.new.self c.sync.new.self (g.met.D.Disk.only_now c.sync-is_first.new.self) c.sync.ensures.same c.sync.ensures.stop c.sync.ensures.time c.sync.ensures.cause.later)

pub returns-clause-durable : goal.returns-clause-durable
returns-clause-durable g c x told =
    logs_at c.args.shelf x (g.D.Disk.may_leave c.sync.new.self) c.log_at-first.result c.log_at-second.result c.log_at-first.ensures c.log_at-second.ensures
    (λ left l. c.in_ok-is_first.ensures.durable x told left (c.sync.ensures.stop _ left l))
    (c.in_ok-sync.ensures.durable x (c.sync-is_first.ensures.same ∙ told))
