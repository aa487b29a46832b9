use Rattle.std.proofs.Common.{List, ℕ, sym, ◌∙◌, subst}
use Rattle.cm_disk.specs.Disk.{Only}
use Rattle.cm_log.proofs.Frames.{only_call, only_then}
use Rattle.cm_log.proofs.opening.sync_places.Goals as goal

pub returns-in_err-sync_logs-clause-only : goal.returns-in_err-sync_logs-clause-only
returns-in_err-sync_logs-clause-only g c =
    let d = g.D.Disk in
    only_then
    (only_call d.reads d.may_leave d.moment d.left_since d.faults c.args.disk.now c.sync.new.self (g.met.D.Disk.only_now c.args.disk.now) c.sync.ensures.same c.sync.ensures.stop c.sync.ensures.time c.sync.ensures.cause.later)
    c.sync_logs.ensures.only

pub returns-clause-only : goal.returns-clause-only
returns-clause-only g c =
    let d = g.D.Disk in
    only_then
    (only_call d.reads d.may_leave d.moment d.left_since d.faults c.args.disk.now c.sync.new.self (g.met.D.Disk.only_now c.args.disk.now) c.sync.ensures.same c.sync.ensures.stop c.sync.ensures.time c.sync.ensures.cause.later)
    c.sync_logs.ensures.only

pub returns-clause-rests : goal.returns-clause-rests
returns-clause-rests g c x told =
    let d = g.D.Disk in
    let before = sym c.sync_logs.ensures.only.same ∙ told in
    record {
      ready = subst (λ (q : List ℕ). Only (x q) (d.may_leave c.sync_logs.new.disk q)) c.ready_at.ensures
          (λ left l. c.in_ok-sync.ensures.durable x (sym c.sync.ensures.same ∙ before) left (c.sync_logs.ensures.only.stop c.ready_at.result left l));
      logs = c.in_ok-sync_logs.ensures.durable x before;
    }
