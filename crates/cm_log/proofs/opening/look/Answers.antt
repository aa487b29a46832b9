use Rattle.std.proofs.Common.{sym, ap, ◌∙◌, rules}
use Rattle.cm_log.specs.declared.head.Choice.{Choice}
use Rattle.cm_log.specs.Logs.{told_by}
use Rattle.cm_log.proofs.Frames.{only_call, only_then}
use Rattle.cm_log.proofs.Made.{look_some}
use Rattle.cm_log.proofs.opening.look.Goals as goal

pub returns-in_err-first-clause-only : goal.returns-in_err-first-clause-only
returns-in_err-first-clause-only g c =
    let d = g.D.Disk in
    only_then
    (only_call d.reads d.may_leave d.moment d.left_since d.faults c.args.disk.now c.size.new.self (g.met.D.Disk.only_now c.args.disk.now) c.size.ensures.same c.size.ensures.stop c.size.ensures.time c.size.ensures.cause.later)
    c.head_on-read.ensures.only

pub returns-in_err-second-clause-only : goal.returns-in_err-second-clause-only
returns-in_err-second-clause-only g c =
    let d = g.D.Disk in
    only_then
    (only_call d.reads d.may_leave d.moment d.left_since d.faults c.args.disk.now c.size.new.self (g.met.D.Disk.only_now c.args.disk.now) c.size.ensures.same c.size.ensures.stop c.size.ensures.time c.size.ensures.cause.later)
    (only_then c.head_on-read.ensures.only c.head_on.ensures.only)

pub returns-clause-only : goal.returns-clause-only
returns-clause-only g c =
    let d = g.D.Disk in
    only_then
    (only_call d.reads d.may_leave d.moment d.left_since d.faults c.args.disk.now c.size.new.self (g.met.D.Disk.only_now c.args.disk.now) c.size.ensures.same c.size.ensures.stop c.size.ensures.time c.size.ensures.cause.later)
    (only_then c.head_on-read.ensures.only c.head_on.ensures.only)

pub returns-clause-value : goal.returns-clause-value
returns-clause-value g c x told =
    let sized = c.size.ensures.same ∙ told in
    look_some c.args.shelf x c.ready_at.result c.log_at-live.result c.log_at-other.result c.in_ok-size.field-0 c.in_ok-first.first c.in_ok-second.second c.ready_at.ensures c.log_at-live.ensures c.log_at-other.ensures
    (search rules) (c.in_ok-size.ensures.value x told) (c.in_ok-first.ensures.value x sized) (c.in_ok-second.ensures.value x (c.head_on-read.ensures.only.same ∙ sized))
    ∙ ap (λ (found : Choice). told_by found c.args.shelf x) (sym c.choose.ensures)
