use Rattle.std.proofs.Common.{List, ℕ, is_some, sym, ◌∙◌, ap, subst, rules}
use Rattle.cm_disk.specs.Disk.{File, Only}
use Rattle.cm_log.proofs.Frames.{only_call, only_then}
use Rattle.cm_log.proofs.Made.{no_file, a_file}
use Rattle.cm_log.proofs.making.is_made.Goals as goal

pub returns-in_err-size-clause-only : goal.returns-in_err-size-clause-only
returns-in_err-size-clause-only g c =
    let d = g.D.Disk in
    only_then
    (only_call d.reads d.may_leave d.moment d.left_since d.faults c.args.disk.now c.sync.new.self (g.met.D.Disk.only_now c.args.disk.now) c.sync.ensures.same c.sync.ensures.stop c.sync.ensures.time c.sync.ensures.cause.later)
    (only_call d.reads d.may_leave d.moment d.left_since d.faults c.sync.new.self c.size.new.self (g.met.D.Disk.only_now c.sync.new.self) c.size.ensures.same c.size.ensures.stop c.size.ensures.time c.size.ensures.cause.later)

pub returns-then-is_none-clause-only : goal.returns-then-is_none-clause-only
returns-then-is_none-clause-only g c =
    let d = g.D.Disk in
    only_then
    (only_call d.reads d.may_leave d.moment d.left_since d.faults c.args.disk.now c.sync.new.self (g.met.D.Disk.only_now c.args.disk.now) c.sync.ensures.same c.sync.ensures.stop c.sync.ensures.time c.sync.ensures.cause.later)
    (only_call d.reads d.may_leave d.moment d.left_since d.faults c.sync.new.self c.size.new.self (g.met.D.Disk.only_now c.sync.new.self) c.size.ensures.same c.size.ensures.stop c.size.ensures.time c.size.ensures.cause.later)

pub returns-in_err-sync_logs-clause-only : goal.returns-in_err-sync_logs-clause-only
returns-in_err-sync_logs-clause-only g c =
    let d = g.D.Disk in
    only_then
    (only_call d.reads d.may_leave d.moment d.left_since d.faults c.args.disk.now c.sync.new.self (g.met.D.Disk.only_now c.args.disk.now) c.sync.ensures.same c.sync.ensures.stop c.sync.ensures.time c.sync.ensures.cause.later)
    (only_then
    (only_call d.reads d.may_leave d.moment d.left_since d.faults c.sync.new.self c.size.new.self (g.met.D.Disk.only_now c.sync.new.self) c.size.ensures.same c.size.ensures.stop c.size.ensures.time c.size.ensures.cause.later)
    c.sync_logs.ensures.only)

pub returns-clause-only : goal.returns-clause-only
returns-clause-only g c =
    let d = g.D.Disk in
    only_then
    (only_call d.reads d.may_leave d.moment d.left_since d.faults c.args.disk.now c.sync.new.self (g.met.D.Disk.only_now c.args.disk.now) c.sync.ensures.same c.sync.ensures.stop c.sync.ensures.time c.sync.ensures.cause.later)
    (only_then
    (only_call d.reads d.may_leave d.moment d.left_since d.faults c.sync.new.self c.size.new.self (g.met.D.Disk.only_now c.sync.new.self) c.size.ensures.same c.size.ensures.stop c.size.ensures.time c.size.ensures.cause.later)
    c.sync_logs.ensures.only)

pub returns-then-is_none-clause-value : goal.returns-then-is_none-clause-value
returns-then-is_none-clause-value g c x told =
    let none = no_file (x c.ready_at-ready.result) c.in_ok-size.field-0 (search rules) (c.in_ok-size.ensures.value x (c.sync.ensures.same ∙ told)) in
    sym (ap (λ (q : List ℕ). is_some (x q)) (sym c.ready_at-ready.ensures) ∙ ap (λ (f : File). is_some f) none)

pub returns-clause-value : goal.returns-clause-value
returns-clause-value g c x told =
    let some = a_file (x c.ready_at-ready.result) c.in_ok-size.field-0 (search rules) (c.in_ok-size.ensures.value x (c.sync.ensures.same ∙ told)) in
    sym (ap (λ (q : List ℕ). is_some (x q)) (sym c.ready_at-ready.ensures) ∙ some)

pub returns-then-is_none-clause-sure : goal.returns-then-is_none-clause-sure
returns-then-is_none-clause-sure g c x told =
    let d = g.D.Disk in
    subst (λ (q : List ℕ). Only (x q) (d.may_leave c.size.new.self q)) c.ready_at-ready.ensures
    (λ left l. c.in_ok-sync.ensures.durable x (sym c.sync.ensures.same ∙ (sym c.size.ensures.same ∙ told)) left (c.size.ensures.stop c.ready_at-ready.result left l))

pub returns-clause-sure : goal.returns-clause-sure
returns-clause-sure g c x told =
    let d = g.D.Disk in
    subst (λ (q : List ℕ). Only (x q) (d.may_leave c.sync_logs.new.disk q)) c.ready_at-ready.ensures
    (λ left l. c.in_ok-sync.ensures.durable x (sym c.sync.ensures.same ∙ (sym c.size.ensures.same ∙ (sym c.sync_logs.ensures.only.same ∙ told))) left (c.size.ensures.stop c.ready_at-ready.result left (c.sync_logs.ensures.only.stop c.ready_at-ready.result left l)))

pub returns-clause-rests : goal.returns-clause-rests
returns-clause-rests g c there x told =
    let d = g.D.Disk in
    let before = sym c.sync_logs.ensures.only.same ∙ told in
    record {
      ready = subst (λ (q : List ℕ). Only (x q) (d.may_leave c.sync_logs.new.disk q)) c.ready_at-ready.ensures
          (λ left l. c.in_ok-sync.ensures.durable x (sym c.sync.ensures.same ∙ (sym c.size.ensures.same ∙ before)) left (c.size.ensures.stop c.ready_at-ready.result left (c.sync_logs.ensures.only.stop c.ready_at-ready.result left l)));
      logs = c.in_ok-sync_logs.ensures.durable x before;
    }
