use Rattle.std.proofs.Common.{inr, get_or, ◌∙◌, sym, refl, rules}
use Rattle.cm_disk.specs.Disk.{bytes_of}
use Rattle.cm_log.proofs.Adding.{after_ok, settled_by, unsettled_by, unsettled_kept, stands_kept, told_open, told_shut, found_open, found_shut, one_by, other_by}
use Rattle.cm_log.proofs.Frames.{only_start, only_call, only_then}
use Rattle.cm_log.proofs.state.Log.settle.Goals as goal

pub returns-then-self-clause-stands : goal.returns-then-self-clause-stands
returns-then-self-clause-stands g c x told =
    after_ok (settled_by x (g.D.Disk.may_leave c.args.disk.now) c.args.self.now (c.requires.stands x told) c.if-self.true)

pub returns-in_err-sync-clause-stands : goal.returns-in_err-sync-clause-stands
returns-in_err-sync-clause-stands g c x told = record {
  settled = search rules;
  stands = stands_kept x (g.D.Disk.may_leave c.args.disk.now) (g.D.Disk.may_leave c.sync.new.self) c.args.self.now c.sync.ensures.stop c.if-self.false (c.requires.stands x (sym c.sync.ensures.same ∙ told));
}

pub returns-in_err-is_open-clause-stands : goal.returns-in_err-is_open-clause-stands
returns-in_err-is_open-clause-stands g c x told =
    let u = unsettled_by x (g.D.Disk.may_leave c.args.disk.now) c.args.self.now (c.requires.stands x (sym c.sync.ensures.same ∙ (sym c.is_open.ensures.only.same ∙ told))) c.if-self.false in
    let k = unsettled_kept x (g.D.Disk.may_leave c.args.disk.now) (g.D.Disk.may_leave c.is_open.new.disk) c.args.self.now u.0 u.1 (λ q file left. c.sync.ensures.stop q file (c.is_open.ensures.only.stop q file left)) u.2 in
    record {
      settled = search rules;
      stands = inr (
        u.0,
        u.1,
        record { entries = k.entries; live = k.live; number = k.number; end_with = k.end_with; reads = k.reads; leaves = k.leaves; ready = k.ready; other = k.other },
      );
    }

pub returns-then-branch-clause-stands : goal.returns-then-branch-clause-stands
returns-then-branch-clause-stands g c x told =
    let synced = sym c.is_open.ensures.only.same ∙ told in
    let before = sym c.sync.ensures.same ∙ synced in
    let u = unsettled_by x (g.D.Disk.may_leave c.args.disk.now) c.args.self.now (c.requires.stands x before) c.if-self.false in
    let found = found_open x (g.D.Disk.may_leave c.args.disk.now) (g.D.Disk.may_leave c.is_open.new.disk) c.args.self.now u.0 u.1 u.2 (λ q file left. c.sync.ensures.stop q file (c.is_open.ensures.only.stop q file left))
    (λ left l. c.in_ok-sync.ensures.durable x before left (c.is_open.ensures.only.stop c.args.self.now.place left l)) (one_by c.in_ok-is_open.field-0 (get_or (bytes_of (x c.args.self.now.place)) c.args.self.now.end 0) (c.in_ok-is_open.ensures.value x synced) c.if-branch.true) in
    after_ok (record {
      ends = record { entries = found.entries; live = found.live; number = found.number };
      rests = found.rests;
      idle = refl;
    })

pub returns-clause-stands : goal.returns-clause-stands
returns-clause-stands g c x told =
    let synced = sym c.is_open.ensures.only.same ∙ told in
    let before = sym c.sync.ensures.same ∙ synced in
    let u = unsettled_by x (g.D.Disk.may_leave c.args.disk.now) c.args.self.now (c.requires.stands x before) c.if-self.false in
    let found = found_shut x (g.D.Disk.may_leave c.args.disk.now) (g.D.Disk.may_leave c.is_open.new.disk) c.args.self.now u.0 u.1 u.2 (λ q file left. c.sync.ensures.stop q file (c.is_open.ensures.only.stop q file left))
    (λ left l. c.in_ok-sync.ensures.durable x before left (c.is_open.ensures.only.stop c.args.self.now.place left l)) (other_by c.in_ok-is_open.field-0 (get_or (bytes_of (x c.args.self.now.place)) c.args.self.now.end 0) (c.in_ok-is_open.ensures.value x synced) c.if-branch.false) in
    after_ok (record {
      ends = record { entries = found.entries; live = found.live; number = found.number };
      rests = found.rests;
      idle = refl;
    })

pub returns-then-branch-clause-told : goal.returns-then-branch-clause-told
returns-then-branch-clause-told g c x told old body u =
    told_open x (g.D.Disk.may_leave c.args.disk.now) c.args.self.now old body u (one_by c.in_ok-is_open.field-0 (get_or (bytes_of (x c.args.self.now.place)) c.args.self.now.end 0) (c.in_ok-is_open.ensures.value x (c.sync.ensures.same ∙ told)) c.if-branch.true)

pub returns-clause-told : goal.returns-clause-told
returns-clause-told g c x told old body u =
    told_shut x (g.D.Disk.may_leave c.args.disk.now) c.args.self.now old body u (other_by c.in_ok-is_open.field-0 (get_or (bytes_of (x c.args.self.now.place)) c.args.self.now.end 0) (c.in_ok-is_open.ensures.value x (c.sync.ensures.same ∙ told)) c.if-branch.false)

pub returns-then-self-clause-only : goal.returns-then-self-clause-only
returns-then-self-clause-only g c =
    let d = g.D.Disk in
    only_start d.reads d.may_leave d.moment d.left_since d.faults c.args.disk.now (g.met.D.Disk.only_now c.args.disk.now)

pub returns-in_err-sync-clause-only : goal.returns-in_err-sync-clause-only
returns-in_err-sync-clause-only g c =
    let d = g.D.Disk in
    only_call d.reads d.may_leave d.moment d.left_since d.faults c.args.disk.now c.sync.new.self (g.met.D.Disk.only_now c.args.disk.now) c.sync.ensures.same c.sync.ensures.stop c.sync.ensures.time c.sync.ensures.cause.later

pub returns-in_err-is_open-clause-only : goal.returns-in_err-is_open-clause-only
returns-in_err-is_open-clause-only g c =
    let d = g.D.Disk in
    only_then
    (only_call d.reads d.may_leave d.moment d.left_since d.faults c.args.disk.now c.sync.new.self (g.met.D.Disk.only_now c.args.disk.now) c.sync.ensures.same c.sync.ensures.stop c.sync.ensures.time c.sync.ensures.cause.later)
    c.is_open.ensures.only

pub returns-then-branch-clause-only : goal.returns-then-branch-clause-only
returns-then-branch-clause-only g c =
    let d = g.D.Disk in
    only_then
    (only_call d.reads d.may_leave d.moment d.left_since d.faults c.args.disk.now c.sync.new.self (g.met.D.Disk.only_now c.args.disk.now) c.sync.ensures.same c.sync.ensures.stop c.sync.ensures.time c.sync.ensures.cause.later)
    c.is_open.ensures.only

pub returns-clause-only : goal.returns-clause-only
returns-clause-only g c =
    let d = g.D.Disk in
    only_then
    (only_call d.reads d.may_leave d.moment d.left_since d.faults c.args.disk.now c.sync.new.self (g.met.D.Disk.only_now c.args.disk.now) c.sync.ensures.same c.sync.ensures.stop c.sync.ensures.time c.sync.ensures.cause.later)
    c.is_open.ensures.only
