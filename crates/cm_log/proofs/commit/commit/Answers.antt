use Rattle.std.proofs.Common.{◌≡◌, inl, inr, ◌+◌, ◌≤◌, [], ◌∷◌, length, take, sym, ◌∙◌, subst, arith, rules}
use Rattle.std.specs.Prelude.{◌≢◌}
use Rattle.std.proofs.lemmas.Option.{same_Some}
use Rattle.cm_disk.specs.Disk.{Files, put, bytes_of, written}
use Rattle.cm_disk.proofs.Puts.{told_before, put_there}
use Rattle.cm_log.proofs.Along.{begun, next, quiet}
use Rattle.cm_log.proofs.Frames.{only_call, alone_call, alone_only, alone_then}
use Rattle.cm_log.proofs.Images.{behind, over_gate, staged_put, opened_put, partly_staged, partly_opened, still_shut, long_enough}
use Rattle.cm_log.proofs.commit.commit.Goals as goal

pub returns-in_err-staged-clause-works : goal.returns-in_err-staged-clause-works
returns-in_err-staged-clause-works g c x told front long h =
    let failed = c.in_err-staged.ensures.work.err x told in (
      put x c.args.place.now failed.0,
      failed.1,
      record {
        ok = search rules;
        either = partly_staged x c.args.place.now c.args.end front c.args.body.now long (take c.assemble-count.result c.assemble-count.new.buffer) failed.0 h failed.2;
        others = λ q other. put_there x c.args.place.now failed.0 q other;
      },
    )

pub returns-in_err-staged-clause-any_moment : goal.returns-in_err-staged-clause-any_moment
returns-in_err-staged-clause-any_moment g c x told front long h =
    let d = g.D.Disk in
    let only = (c.requires.shut x told).3 in
    let a = begun d.may_leave d.moment d.left_since c.args.place.now front c.args.body.now c.args.disk.now (x c.args.place.now) h only (g.met.D.Disk.only_now c.args.disk.now) in
    let b = next d.may_leave d.moment d.left_since c.args.place.now front c.args.body.now c.args.disk.now c.args.disk.now c.write_at-staged.new.self a c.write_at-staged.ensures.time
    (behind c.args.place.now front c.args.body.now (d.may_leave c.args.disk.now) (x c.args.place.now) c.args.end _ (d.may_leave c.write_at-staged.new.self) long h only c.write_at-staged.ensures.touches) in
    b.so_far

pub returns-in_err-preserved-clause-works : goal.returns-in_err-preserved-clause-works
returns-in_err-preserved-clause-works g c x told front long h =
    let files = put x c.args.place.now (written (c.args.end + 1) (take c.assemble-count.result c.assemble-count.new.buffer) (x c.args.place.now)) in
    let stood = staged_put x c.args.place.now c.args.end front c.args.body.now long (take c.assemble-count.result c.assemble-count.new.buffer) c.assemble-count.ensures.bytes h in (
      files,
      c.sync-preserved.ensures.same ∙ c.in_ok-staged.ensures.work.ok x told,
      record {
        ok = search rules;
        either = inl (still_shut (files c.args.place.now) front c.args.body.now stood);
        others = λ q other. put_there x c.args.place.now _ q other;
      },
    )

pub returns-in_err-preserved-clause-any_moment : goal.returns-in_err-preserved-clause-any_moment
returns-in_err-preserved-clause-any_moment g c x told front long h =
    let d = g.D.Disk in
    let only = (c.requires.shut x told).3 in
    let a = begun d.may_leave d.moment d.left_since c.args.place.now front c.args.body.now c.args.disk.now (x c.args.place.now) h only (g.met.D.Disk.only_now c.args.disk.now) in
    let b = next d.may_leave d.moment d.left_since c.args.place.now front c.args.body.now c.args.disk.now c.args.disk.now c.write_at-staged.new.self a c.write_at-staged.ensures.time
    (behind c.args.place.now front c.args.body.now (d.may_leave c.args.disk.now) (x c.args.place.now) c.args.end _ (d.may_leave c.write_at-staged.new.self) long h only c.write_at-staged.ensures.touches) in
    let e = quiet d.may_leave d.moment d.left_since c.args.place.now front c.args.body.now c.args.disk.now c.write_at-staged.new.self c.sync-preserved.new.self b c.sync-preserved.ensures.time c.sync-preserved.ensures.stop in
    e.so_far

pub write_at-requires-clause-within : goal.write_at-requires-clause-within
write_at-requires-clause-within g c x told =
    let d = g.D.Disk in
    let now = sym c.sync-preserved.ensures.same ∙ told in
    let before = told_before (d.reads c.args.disk.now) (d.reads c.write_at-staged.new.self) c.write_at-staged.ensures.work.silent x now in
    let s = c.requires.shut before.0 before.1 in
    let files = put before.0 c.args.place.now (written (c.args.end + 1) (take c.assemble-count.result c.assemble-count.new.buffer) (before.0 c.args.place.now)) in
    let stood = staged_put before.0 c.args.place.now c.args.end s.0 c.args.body.now s.1 (take c.assemble-count.result c.assemble-count.new.buffer) c.assemble-count.ensures.bytes s.2 in
    let is : files ≡ x = same_Some files x (sym (c.in_ok-staged.ensures.work.ok before.0 before.1) ∙ now) in
    subst (λ (f : Files). c.args.end ≤ length (bytes_of (f c.args.place.now))) is (omega (arith, s.1, long_enough (files c.args.place.now) s.0 (still_shut (files c.args.place.now) s.0 c.args.body.now stood)))

pub returns-in_err-write_at-clause-works : goal.returns-in_err-write_at-clause-works
returns-in_err-write_at-clause-works g c x told front long h =
    let files = put x c.args.place.now (written (c.args.end + 1) (take c.assemble-count.result c.assemble-count.new.buffer) (x c.args.place.now)) in
    let stood = staged_put x c.args.place.now c.args.end front c.args.body.now long (take c.assemble-count.result c.assemble-count.new.buffer) c.assemble-count.ensures.bytes h in
    let failed = c.in_err-write_at.ensures.work.err files (c.sync-preserved.ensures.same ∙ c.in_ok-staged.ensures.work.ok x told) in (
      put files c.args.place.now failed.0,
      failed.1,
      record {
        ok = search rules;
        either = partly_opened files c.args.place.now c.args.end front c.args.body.now long failed.0 stood failed.2;
        others = λ q other. put_there files c.args.place.now failed.0 q other ∙ put_there x c.args.place.now _ q other;
      },
    )

pub returns-in_err-write_at-clause-any_moment : goal.returns-in_err-write_at-clause-any_moment
returns-in_err-write_at-clause-any_moment g c x told front long h =
    let d = g.D.Disk in
    let only = (c.requires.shut x told).3 in
    let a = begun d.may_leave d.moment d.left_since c.args.place.now front c.args.body.now c.args.disk.now (x c.args.place.now) h only (g.met.D.Disk.only_now c.args.disk.now) in
    let b = next d.may_leave d.moment d.left_since c.args.place.now front c.args.body.now c.args.disk.now c.args.disk.now c.write_at-staged.new.self a c.write_at-staged.ensures.time
    (behind c.args.place.now front c.args.body.now (d.may_leave c.args.disk.now) (x c.args.place.now) c.args.end _ (d.may_leave c.write_at-staged.new.self) long h only c.write_at-staged.ensures.touches) in
    let e = quiet d.may_leave d.moment d.left_since c.args.place.now front c.args.body.now c.args.disk.now c.write_at-staged.new.self c.sync-preserved.new.self b c.sync-preserved.ensures.time c.sync-preserved.ensures.stop in
    let files = put x c.args.place.now (written (c.args.end + 1) (take c.assemble-count.result c.assemble-count.new.buffer) (x c.args.place.now)) in
    let stood = staged_put x c.args.place.now c.args.end front c.args.body.now long (take c.assemble-count.result c.assemble-count.new.buffer) c.assemble-count.ensures.bytes h in
    let sure = c.in_ok-preserved.ensures.durable files (c.in_ok-staged.ensures.work.ok x told) in
    let i = next d.may_leave d.moment d.left_since c.args.place.now front c.args.body.now c.args.disk.now c.sync-preserved.new.self c.write_at.new.self e c.write_at.ensures.time
    (over_gate c.args.place.now front c.args.body.now (d.may_leave c.args.disk.now) (files c.args.place.now) c.args.end (d.may_leave c.sync-preserved.new.self) (d.may_leave c.write_at.new.self) long stood sure
    (λ q f other now. c.write_at-staged.ensures.touches.others q f other (c.sync-preserved.ensures.stop q f now)) c.write_at.ensures.touches) in
    i.so_far

pub returns-in_err-sync-clause-works : goal.returns-in_err-sync-clause-works
returns-in_err-sync-clause-works g c x told front long h =
    let files = put x c.args.place.now (written (c.args.end + 1) (take c.assemble-count.result c.assemble-count.new.buffer) (x c.args.place.now)) in
    let stood = staged_put x c.args.place.now c.args.end front c.args.body.now long (take c.assemble-count.result c.assemble-count.new.buffer) c.assemble-count.ensures.bytes h in
    let after = put files c.args.place.now (written c.args.end (1 ∷ []) (files c.args.place.now)) in
    let told_after = c.in_ok-write_at.ensures.work.ok files (c.sync-preserved.ensures.same ∙ c.in_ok-staged.ensures.work.ok x told) in
    let opened = opened_put files c.args.place.now c.args.end front c.args.body.now long stood in (
      after,
      c.sync.ensures.same ∙ told_after,
      record {
        ok = search rules;
        either = inr opened;
        others = λ q other. put_there files c.args.place.now _ q other ∙ put_there x c.args.place.now _ q other;
      },
    )

pub returns-in_err-sync-clause-any_moment : goal.returns-in_err-sync-clause-any_moment
returns-in_err-sync-clause-any_moment g c x told front long h =
    let d = g.D.Disk in
    let only = (c.requires.shut x told).3 in
    let a = begun d.may_leave d.moment d.left_since c.args.place.now front c.args.body.now c.args.disk.now (x c.args.place.now) h only (g.met.D.Disk.only_now c.args.disk.now) in
    let b = next d.may_leave d.moment d.left_since c.args.place.now front c.args.body.now c.args.disk.now c.args.disk.now c.write_at-staged.new.self a c.write_at-staged.ensures.time
    (behind c.args.place.now front c.args.body.now (d.may_leave c.args.disk.now) (x c.args.place.now) c.args.end _ (d.may_leave c.write_at-staged.new.self) long h only c.write_at-staged.ensures.touches) in
    let e = quiet d.may_leave d.moment d.left_since c.args.place.now front c.args.body.now c.args.disk.now c.write_at-staged.new.self c.sync-preserved.new.self b c.sync-preserved.ensures.time c.sync-preserved.ensures.stop in
    let files = put x c.args.place.now (written (c.args.end + 1) (take c.assemble-count.result c.assemble-count.new.buffer) (x c.args.place.now)) in
    let stood = staged_put x c.args.place.now c.args.end front c.args.body.now long (take c.assemble-count.result c.assemble-count.new.buffer) c.assemble-count.ensures.bytes h in
    let sure = c.in_ok-preserved.ensures.durable files (c.in_ok-staged.ensures.work.ok x told) in
    let i = next d.may_leave d.moment d.left_since c.args.place.now front c.args.body.now c.args.disk.now c.sync-preserved.new.self c.write_at.new.self e c.write_at.ensures.time
    (over_gate c.args.place.now front c.args.body.now (d.may_leave c.args.disk.now) (files c.args.place.now) c.args.end (d.may_leave c.sync-preserved.new.self) (d.may_leave c.write_at.new.self) long stood sure
    (λ q f other now. c.write_at-staged.ensures.touches.others q f other (c.sync-preserved.ensures.stop q f now)) c.write_at.ensures.touches) in
    let j = quiet d.may_leave d.moment d.left_since c.args.place.now front c.args.body.now c.args.disk.now c.write_at.new.self c.sync.new.self i c.sync.ensures.time c.sync.ensures.stop in
    j.so_far

pub returns-clause-works : goal.returns-clause-works
returns-clause-works g c x told front long h =
    let files = put x c.args.place.now (written (c.args.end + 1) (take c.assemble-count.result c.assemble-count.new.buffer) (x c.args.place.now)) in
    let stood = staged_put x c.args.place.now c.args.end front c.args.body.now long (take c.assemble-count.result c.assemble-count.new.buffer) c.assemble-count.ensures.bytes h in
    let after = put files c.args.place.now (written c.args.end (1 ∷ []) (files c.args.place.now)) in
    let told_after = c.in_ok-write_at.ensures.work.ok files (c.sync-preserved.ensures.same ∙ c.in_ok-staged.ensures.work.ok x told) in
    let opened = opened_put files c.args.place.now c.args.end front c.args.body.now long stood in (
      after,
      c.sync.ensures.same ∙ told_after,
      record {
        ok = opened;
        either = inr opened;
        others = λ q other. put_there files c.args.place.now _ q other ∙ put_there x c.args.place.now _ q other;
      },
    )

pub returns-clause-durable : goal.returns-clause-durable
returns-clause-durable g c x told = c.in_ok-sync.ensures.durable x (sym c.sync.ensures.same ∙ told)

pub returns-clause-any_moment : goal.returns-clause-any_moment
returns-clause-any_moment g c x told front long h =
    let d = g.D.Disk in
    let only = (c.requires.shut x told).3 in
    let a = begun d.may_leave d.moment d.left_since c.args.place.now front c.args.body.now c.args.disk.now (x c.args.place.now) h only (g.met.D.Disk.only_now c.args.disk.now) in
    let b = next d.may_leave d.moment d.left_since c.args.place.now front c.args.body.now c.args.disk.now c.args.disk.now c.write_at-staged.new.self a c.write_at-staged.ensures.time
    (behind c.args.place.now front c.args.body.now (d.may_leave c.args.disk.now) (x c.args.place.now) c.args.end _ (d.may_leave c.write_at-staged.new.self) long h only c.write_at-staged.ensures.touches) in
    let e = quiet d.may_leave d.moment d.left_since c.args.place.now front c.args.body.now c.args.disk.now c.write_at-staged.new.self c.sync-preserved.new.self b c.sync-preserved.ensures.time c.sync-preserved.ensures.stop in
    let files = put x c.args.place.now (written (c.args.end + 1) (take c.assemble-count.result c.assemble-count.new.buffer) (x c.args.place.now)) in
    let stood = staged_put x c.args.place.now c.args.end front c.args.body.now long (take c.assemble-count.result c.assemble-count.new.buffer) c.assemble-count.ensures.bytes h in
    let sure = c.in_ok-preserved.ensures.durable files (c.in_ok-staged.ensures.work.ok x told) in
    let i = next d.may_leave d.moment d.left_since c.args.place.now front c.args.body.now c.args.disk.now c.sync-preserved.new.self c.write_at.new.self e c.write_at.ensures.time
    (over_gate c.args.place.now front c.args.body.now (d.may_leave c.args.disk.now) (files c.args.place.now) c.args.end (d.may_leave c.sync-preserved.new.self) (d.may_leave c.write_at.new.self) long stood sure
    (λ q f other now. c.write_at-staged.ensures.touches.others q f other (c.sync-preserved.ensures.stop q f now)) c.write_at.ensures.touches) in
    let j = quiet d.may_leave d.moment d.left_since c.args.place.now front c.args.body.now c.args.disk.now c.write_at.new.self c.sync.new.self i c.sync.ensures.time c.sync.ensures.stop in
    j.so_far

pub returns-in_err-staged-clause-alone : goal.returns-in_err-staged-clause-alone
returns-in_err-staged-clause-alone g c =
    let d = g.D.Disk in
    alone_call d.reads d.may_leave d.moment d.left_since d.faults c.args.disk.now c.write_at-staged.new.self (g.met.D.Disk.only_now c.args.disk.now) c.args.place.now (written (c.args.end + 1) (take c.assemble-count.result c.assemble-count.new.buffer)) _ c.write_at-staged.result c.write_at-staged.ensures.work c.write_at-staged.ensures.touches c.write_at-staged.ensures.time c.write_at-staged.ensures.cause.later

pub returns-in_err-preserved-clause-alone : goal.returns-in_err-preserved-clause-alone
returns-in_err-preserved-clause-alone g c =
    let d = g.D.Disk in
    alone_then
    (alone_call d.reads d.may_leave d.moment d.left_since d.faults c.args.disk.now c.write_at-staged.new.self (g.met.D.Disk.only_now c.args.disk.now) c.args.place.now (written (c.args.end + 1) (take c.assemble-count.result c.assemble-count.new.buffer)) _ c.write_at-staged.result c.write_at-staged.ensures.work c.write_at-staged.ensures.touches c.write_at-staged.ensures.time c.write_at-staged.ensures.cause.later)
    (alone_only (λ q. q ≢ c.args.place.now) (only_call d.reads d.may_leave d.moment d.left_since d.faults c.write_at-staged.new.self c.sync-preserved.new.self (g.met.D.Disk.only_now c.write_at-staged.new.self) c.sync-preserved.ensures.same c.sync-preserved.ensures.stop c.sync-preserved.ensures.time c.sync-preserved.ensures.cause.later))

pub returns-in_err-write_at-clause-alone : goal.returns-in_err-write_at-clause-alone
returns-in_err-write_at-clause-alone g c =
    let d = g.D.Disk in
    alone_then
    (alone_then
    (alone_call d.reads d.may_leave d.moment d.left_since d.faults c.args.disk.now c.write_at-staged.new.self (g.met.D.Disk.only_now c.args.disk.now) c.args.place.now (written (c.args.end + 1) (take c.assemble-count.result c.assemble-count.new.buffer)) _ c.write_at-staged.result c.write_at-staged.ensures.work c.write_at-staged.ensures.touches c.write_at-staged.ensures.time c.write_at-staged.ensures.cause.later)
    (alone_only (λ q. q ≢ c.args.place.now) (only_call d.reads d.may_leave d.moment d.left_since d.faults c.write_at-staged.new.self c.sync-preserved.new.self (g.met.D.Disk.only_now c.write_at-staged.new.self) c.sync-preserved.ensures.same c.sync-preserved.ensures.stop c.sync-preserved.ensures.time c.sync-preserved.ensures.cause.later)))
    (alone_call d.reads d.may_leave d.moment d.left_since d.faults c.sync-preserved.new.self c.write_at.new.self (g.met.D.Disk.only_now c.sync-preserved.new.self) c.args.place.now (written c.args.end (1 ∷ [])) _ c.write_at.result c.write_at.ensures.work c.write_at.ensures.touches c.write_at.ensures.time c.write_at.ensures.cause.later)

pub returns-in_err-sync-clause-alone : goal.returns-in_err-sync-clause-alone
returns-in_err-sync-clause-alone g c =
    let d = g.D.Disk in
    alone_then
    (alone_then
    (alone_then
    (alone_call d.reads d.may_leave d.moment d.left_since d.faults c.args.disk.now c.write_at-staged.new.self (g.met.D.Disk.only_now c.args.disk.now) c.args.place.now (written (c.args.end + 1) (take c.assemble-count.result c.assemble-count.new.buffer)) _ c.write_at-staged.result c.write_at-staged.ensures.work c.write_at-staged.ensures.touches c.write_at-staged.ensures.time c.write_at-staged.ensures.cause.later)
    (alone_only (λ q. q ≢ c.args.place.now) (only_call d.reads d.may_leave d.moment d.left_since d.faults c.write_at-staged.new.self c.sync-preserved.new.self (g.met.D.Disk.only_now c.write_at-staged.new.self) c.sync-preserved.ensures.same c.sync-preserved.ensures.stop c.sync-preserved.ensures.time c.sync-preserved.ensures.cause.later)))
    (alone_call d.reads d.may_leave d.moment d.left_since d.faults c.sync-preserved.new.self c.write_at.new.self (g.met.D.Disk.only_now c.sync-preserved.new.self) c.args.place.now (written c.args.end (1 ∷ [])) _ c.write_at.result c.write_at.ensures.work c.write_at.ensures.touches c.write_at.ensures.time c.write_at.ensures.cause.later))
    (alone_only (λ q. q ≢ c.args.place.now) (only_call d.reads d.may_leave d.moment d.left_since d.faults c.write_at.new.self c.sync.new.self (g.met.D.Disk.only_now c.write_at.new.self) c.sync.ensures.same c.sync.ensures.stop c.sync.ensures.time c.sync.ensures.cause.later))

pub returns-clause-alone : goal.returns-clause-alone
returns-clause-alone g c =
    let d = g.D.Disk in
    alone_then
    (alone_then
    (alone_then
    (alone_call d.reads d.may_leave d.moment d.left_since d.faults c.args.disk.now c.write_at-staged.new.self (g.met.D.Disk.only_now c.args.disk.now) c.args.place.now (written (c.args.end + 1) (take c.assemble-count.result c.assemble-count.new.buffer)) _ c.write_at-staged.result c.write_at-staged.ensures.work c.write_at-staged.ensures.touches c.write_at-staged.ensures.time c.write_at-staged.ensures.cause.later)
    (alone_only (λ q. q ≢ c.args.place.now) (only_call d.reads d.may_leave d.moment d.left_since d.faults c.write_at-staged.new.self c.sync-preserved.new.self (g.met.D.Disk.only_now c.write_at-staged.new.self) c.sync-preserved.ensures.same c.sync-preserved.ensures.stop c.sync-preserved.ensures.time c.sync-preserved.ensures.cause.later)))
    (alone_call d.reads d.may_leave d.moment d.left_since d.faults c.sync-preserved.new.self c.write_at.new.self (g.met.D.Disk.only_now c.sync-preserved.new.self) c.args.place.now (written c.args.end (1 ∷ [])) _ c.write_at.result c.write_at.ensures.work c.write_at.ensures.touches c.write_at.ensures.time c.write_at.ensures.cause.later))
    (alone_only (λ q. q ≢ c.args.place.now) (only_call d.reads d.may_leave d.moment d.left_since d.faults c.write_at.new.self c.sync.new.self (g.met.D.Disk.only_now c.write_at.new.self) c.sync.ensures.same c.sync.ensures.stop c.sync.ensures.time c.sync.ensures.cause.later))
