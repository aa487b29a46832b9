use Rattle.std.proofs.Common.{length, sym, ◌∙◌, ap, refl}
use Rattle.std.specs.Prelude.{◌≢◌, Some}
use Rattle.std.proofs.lemmas.Option.{same_Some}
use Rattle.cm_disk.specs.Disk.{File, Files, put, written, shortened}
use Rattle.cm_disk.proofs.Puts.{told_before, put_here, put_put}
use Rattle.cm_log.proofs.Written.{may_cut, cut_file}
use Rattle.cm_log.proofs.Frames.{only_call, alone_call, alone_only, alone_then}
use Rattle.cm_log.proofs.Present.{gone_call, gone_same, gone_then}
use Rattle.cm_log.proofs.whole.write_file.Goals as goal

pub cut-requires : goal.cut-requires
cut-requires g c x told =
    let d = g.D.Disk in
    let before = told_before (d.reads c.args.disk.now) (d.reads c.write_at.new.self) c.write_at.ensures.work.silent x told in
    may_cut before.0 x c.args.place.now c.args.bytes.now (same_Some _ x (sym (c.in_ok-write_at.ensures.work.ok before.0 before.1) ∙ told))

pub returns-clause-made : goal.returns-clause-made
returns-clause-made g c x told =
    let files = put x c.args.place.now (written 0 c.args.bytes.now (x c.args.place.now)) in
    c.sync.ensures.same ∙ c.in_ok-cut.ensures.work.ok files (c.in_ok-write_at.ensures.work.ok x told)
    ∙ ap (λ (f : File). Some (put files c.args.place.now f)) (cut_file x c.args.place.now c.args.bytes.now)
    ∙ ap (λ (f : Files). Some f) (put_put x c.args.place.now (written 0 c.args.bytes.now (x c.args.place.now)) (Some c.args.bytes.now))

pub returns-clause-durable : goal.returns-clause-durable
returns-clause-durable g c x told left l =
    let files = put x c.args.place.now (written 0 c.args.bytes.now (x c.args.place.now)) in
    c.in_ok-sync.ensures.durable _ (c.in_ok-cut.ensures.work.ok files (c.in_ok-write_at.ensures.work.ok x told)) left l
    ∙ put_here files c.args.place.now _
    ∙ cut_file x c.args.place.now c.args.bytes.now

pub returns-in_err-write_at-clause-alone : goal.returns-in_err-write_at-clause-alone
returns-in_err-write_at-clause-alone g c =
    let d = g.D.Disk in
    alone_call d.reads d.may_leave d.moment d.left_since d.faults c.args.disk.now c.write_at.new.self (g.met.D.Disk.only_now c.args.disk.now) c.args.place.now (written 0 c.args.bytes.now) _ c.write_at.result c.write_at.ensures.work c.write_at.ensures.touches c.write_at.ensures.time c.write_at.ensures.cause.later

pub returns-in_err-cut-clause-alone : goal.returns-in_err-cut-clause-alone
returns-in_err-cut-clause-alone g c =
    let d = g.D.Disk in
    alone_then
    (alone_call d.reads d.may_leave d.moment d.left_since d.faults c.args.disk.now c.write_at.new.self (g.met.D.Disk.only_now c.args.disk.now) c.args.place.now (written 0 c.args.bytes.now) _ c.write_at.result c.write_at.ensures.work c.write_at.ensures.touches c.write_at.ensures.time c.write_at.ensures.cause.later)
    (alone_call d.reads d.may_leave d.moment d.left_since d.faults c.write_at.new.self c.cut.new.self (g.met.D.Disk.only_now c.write_at.new.self) c.args.place.now (shortened (length c.args.bytes.now)) _ c.cut.result c.cut.ensures.work c.cut.ensures.touches c.cut.ensures.time c.cut.ensures.cause.later)

pub returns-in_err-sync-clause-alone : goal.returns-in_err-sync-clause-alone
returns-in_err-sync-clause-alone g c =
    let d = g.D.Disk in
    alone_then
    (alone_then
    (alone_call d.reads d.may_leave d.moment d.left_since d.faults c.args.disk.now c.write_at.new.self (g.met.D.Disk.only_now c.args.disk.now) c.args.place.now (written 0 c.args.bytes.now) _ c.write_at.result c.write_at.ensures.work c.write_at.ensures.touches c.write_at.ensures.time c.write_at.ensures.cause.later)
    (alone_call d.reads d.may_leave d.moment d.left_since d.faults c.write_at.new.self c.cut.new.self (g.met.D.Disk.only_now c.write_at.new.self) c.args.place.now (shortened (length c.args.bytes.now)) _ c.cut.result c.cut.ensures.work c.cut.ensures.touches c.cut.ensures.time c.cut.ensures.cause.later))
    (alone_only (λ q. q ≢ c.args.place.now)
    (only_call d.reads d.may_leave d.moment d.left_since d.faults c.cut.new.self c.sync.new.self (g.met.D.Disk.only_now c.cut.new.self) c.sync.ensures.same c.sync.ensures.stop c.sync.ensures.time c.sync.ensures.cause.later))

pub returns-clause-alone : goal.returns-clause-alone
returns-clause-alone g c =
    let d = g.D.Disk in
    alone_then
    (alone_then
    (alone_call d.reads d.may_leave d.moment d.left_since d.faults c.args.disk.now c.write_at.new.self (g.met.D.Disk.only_now c.args.disk.now) c.args.place.now (written 0 c.args.bytes.now) _ c.write_at.result c.write_at.ensures.work c.write_at.ensures.touches c.write_at.ensures.time c.write_at.ensures.cause.later)
    (alone_call d.reads d.may_leave d.moment d.left_since d.faults c.write_at.new.self c.cut.new.self (g.met.D.Disk.only_now c.write_at.new.self) c.args.place.now (shortened (length c.args.bytes.now)) _ c.cut.result c.cut.ensures.work c.cut.ensures.touches c.cut.ensures.time c.cut.ensures.cause.later))
    (alone_only (λ q. q ≢ c.args.place.now)
    (only_call d.reads d.may_leave d.moment d.left_since d.faults c.cut.new.self c.sync.new.self (g.met.D.Disk.only_now c.cut.new.self) c.sync.ensures.same c.sync.ensures.stop c.sync.ensures.time c.sync.ensures.cause.later))

pub returns-in_err-write_at-clause-none_gone : goal.returns-in_err-write_at-clause-none_gone
returns-in_err-write_at-clause-none_gone g c =
    let d = g.D.Disk in
    gone_call (d.reads c.args.disk.now) (d.reads c.write_at.new.self) c.args.place.now (written 0 c.args.bytes.now) c.write_at.result (λ file. refl) c.write_at.ensures.work

pub returns-in_err-cut-clause-none_gone : goal.returns-in_err-cut-clause-none_gone
returns-in_err-cut-clause-none_gone g c =
    let d = g.D.Disk in
    gone_then (d.reads c.args.disk.now) (d.reads c.write_at.new.self) (d.reads c.cut.new.self)
    (gone_call (d.reads c.args.disk.now) (d.reads c.write_at.new.self) c.args.place.now (written 0 c.args.bytes.now) c.write_at.result (λ file. refl) c.write_at.ensures.work)
    (gone_call (d.reads c.write_at.new.self) (d.reads c.cut.new.self) c.args.place.now (shortened (length c.args.bytes.now)) c.cut.result (λ file. refl) c.cut.ensures.work)

pub returns-in_err-sync-clause-none_gone : goal.returns-in_err-sync-clause-none_gone
returns-in_err-sync-clause-none_gone g c =
    let d = g.D.Disk in
    gone_then (d.reads c.args.disk.now) (d.reads c.cut.new.self) (d.reads c.sync.new.self)
    (gone_then (d.reads c.args.disk.now) (d.reads c.write_at.new.self) (d.reads c.cut.new.self)
    (gone_call (d.reads c.args.disk.now) (d.reads c.write_at.new.self) c.args.place.now (written 0 c.args.bytes.now) c.write_at.result (λ file. refl) c.write_at.ensures.work)
    (gone_call (d.reads c.write_at.new.self) (d.reads c.cut.new.self) c.args.place.now (shortened (length c.args.bytes.now)) c.cut.result (λ file. refl) c.cut.ensures.work))
    (gone_same (d.reads c.cut.new.self) (d.reads c.sync.new.self) c.sync.ensures.same)

pub returns-clause-none_gone : goal.returns-clause-none_gone
returns-clause-none_gone g c =
    let d = g.D.Disk in
    gone_then (d.reads c.args.disk.now) (d.reads c.cut.new.self) (d.reads c.sync.new.self)
    (gone_then (d.reads c.args.disk.now) (d.reads c.write_at.new.self) (d.reads c.cut.new.self)
    (gone_call (d.reads c.args.disk.now) (d.reads c.write_at.new.self) c.args.place.now (written 0 c.args.bytes.now) c.write_at.result (λ file. refl) c.write_at.ensures.work)
    (gone_call (d.reads c.write_at.new.self) (d.reads c.cut.new.self) c.args.place.now (shortened (length c.args.bytes.now)) c.cut.result (λ file. refl) c.cut.ensures.work))
    (gone_same (d.reads c.cut.new.self) (d.reads c.sync.new.self) c.sync.ensures.same)
