use Rattle.std.proofs.Common.{length, sym, ◌∙◌}
use Rattle.std.specs.Prelude.{◌≢◌, Some}
use Rattle.std.proofs.lemmas.Option.{same_Some}
use Rattle.cm_disk.specs.Disk.{File, put, written, shortened}
use Rattle.cm_disk.proofs.Puts.{told_before, put_here}
use Rattle.cm_log.proofs.Frames.{only_call, alone_call, alone_only, alone_then}
use Rattle.cm_log.proofs.Written.{may_cut, cut_file}
use Rattle.cm_textlib.proofs.Whole.{does_part, write_failed, cut_failed, cut_done, sync_failed}
use Rattle.cm_textlib.proofs.storing.write_whole.Goals as goal

pub cut-requires : goal.cut-requires
cut-requires g c x told =
    let d = g.D.Disk in
    let before = told_before (d.reads c.args.disk.now) (d.reads c.write_at.new.self) c.write_at.ensures.work.silent x told in
    may_cut before.0 x c.args.place.now c.args.text.now (same_Some _ x (sym (c.in_ok-write_at.ensures.work.ok before.0 before.1) ∙ told))

pub returns-in_err-write_at-clause-work : goal.returns-in_err-write_at-clause-work
returns-in_err-write_at-clause-work g c =
    let d = g.D.Disk in
    does_part (d.reads c.args.disk.now) (d.reads c.write_at.new.self) c.args.place.now (λ (f : File). Some c.args.text.now) c.from_residual.result c.from_residual.ensures.0
    (write_failed (d.reads c.args.disk.now) c.args.place.now c.args.text.now (d.reads c.write_at.new.self) c.in_err-write_at.ensures.work.err)
    c.write_at.ensures.work.silent

pub returns-in_err-cut-clause-work : goal.returns-in_err-cut-clause-work
returns-in_err-cut-clause-work g c =
    let d = g.D.Disk in
    does_part (d.reads c.args.disk.now) (d.reads c.cut.new.self) c.args.place.now (λ (f : File). Some c.args.text.now) c.from_residual-in_err-cut.result c.from_residual-in_err-cut.ensures.0
    (cut_failed (d.reads c.args.disk.now) c.args.place.now c.args.text.now (d.reads c.write_at.new.self) (d.reads c.cut.new.self) c.in_ok-write_at.ensures.work.ok c.in_err-cut.ensures.work.err)
    (λ none. c.cut.ensures.work.silent (c.write_at.ensures.work.silent none))

pub returns-in_err-sync-clause-work : goal.returns-in_err-sync-clause-work
returns-in_err-sync-clause-work g c =
    let d = g.D.Disk in
    does_part (d.reads c.args.disk.now) (d.reads c.sync.new.self) c.args.place.now (λ (f : File). Some c.args.text.now) c.from_residual-in_err-sync.result c.from_residual-in_err-sync.ensures.0
    (sync_failed (d.reads c.args.disk.now) c.args.place.now c.args.text.now (d.reads c.cut.new.self) (d.reads c.sync.new.self)
    (cut_done (d.reads c.args.disk.now) c.args.place.now c.args.text.now (d.reads c.write_at.new.self) (d.reads c.cut.new.self) c.in_ok-write_at.ensures.work.ok c.in_ok-cut.ensures.work.ok)
    c.sync.ensures.same)
    (λ none. c.sync.ensures.same ∙ c.cut.ensures.work.silent (c.write_at.ensures.work.silent none))

pub returns-clause-work : goal.returns-clause-work
returns-clause-work g c =
    let d = g.D.Disk in
    record {
      ok = λ files told. c.sync.ensures.same ∙ cut_done (d.reads c.args.disk.now) c.args.place.now c.args.text.now (d.reads c.write_at.new.self) (d.reads c.cut.new.self) c.in_ok-write_at.ensures.work.ok c.in_ok-cut.ensures.work.ok files told;
      err = tt;
      silent = λ none. c.sync.ensures.same ∙ c.cut.ensures.work.silent (c.write_at.ensures.work.silent none);
    }

pub returns-clause-durable : goal.returns-clause-durable
returns-clause-durable g c x told left l =
    let files = put x c.args.place.now (written 0 c.args.text.now (x c.args.place.now)) in
    c.in_ok-sync.ensures.durable _ (c.in_ok-cut.ensures.work.ok files (c.in_ok-write_at.ensures.work.ok x told)) left l
    ∙ put_here files c.args.place.now _
    ∙ cut_file x c.args.place.now c.args.text.now

pub returns-in_err-write_at-clause-alone : goal.returns-in_err-write_at-clause-alone
returns-in_err-write_at-clause-alone g c =
    let d = g.D.Disk in
    alone_call d.reads d.may_leave d.moment d.left_since d.faults c.args.disk.now c.write_at.new.self (g.met.D.Disk.only_now c.args.disk.now) c.args.place.now (written 0 c.args.text.now) _ c.write_at.result c.write_at.ensures.work c.write_at.ensures.touches c.write_at.ensures.time c.write_at.ensures.cause.later

pub returns-in_err-cut-clause-alone : goal.returns-in_err-cut-clause-alone
returns-in_err-cut-clause-alone g c =
    let d = g.D.Disk in
    alone_then
    (alone_call d.reads d.may_leave d.moment d.left_since d.faults c.args.disk.now c.write_at.new.self (g.met.D.Disk.only_now c.args.disk.now) c.args.place.now (written 0 c.args.text.now) _ c.write_at.result c.write_at.ensures.work c.write_at.ensures.touches c.write_at.ensures.time c.write_at.ensures.cause.later)
    (alone_call d.reads d.may_leave d.moment d.left_since d.faults c.write_at.new.self c.cut.new.self (g.met.D.Disk.only_now c.write_at.new.self) c.args.place.now (shortened (length c.args.text.now)) _ c.cut.result c.cut.ensures.work c.cut.ensures.touches c.cut.ensures.time c.cut.ensures.cause.later)

pub returns-in_err-sync-clause-alone : goal.returns-in_err-sync-clause-alone
returns-in_err-sync-clause-alone g c =
    let d = g.D.Disk in
    alone_then
    (alone_then
    (alone_call d.reads d.may_leave d.moment d.left_since d.faults c.args.disk.now c.write_at.new.self (g.met.D.Disk.only_now c.args.disk.now) c.args.place.now (written 0 c.args.text.now) _ c.write_at.result c.write_at.ensures.work c.write_at.ensures.touches c.write_at.ensures.time c.write_at.ensures.cause.later)
    (alone_call d.reads d.may_leave d.moment d.left_since d.faults c.write_at.new.self c.cut.new.self (g.met.D.Disk.only_now c.write_at.new.self) c.args.place.now (shortened (length c.args.text.now)) _ c.cut.result c.cut.ensures.work c.cut.ensures.touches c.cut.ensures.time c.cut.ensures.cause.later))
    (alone_only (λ q. q ≢ c.args.place.now)
    (only_call d.reads d.may_leave d.moment d.left_since d.faults c.cut.new.self c.sync.new.self (g.met.D.Disk.only_now c.cut.new.self) c.sync.ensures.same c.sync.ensures.stop c.sync.ensures.time c.sync.ensures.cause.later))

pub returns-clause-alone : goal.returns-clause-alone
returns-clause-alone g c =
    let d = g.D.Disk in
    alone_then
    (alone_then
    (alone_call d.reads d.may_leave d.moment d.left_since d.faults c.args.disk.now c.write_at.new.self (g.met.D.Disk.only_now c.args.disk.now) c.args.place.now (written 0 c.args.text.now) _ c.write_at.result c.write_at.ensures.work c.write_at.ensures.touches c.write_at.ensures.time c.write_at.ensures.cause.later)
    (alone_call d.reads d.may_leave d.moment d.left_since d.faults c.write_at.new.self c.cut.new.self (g.met.D.Disk.only_now c.write_at.new.self) c.args.place.now (shortened (length c.args.text.now)) _ c.cut.result c.cut.ensures.work c.cut.ensures.touches c.cut.ensures.time c.cut.ensures.cause.later))
    (alone_only (λ q. q ≢ c.args.place.now)
    (only_call d.reads d.may_leave d.moment d.left_since d.faults c.cut.new.self c.sync.new.self (g.met.D.Disk.only_now c.cut.new.self) c.sync.ensures.same c.sync.ensures.stop c.sync.ensures.time c.sync.ensures.cause.later))
