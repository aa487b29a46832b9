use Rattle.std.proofs.Common.{◌≡◌, [], sym, ◌∙◌, subst}
use Rattle.std.specs.Prelude.{Some}
use Rattle.std.proofs.lemmas.Option.{same_Some}
use Rattle.cm_disk.specs.Disk.{Files, put}
use Rattle.cm_disk.proofs.Puts.{told_before}
use Rattle.cm_log.specs.Shelves.{IsElsewhere}
use Rattle.cm_log.specs.Settled.{Rests}
use Rattle.cm_log.proofs.Frames.{alone_fewer, alone_then}
use Rattle.cm_log.proofs.Made.{makes, rests_made, making_logs, making_ready, after_err, failed_logs, failed_ready}
use Rattle.cm_log.proofs.Present.{gone_then}
use Rattle.cm_log.proofs.making.make.Goals as goal

pub returns-in_err-make_logs-clause-alone : goal.returns-in_err-make_logs-clause-alone
returns-in_err-make_logs-clause-alone g c = alone_fewer (IsElsewhere c.args.shelf) (λ q e. e.logs) c.make_logs.ensures.alone

pub returns-in_err-write_file-clause-alone : goal.returns-in_err-write_file-clause-alone
returns-in_err-write_file-clause-alone g c =
    alone_then (alone_fewer (IsElsewhere c.args.shelf) (λ q e. e.logs) c.make_logs.ensures.alone)
    (alone_fewer (IsElsewhere c.args.shelf) (λ q e is. e.ready (is ∙ c.ready_at.ensures)) c.write_file.ensures.alone)

pub returns-clause-alone : goal.returns-clause-alone
returns-clause-alone g c =
    alone_then (alone_fewer (IsElsewhere c.args.shelf) (λ q e. e.logs) c.make_logs.ensures.alone)
    (alone_fewer (IsElsewhere c.args.shelf) (λ q e is. e.ready (is ∙ c.ready_at.ensures)) c.write_file.ensures.alone)

pub returns-in_err-make_logs-clause-any_moment : goal.returns-in_err-make_logs-clause-any_moment
returns-in_err-make_logs-clause-any_moment g c x told =
    let d = g.D.Disk in
    let blank = c.requires.blank x told in
    making_logs d.may_leave d.moment d.left_since c.args.shelf x c.args.disk.now blank.0 blank.1 c.make_logs.new.disk c.make_logs.ensures.alone.run

pub returns-in_err-write_file-clause-any_moment : goal.returns-in_err-write_file-clause-any_moment
returns-in_err-write_file-clause-any_moment g c x told =
    let d = g.D.Disk in
    let blank = c.requires.blank x told in
    let logs = c.in_ok-make_logs.ensures.made x told in
    making_ready d.may_leave d.moment d.left_since c.args.shelf x c.args.disk.now blank.0 blank.1 c.make_logs.new.disk c.write_file.new.disk logs.0 c.ready_at.result c.ready_at.ensures
    logs.2 c.make_logs.ensures.alone.run c.make_logs.ensures.alone.others c.write_file.ensures.alone.run

pub returns-clause-any_moment : goal.returns-clause-any_moment
returns-clause-any_moment g c x told =
    let d = g.D.Disk in
    let blank = c.requires.blank x told in
    let logs = c.in_ok-make_logs.ensures.made x told in
    making_ready d.may_leave d.moment d.left_since c.args.shelf x c.args.disk.now blank.0 blank.1 c.make_logs.new.disk c.write_file.new.disk logs.0 c.ready_at.result c.ready_at.ensures
    logs.2 c.make_logs.ensures.alone.run c.make_logs.ensures.alone.others c.write_file.ensures.alone.run

pub returns-clause-made : goal.returns-clause-made
returns-clause-made g c x told =
    let logs = c.in_ok-make_logs.ensures.made x told in
    (put logs.0 c.ready_at.result (Some []), c.in_ok-write_file.ensures.made logs.0 logs.1, makes c.args.shelf x logs.0 (g.D.Disk.may_leave c.make_logs.new.disk) c.ready_at.result c.ready_at.ensures (c.requires.blank x told).0 logs.2)

pub returns-clause-rests : goal.returns-clause-rests
returns-clause-rests g c x told =
    let d = g.D.Disk in
    let mid = told_before (d.reads c.make_logs.new.disk) (d.reads c.write_file.new.disk) c.write_file.ensures.alone.silent x told in
    let start = told_before (d.reads c.args.disk.now) (d.reads c.make_logs.new.disk) c.make_logs.ensures.alone.silent mid.0 mid.1 in
    let logs = c.in_ok-make_logs.ensures.made start.0 start.1 in
    let is : put logs.0 c.ready_at.result (Some []) ≡ x = same_Some _ x (sym (c.in_ok-write_file.ensures.made logs.0 logs.1) ∙ told) in
    subst (λ (files : Files). Rests c.args.shelf files (d.may_leave c.write_file.new.disk)) is
    (rests_made c.args.shelf start.0 logs.0 (d.may_leave c.make_logs.new.disk) (d.may_leave c.write_file.new.disk) c.ready_at.result c.ready_at.ensures logs.2 (c.in_ok-write_file.ensures.durable logs.0 logs.1) c.write_file.ensures.alone.others)

pub returns-in_err-write_file-clause-none_gone : goal.returns-in_err-write_file-clause-none_gone
returns-in_err-write_file-clause-none_gone g c =
    let d = g.D.Disk in
    gone_then (d.reads c.args.disk.now) (d.reads c.make_logs.new.disk) (d.reads c.write_file.new.disk) c.make_logs.ensures.none_gone c.write_file.ensures.none_gone

pub returns-clause-none_gone : goal.returns-clause-none_gone
returns-clause-none_gone g c =
    let d = g.D.Disk in
    gone_then (d.reads c.args.disk.now) (d.reads c.make_logs.new.disk) (d.reads c.write_file.new.disk) c.make_logs.ensures.none_gone c.write_file.ensures.none_gone

pub returns-in_err-make_logs-clause-failed : goal.returns-in_err-make_logs-clause-failed
returns-in_err-make_logs-clause-failed g c =
    let d = g.D.Disk in
    after_err c.from_residual.result
    (failed_logs c.args.shelf (d.reads c.args.disk.now) (d.reads c.make_logs.new.disk) (λ files told. (c.requires.blank files told).0) c.make_logs.ensures.alone.kept)

pub returns-in_err-write_file-clause-failed : goal.returns-in_err-write_file-clause-failed
returns-in_err-write_file-clause-failed g c =
    let d = g.D.Disk in
    after_err c.from_residual-in_err-write_file.result
    (failed_ready c.args.shelf (d.reads c.args.disk.now) (d.reads c.make_logs.new.disk) (d.reads c.write_file.new.disk) (d.may_leave c.make_logs.new.disk) c.ready_at.result c.ready_at.ensures
    (λ files told. (c.requires.blank files told).0) c.in_ok-make_logs.ensures.made c.write_file.ensures.alone.kept)
