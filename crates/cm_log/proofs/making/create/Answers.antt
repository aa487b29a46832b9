use Rattle.std.proofs.Common.{Bool, Result, Ok, sym, ◌∙◌, ap}
use Rattle.cm_disk.specs.declared.disk.DiskFault.{DiskFault}
use Rattle.cm_log.specs.Shelves.{IsElsewhere, ready_place}
use Rattle.cm_log.proofs.Frames.{alone_only, alone_then}
use Rattle.cm_log.proofs.Made.{making_quiet, making_then, failed_quiet, failed_then, none_sure}
use Rattle.cm_log.proofs.Present.{gone_same, gone_then}
use Rattle.cm_log.proofs.making.create.Goals as goal

pub returns-in_err-is_made-clause-any_moment : goal.returns-in_err-is_made-clause-any_moment
returns-in_err-is_made-clause-any_moment g c x told =
    let d = g.D.Disk in
    making_quiet d.may_leave d.moment d.left_since c.args.shelf x c.args.disk.now c.is_made.new.disk c.is_made.ensures.only.run

pub returns-then-branch-clause-any_moment : goal.returns-then-branch-clause-any_moment
returns-then-branch-clause-any_moment g c x told =
    let d = g.D.Disk in
    making_quiet d.may_leave d.moment d.left_since c.args.shelf x c.args.disk.now c.is_made.new.disk c.is_made.ensures.only.run

pub returns-in_err-make-clause-any_moment : goal.returns-in_err-make-clause-any_moment
returns-in_err-make-clause-any_moment g c x told =
    let d = g.D.Disk in
    making_then d.may_leave d.moment d.left_since c.args.shelf x c.args.disk.now c.is_made.new.disk c.make.new.disk c.is_made.ensures.only.run c.is_made.ensures.only.stop (c.make.ensures.any_moment x (c.is_made.ensures.only.same ∙ told))

pub returns-clause-any_moment : goal.returns-clause-any_moment
returns-clause-any_moment g c x told =
    let d = g.D.Disk in
    making_then d.may_leave d.moment d.left_since c.args.shelf x c.args.disk.now c.is_made.new.disk c.make.new.disk c.is_made.ensures.only.run c.is_made.ensures.only.stop (c.make.ensures.any_moment x (c.is_made.ensures.only.same ∙ told))

pub returns-in_err-is_made-clause-alone : goal.returns-in_err-is_made-clause-alone
returns-in_err-is_made-clause-alone g c = alone_only (IsElsewhere c.args.shelf) c.is_made.ensures.only

pub returns-then-branch-clause-alone : goal.returns-then-branch-clause-alone
returns-then-branch-clause-alone g c = alone_only (IsElsewhere c.args.shelf) c.is_made.ensures.only

pub returns-in_err-make-clause-alone : goal.returns-in_err-make-clause-alone
returns-in_err-make-clause-alone g c = alone_then (alone_only (IsElsewhere c.args.shelf) c.is_made.ensures.only) c.make.ensures.alone

pub returns-clause-alone : goal.returns-clause-alone
returns-clause-alone g c = alone_then (alone_only (IsElsewhere c.args.shelf) c.is_made.ensures.only) c.make.ensures.alone

pub returns-then-branch-clause-rests : goal.returns-then-branch-clause-rests
returns-then-branch-clause-rests g c other x told =
    c.in_ok-is_made.ensures.rests (ap (λ (b : Bool). let r : Result Bool DiskFault = Ok b in r) c.if-branch.true) x told

pub make-requires : goal.make-requires
make-requires g c = record {
  blank = λ x told.
      none_sure (x (ready_place c.args.shelf)) c.in_ok-is_made.field-0 (g.D.Disk.may_leave c.is_made.new.disk (ready_place c.args.shelf)) c.if-branch.false (c.in_ok-is_made.ensures.value x (sym c.is_made.ensures.only.same ∙ told)) (c.in_ok-is_made.ensures.sure x told);
}

pub returns-clause-made : goal.returns-clause-made
returns-clause-made g c x told = c.in_ok-make.ensures.made x (c.is_made.ensures.only.same ∙ told)

pub returns-clause-rests : goal.returns-clause-rests
returns-clause-rests g c other x told = c.in_ok-make.ensures.rests x told

pub returns-in_err-is_made-clause-none_gone : goal.returns-in_err-is_made-clause-none_gone
returns-in_err-is_made-clause-none_gone g c =
    let d = g.D.Disk in
    gone_same (d.reads c.args.disk.now) (d.reads c.is_made.new.disk) c.is_made.ensures.only.same

pub returns-then-branch-clause-none_gone : goal.returns-then-branch-clause-none_gone
returns-then-branch-clause-none_gone g c =
    let d = g.D.Disk in
    gone_same (d.reads c.args.disk.now) (d.reads c.is_made.new.disk) c.is_made.ensures.only.same

pub returns-in_err-make-clause-none_gone : goal.returns-in_err-make-clause-none_gone
returns-in_err-make-clause-none_gone g c =
    let d = g.D.Disk in
    gone_then (d.reads c.args.disk.now) (d.reads c.is_made.new.disk) (d.reads c.make.new.disk)
    (gone_same (d.reads c.args.disk.now) (d.reads c.is_made.new.disk) c.is_made.ensures.only.same)
    c.make.ensures.none_gone

pub returns-clause-none_gone : goal.returns-clause-none_gone
returns-clause-none_gone g c =
    let d = g.D.Disk in
    gone_then (d.reads c.args.disk.now) (d.reads c.is_made.new.disk) (d.reads c.make.new.disk)
    (gone_same (d.reads c.args.disk.now) (d.reads c.is_made.new.disk) c.is_made.ensures.only.same)
    c.make.ensures.none_gone

pub returns-in_err-is_made-clause-failed : goal.returns-in_err-is_made-clause-failed
returns-in_err-is_made-clause-failed g c fault =
    let d = g.D.Disk in
    failed_quiet c.args.shelf (d.reads c.args.disk.now) (d.reads c.is_made.new.disk) c.is_made.ensures.only.same

pub returns-in_err-make-clause-failed : goal.returns-in_err-make-clause-failed
returns-in_err-make-clause-failed g c fault =
    let d = g.D.Disk in
    failed_then c.args.shelf (d.reads c.args.disk.now) (d.reads c.is_made.new.disk) (d.reads c.make.new.disk) c.is_made.ensures.only.same c.in_err-make.ensures.failed
