use Rattle.std.proofs.Common.{[], sym, ap, subst}
use Rattle.std.specs.Prelude.{Err}
use Rattle.cm_tree.specs.declared.scan_fault.ScanFault.{ScanFault}
use Rattle.cm_intake.specs.Intake.{TakesIn}
use Rattle.cm_intake.specs.declared.fault.IntakeFault.{IntakeFault}
use Rattle.cm_intake.proofs.Scanned.{unscanned, takes_scanned, rests_still}
use Rattle.cm_intake.proofs.taking.take_in.Goals as goal

pub returns-in-Err-clause-takes : goal.returns-in-Err-clause-takes
returns-in-Err-clause-takes g c =
    let d = g.D.Disk in
    let old = c.args.library.now in
    let shown = g.F.Folder.shows c.args.folder.now in
    let from = g.F.Folder.faults c.args.folder.now in
    let to = g.F.Folder.faults c.scan.new.folder in
    subst (λ (told : IntakeFault). TakesIn d.reads d.may_leave d.moment d.left_since c.args.«package» c.args.version shown from to old old (Err told)) (sym c.of_scan.ensures)
    (unscanned d.reads d.may_leave d.moment d.left_since c.args.«package» c.args.version shown from to old (rests_still d.reads d.may_leave d.moment d.left_since g.met.D.Disk.only_now [] old c.requires.settled c.tells.ensures.opens)
    c.in-Err.fault c.in-Err.ensures.fault (λ is. c.in-Err.ensures.cause (ap (λ (fault : ScanFault). Err fault) is)) (rests_still d.reads d.may_leave d.moment d.left_since g.met.D.Disk.only_now _ old c.requires.settled c.tells.ensures.opens))

pub returns-clause-takes : goal.returns-clause-takes
returns-clause-takes g c =
    let d = g.D.Disk in
    let scans = c.in-Ok.ensures.manifest in
    takes_scanned d.reads d.may_leave d.moment d.left_since c.args.«package» c.args.version (g.F.Folder.shows c.args.folder.now) (g.F.Folder.shows c.scan.new.folder) (g.F.Folder.faults c.args.folder.now) (g.F.Folder.faults c.scan.new.folder) (g.F.Folder.faults c.take_scanned.new.folder)
    c.in-Ok.manifest c.args.library.now c.take_scanned.new.library c.take_scanned.result scans c.in-Ok.ensures.read c.scan.ensures.later (c.take_scanned.ensures.takes scans.tree scans.entries_are)
