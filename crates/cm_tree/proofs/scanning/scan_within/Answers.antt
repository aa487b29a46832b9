use Rattle.std.proofs.Common.{List}
use Rattle.std.proofs.lemmas.Result.{IfOk-weaker, IfErr-weaker, on_ok_weaker, on_err_weaker}
use Rattle.cm_tree.specs.declared.entry.Entry.{Entry}
use Rattle.cm_tree.specs.Folders.{Shown}
use Rattle.cm_tree.specs.Scans.{Scans, HasFault}
use Rattle.cm_tree.proofs.Earlier.{scans_earlier, fault_earlier, read_earlier, may_earlier}
use Rattle.cm_tree.proofs.Walked.{room_has}
use Rattle.cm_tree.proofs.scanning.scan_within.Goals as goal

pub returns-in-Err-clause-fault : goal.returns-in-Err-clause-fault
returns-in-Err-clause-fault g c = room_has c.args.most_files c.args.most_bytes (g.F.Folder.shows c.args.folder.now) c.in-Err.fault c.in-Err.ensures.fault

pub returns-in_ok-piece-in-Ok-clause-manifest : goal.returns-in_ok-piece-in-Ok-clause-manifest
returns-in_ok-piece-in-Ok-clause-manifest g c =
    let first : Shown = g.F.Folder.shows c.args.folder.now in
    let mid : Shown = g.F.Folder.shows c.has_room.new.folder in
    IfOk-weaker c.scan_of_room.result (λ (es : List Entry). Scans c.args.most_files c.args.most_bytes mid es) (λ (es : List Entry). Scans c.args.most_files c.args.most_bytes first es)
    (scans_earlier first mid c.in-Ok.ensures.same c.args.most_files c.args.most_bytes) c.scan_of_room.ensures.manifest

pub returns-in_ok-piece-in-Ok-clause-fault : goal.returns-in_ok-piece-in-Ok-clause-fault
returns-in_ok-piece-in-Ok-clause-fault g c =
    let first : Shown = g.F.Folder.shows c.args.folder.now in
    let mid : Shown = g.F.Folder.shows c.has_room.new.folder in
    IfErr-weaker c.scan_of_room.result (HasFault c.args.most_files c.args.most_bytes mid) (HasFault c.args.most_files c.args.most_bytes first)
    (fault_earlier first mid c.in-Ok.ensures.same c.args.most_files c.args.most_bytes) c.scan_of_room.ensures.fault

pub returns-in_ok-piece-in-Ok-clause-read : goal.returns-in_ok-piece-in-Ok-clause-read
returns-in_ok-piece-in-Ok-clause-read g c =
    on_ok_weaker c.scan_of_room.result (read_earlier (g.F.Folder.shows c.args.folder.now) (g.F.Folder.shows c.has_room.new.folder) c.in-Ok.ensures.same (g.F.Folder.shows c.scan_of_room.new.folder)) c.scan_of_room.ensures.read

pub returns-in_ok-piece-in-Ok-clause-failed : goal.returns-in_ok-piece-in-Ok-clause-failed
returns-in_ok-piece-in-Ok-clause-failed g c =
    on_err_weaker c.scan_of_room.result (may_earlier (g.F.Folder.shows c.args.folder.now) (g.F.Folder.shows c.has_room.new.folder) c.in-Ok.ensures.same (g.F.Folder.shows c.scan_of_room.new.folder)) c.scan_of_room.ensures.failed
