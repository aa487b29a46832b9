use Rattle.std.proofs.Common.{◌-◌, ◌≤◌}
use Rattle.cm_intake.specs.Filling.{StaysRead}
use Rattle.cm_intake.proofs.Reread.{ReadSoFar}
use Rattle.cm_intake.proofs.rereading.put_again.Given as goal

abbrev pub invariant-loop-at : goal.invariant-loop-at
invariant-loop-at g l =
    let d = g.D.Disk in
    record {
      so_far : ReadSoFar d.reads d.may_leave d.moment d.left_since ((g.F.Folder.shows l.fn.folder).later l.n) l.job l.size l.fn.library l.library l.at;
      shown : StaysRead (g.F.Folder.shows l.fn.folder) (g.F.Folder.shows l.folder);
      folder_later : g.F.Folder.faults l.fn.folder ≤ g.F.Folder.faults l.folder;
      later : d.faults l.fn.library.disk ≤ d.faults l.library.disk;
    }

abbrev pub decreases-loop-at : goal.decreases-loop-at
decreases-loop-at g l = l.size - l.at
