use Rattle.std.proofs.Common.{◌≤◌}
use Rattle.std.specs.Prelude.{not, is_some}
use Rattle.cm_pkglib.specs.Counts.{seal_at}
use Rattle.cm_tree.specs.declared.entry.Entry.{Entry}
use Rattle.cm_intake.specs.Filling.{StaysRead}
use Rattle.cm_intake.proofs.Fewer.{passing}
use Rattle.cm_intake.proofs.Filled.{FilledSoFar}
use Rattle.cm_intake.proofs.filling.fill.Given as goal

abbrev pub invariant-hashes : goal.invariant-hashes
invariant-hashes g l =
    let d = g.D.Disk in
    record {
      so_far : FilledSoFar d.reads d.may_leave d.moment d.left_since (g.F.Folder.shows l.fn.folder) l.entries l.job l.fn.library l.library l.after;
      shown : StaysRead (g.F.Folder.shows l.fn.folder) (g.F.Folder.shows l.folder);
      folder_later : g.F.Folder.faults l.fn.folder ≤ g.F.Folder.faults l.folder;
      later : d.faults l.fn.library.disk ≤ d.faults l.library.disk;
    }

abbrev pub decreases-hashes : goal.decreases-hashes
decreases-hashes g l = passing (λ (entry : Entry). not (is_some (seal_at l.library.seals entry.hash))) l.entries
