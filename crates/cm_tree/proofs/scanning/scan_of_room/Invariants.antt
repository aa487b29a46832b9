use Rattle.std.proofs.Common.{◌≤◌}
use Rattle.cm_tree.proofs.Scanned.{Scanned}
use Rattle.cm_tree.proofs.scanning.scan_of_room.Given as goal

abbrev pub invariant-loop-n : goal.invariant-loop-n
invariant-loop-n g l = record {
  scanned : Scanned l.most_bytes (g.F.Folder.shows l.fn.folder) (g.F.Folder.shows l.folder) l.entries.items l.taken l.n;
  later : g.F.Folder.faults l.fn.folder ≤ g.F.Folder.faults l.folder;
}
