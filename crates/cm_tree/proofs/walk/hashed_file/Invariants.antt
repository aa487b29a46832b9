use Rattle.std.proofs.Common.{◌≡◌, ◌+◌, ◌-◌, ◌≤◌}
use Rattle.cm_base.specs.Fed.{count_of}
use Rattle.cm_tree.specs.Folders.{Stays}
use Rattle.cm_tree.proofs.Parts.{IsFed}
use Rattle.cm_tree.proofs.walk.hashed_file.Given as goal

abbrev pub invariant-pieces : goal.invariant-pieces
invariant-pieces g l = record {
  stays : Stays (g.F.Folder.shows l.fn.folder) (g.F.Folder.shows l.folder);
  fed : IsFed ((g.F.Folder.shows l.fn.folder).now l.n) l.hasher l.at;
  count : count_of l.hasher ≡ l.at;
  few : l.at ≤ l.most_bytes;
  later : g.F.Folder.faults l.fn.folder ≤ g.F.Folder.faults l.folder;
}

abbrev pub decreases-pieces : goal.decreases-pieces
decreases-pieces g l = l.most_bytes + 1 - l.at
