use Rattle.std.proofs.Common.{◌≡◌, true, take}
use Rattle.cm_tree.specs.Paths.{is_rising}
use Rattle.cm_tree.specs.MemFolders.{kept_paths}
use Rattle.cm_tree.proofs.Kept.{AreOf}
use Rattle.cm_tree.proofs.mem_folder.MemFolder.new.Given as goal

abbrev pub invariant-loop-pair : goal.invariant-loop-pair
invariant-loop-pair l = record {
  rising : is_rising (kept_paths l.kept.items) ≡ true;
  are : AreOf (take l.pair-index l.pair-items) l.later.items l.kept.items;
}
