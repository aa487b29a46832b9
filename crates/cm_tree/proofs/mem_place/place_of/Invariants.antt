use Rattle.std.proofs.Common.{◌≡◌, ℕ, ◌≤◌, List, length, Some, false}
use Rattle.std.specs.List.{slice_get}
use Rattle.cm_tree.specs.Paths.{is_before}
use Rattle.cm_tree.specs.MemFolders.{kept_paths}
use Rattle.cm_tree.proofs.mem_place.place_of.Given as goal

abbrev pub invariant-loop-at : goal.invariant-loop-at
invariant-loop-at l = record {
  within : l.at ≤ length l.files;
  next : (other : List ℕ) → slice_get (kept_paths l.files) l.at ≡ Some other → is_before other l.path ≡ false;
}

abbrev pub decreases-loop-at : goal.decreases-loop-at
decreases-loop-at l = l.at
