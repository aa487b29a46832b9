-- Paths that were taken already, folded, in an ordered set.
use Rattle.std.specs.Prelude.{◌≡◌, ℕ, List, map}
use Rattle.std.specs.BTreeSet.{contains}
use Rattle.std.specs.Ordering.{nat_cmp}
use Rattle.std.specs.Cmp.Lexicographic.{slice_cmp}
use Rattle.cm_tree.specs.declared.taken.Taken.{Taken}
use Rattle.cm_tree.specs.Paths.{folded_path, has_path}

-- the set has the folded forms of these paths and no others
pub record HasTaken (taken : Taken) (paths : List (List ℕ)) : Type 0 where
  pub same : (path : List ℕ) → contains (slice_cmp nat_cmp) taken.folded path ≡ has_path (map folded_path paths) path
