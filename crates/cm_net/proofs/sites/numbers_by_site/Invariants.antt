use Rattle.std.proofs.Common.{◌≡◌, ◌≤◌, ℕ, List, take}
use Rattle.std.specs.BTreeMap.{btree_map_len, get}
use Rattle.std.specs.Cmp.Lexicographic.{slice_cmp}
use Rattle.std.specs.Ordering.{nat_cmp}
use Rattle.cm_net.specs.Sites.{numbers_for, numbers_there}
use Rattle.cm_net.proofs.sites.numbers_by_site.Given as goal

abbrev pub invariant-loop-name : goal.invariant-loop-name
invariant-loop-name l =
    ((site : List ℕ) → numbers_there (get (slice_cmp nat_cmp) l.sites site) ≡ numbers_for (take l.name-index l.entries) site)
    × (btree_map_len l.sites ≤ l.name-index)
