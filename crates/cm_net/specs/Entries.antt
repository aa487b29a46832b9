-- Entries in the order of their keys, and how many steps a search among them takes.
use Rattle.std.specs.Prelude.{ℕ, ◌+◌, ◌-◌, ◌*◌, ◌^◌, ◌≤◌, Bool, List, [], map, fold, if◌then◌else◌}
use Rattle.cm_net.specs.declared.entry.Entry.{Entry}

abbrev pub keys_in : {K : Type 0} → List (Entry K) → List K
keys_in entries = map (λ entry. entry.key) entries

-- the groups of the last entry whose key passes the test, and none where no key does
abbrev pub last_groups : {K : Type 0} → (K → Bool) → List (Entry K) → List ℕ
last_groups test entries = fold (λ found entry. if test entry.key then entry.groups.items else found) [] entries

-- a search among so many entries by halves: at most the greatest number of steps whose power of two is at most 2 n + 1
pub record TakesHalves (n before after : ℕ) : Type 0 where
  pub later : before ≤ after
  pub few : 2 ^ (after - before) ≤ 2 * n + 1
