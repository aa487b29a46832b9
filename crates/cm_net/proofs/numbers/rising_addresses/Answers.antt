use Rattle.std.proofs.lemmas.List.Filters.{dedup_is}
use Rattle.cm_net.proofs.Sorting.{rising_from_sort}
use Rattle.cm_net.proofs.numbers.rising_addresses.Goals as goal

pub returns-clause-those : goal.returns-clause-those
returns-clause-those c = rising_from_sort _ _ _ c.sort_unstable.ensures.permutation c.sort_unstable.ensures.sorted (dedup_is _ _ _ c.dedup.ensures.filtered)
