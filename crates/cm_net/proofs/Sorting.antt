-- Numbers that were sorted, with repeats dropped.
use Rattle.std.proofs.Common.{◌≡◌, ℕ, List}
use Rattle.std.specs.List.{dedup}
use Rattle.std.specs.List.Sorted.{IsPermutation, IsSorted}
use Rattle.std.specs.Ordering.{nat_cmp}
use Rattle.std.specs.Prelude.{nat_eq}
use Rattle.std.proofs.lemmas.List.Kept.{Contains-dedup_nat, Contains-from_dedup}
use Rattle.std.proofs.lemmas.List.Sorted.{Contains-permutation, IsPermutation-sym}
use Rattle.std.proofs.lemmas.Map.Keys.{IsStrictlyIncreasing-dedup}
use Rattle.cm_net.specs.Groups.{IsRisingOf}

pub rising_from_sort : (xs ys zs : List ℕ) → IsPermutation xs ys → IsSorted nat_cmp ys → zs ≡ dedup nat_eq ys → IsRisingOf xs zs
rising_from_sort xs ys zs moved sorted is =
    record {
      rising = rw is (IsStrictlyIncreasing-dedup ys sorted);
      same = λ x. (
        (λ h. Contains-permutation ys xs x (IsPermutation-sym xs ys moved) (Contains-from_dedup _ ys x (rw is at h))),
        (λ h. rw is (Contains-dedup_nat ys x (Contains-permutation xs ys x moved h))),
      );
    }
