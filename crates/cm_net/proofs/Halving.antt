-- A search by halves: where it has looked, how few steps it took, and what it finds.
use Rattle.std.proofs.Common.{◌≡◌, ℕ, ◌+◌, ◌-◌, ◌*◌, ◌<◌, ◌≤◌, ◌^◌, List, length, get_or, refl, subst, arith, suc, Less, Equal, Greater, Ordering}
use Rattle.std.proofs.Math.Nat.{mul-le-mul_left, pow-succ'}
use Rattle.std.specs.List.{AllWithin, HoldsAt}
use Rattle.std.specs.List.Sorted.{IsNonDecreasingBy}
use Rattle.std.specs.Ordering.{ordering_index}
use Rattle.std.proofs.Math.Pow.{pow_mono}
use Rattle.std.proofs.lemmas.Bool.{cases_lt}
use Rattle.std.proofs.Common.{inl, inr}
use Rattle.cm_net.specs.declared.address.Address.{Address}
use Rattle.cm_net.specs.declared.boundary.Boundary.{Boundary}
use Rattle.cm_net.specs.Boundaries.{is_of_family, is_site, rows_of}
use Rattle.cm_net.specs.Entries.{TakesHalves}
use Rattle.cm_net.specs.Indexed.{AreFewSteps}

-- where the tests of the elements rise, those before `low` are less, and those from `high` on are greater
abbrev pub IsNarrowed : {X : Type 0} → (X → Ordering) → List X → ℕ → ℕ → Type 0
IsNarrowed ord xs low high =
    IsNonDecreasingBy (λ x. ordering_index (ord x)) xs
    → AllWithin (λ x. ord x ≡ Less) xs 0 low × AllWithin (λ x. ord x ≡ Greater) xs high (length xs)

-- of n elements this many are left, after steps from the one number to the other
pub record WereHalved (n left before after : ℕ) : Type 0 where
  pub later : before ≤ after
  pub share : 2 ^ (after - before) * left ≤ n
  pub few : 2 ^ (after - before) ≤ 2 * n + 1

pub not_yet : (n steps : ℕ) → WereHalved n (n - 0) steps steps
not_yet n steps =
    let none : steps - steps ≡ 0 = omega arith in
    record { later = omega arith; share = rw none (omega arith); few = rw none (omega arith) }

double_share : (power left next n : ℕ) → 2 * next ≤ left → power * left ≤ n → (2 * power) * next ≤ n
double_share power left next n half share =
    let spread : (2 * power) * next ≡ power * (2 * next) = omega arith in
    let grows : power * (2 * next) ≤ power * left = mul-le-mul_left power half in
    omega (arith, spread, grows, share)

double_few : (power left n : ℕ) → 1 ≤ left → power * left ≤ n → 2 * power ≤ 2 * n + 1
double_few power left n some share =
    let grows : power * 1 ≤ power * left = mul-le-mul_left power some in
    omega (arith, grows, share)

pub halved : (n left next before now after : ℕ) → WereHalved n left before now → after ≡ now + 1 → 1 ≤ left → 2 * next ≤ left → WereHalved n next before after
halved n left next before now after was step some half =
    let more : after - before ≡ suc (now - before) = omega (arith, was.later, step) in
    let power : 2 ^ (after - before) ≡ 2 * 2 ^ (now - before) = rw more (pow-succ' 2 (now - before)) in
    record {
      later = omega (arith, was.later, step);
      share = rw power (double_share (2 ^ (now - before)) left next n half was.share);
      few = rw power (double_few (2 ^ (now - before)) left n some was.share);
    }

pub halves : (n left before after : ℕ) → WereHalved n left before after → TakesHalves n before after
halves n left before after was = record { later = was.later; few = was.few }

first_index : (o : Ordering) → ordering_index o ≤ ordering_index Less → o ≡ Less
first_index Less h = refl
first_index Equal h = absurd (omega (arith, h))
first_index Greater h = absurd (omega (arith, h))

last_index : (o : Ordering) → ordering_index Greater ≤ ordering_index o → o ≡ Greater
last_index Less h = absurd (omega (arith, h))
last_index Equal h = absurd (omega (arith, h))
last_index Greater h = refl

-- an element in the middle that is less, and one that is greater
pub narrowed_above : {X : Type 0} (ord : X → Ordering) (xs : List X) (low high middle : ℕ) → middle < length xs → HoldsAt (λ x. ord x ≡ Less) xs middle → IsNarrowed ord xs low high → IsNarrowed ord xs (middle + 1) high
narrowed_above ord xs low high middle within less was = λ rise. (
  λ k d from below. first_index (ord (get_or xs k d)) (subst (λ (o : Ordering). ordering_index (ord (get_or xs k d)) ≤ ordering_index o) (less d) (rise k middle d (omega (arith, below)) within)),
  (was rise).1,
)

pub narrowed_below : {X : Type 0} (ord : X → Ordering) (xs : List X) (low high middle : ℕ) → middle < length xs → HoldsAt (λ x. ord x ≡ Greater) xs middle → IsNarrowed ord xs low high → IsNarrowed ord xs low middle
narrowed_below ord xs low high middle within greater was = λ rise. (
  (was rise).0,
  λ k d from below. last_index (ord (get_or xs k d)) (subst (λ (o : Ordering). ordering_index o ≤ ordering_index (ord (get_or xs k d))) (greater d) (rise middle k d from below)),
)

-- how many steps some figures come to
below_exponent : (a n : ℕ) → 2 ^ a < 2 ^ n → a < n
below_exponent a n low = elim (cases_lt a n) [ inl below ↦ below | inr above ↦ absurd (omega (arith, low, pow_mono above)) ]

pub three_steps : (address : Address) (rows : List (Boundary × ℕ)) (before after : ℕ) → AreFewSteps address rows before after
    → rows_of (is_of_family address) rows ≤ 3 → rows_of is_site rows ≡ 0 → after ≤ before + 3
three_steps address rows before after steps few none =
    let a = below_exponent steps.by_address 4 (omega (arith, steps.few_by_address, few)) in
    let b = below_exponent steps.by_site 1 (omega (arith, steps.few_by_site, none)) in
    omega (arith, steps.all, a, b)

pub one_step : (address : Address) (rows : List (Boundary × ℕ)) (before after : ℕ) → AreFewSteps address rows before after
    → rows_of (is_of_family address) rows ≡ 0 → rows_of is_site rows ≡ 0 → after ≤ before + 1
one_step address rows before after steps few none =
    let a = below_exponent steps.by_address 2 (omega (arith, steps.few_by_address, few)) in
    let b = below_exponent steps.by_site 1 (omega (arith, steps.few_by_site, none)) in
    omega (arith, steps.all, a, b)
