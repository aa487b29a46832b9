-- How far groups reach, and whose spans hold an address by it.
use Rattle.std.proofs.Common.{◌≡◌, ℕ, ◌<◌, ◌≤◌, Bool, true, false, leb, List, [], ◌∷◌, ◌++◌, map, Option, None, Some, refl, sym, ap, ◌∙◌, arith, cond, ◌&&◌, ◌||◌, ◌↔◌, take, drop, inl, inr}
use Rattle.std.specs.Prelude.{fold, max, All, IsSomeAnd, nat_eq}
use Rattle.std.specs.List.{filter, list_any, AllByRecursion}
use Rattle.std.specs.List.Sorted.{IsStrictlySortedBy, IsPermutation}
use Rattle.std.specs.Option.{is_some}
use Rattle.std.specs.Ordering.{nat_cmp, eq_by_cmp}
use Rattle.std.specs.Cmp.{nat_cmp_total, eq_by_cmp_equiv}
use Rattle.std.specs.BTreeMap.{is_at}
use Rattle.std.specs.Map.{lookup}
use Rattle.std.proofs.lemmas.Map.Entries.{lookup-filter-values}
use Rattle.std.proofs.lemmas.Map.Keys.{IsDistinct-from_sorted, IsStrictlyIncreasing-from_sorted}
use Rattle.std.proofs.lemmas.Map.Lookups.{exact_unsigned}
use Rattle.std.proofs.lemmas.Map.Made.{is_some-lookup}
use Rattle.std.proofs.lemmas.Map.Views.{list_any-from_Contains, Contains-from_any}
use Rattle.std.specs.List.Sorted.{IsStrictlyIncreasing}
use Rattle.std.proofs.Common.{Less}
use Rattle.std.specs.Map.{keys_of}
use Rattle.std.specs.BTreeMap.{BTreeMap, get, IsOrdered}
use Rattle.std.specs.Cmp.{nat_eq_equiv}
use Rattle.std.specs.Ordering.{is_eq}
use Rattle.std.proofs.Common.{Ordering, Equal, Greater}
use Rattle.std.proofs.Math.Bool.{or_assoc, or-false}
use Rattle.std.proofs.lemmas.Bool.{false≢true, leb-true, eqb-true, cond_both, cases_lt, le-leb, lt-leb}
use Rattle.std.proofs.lemmas.List.{take-append-drop}
use Rattle.std.proofs.lemmas.List.Elements.{All-head, All-tail}
use Rattle.std.proofs.lemmas.List.Folds.{list_any-append}
use Rattle.std.proofs.lemmas.List.Sorted.{list_any-IsPermutation}
use Rattle.std.proofs.lemmas.List.Sums.{fold-append}
use Rattle.std.proofs.lemmas.Map.Entries.{option_filter}
use Rattle.cm_net.specs.declared.span.Span.{Span}
use Rattle.cm_net.specs.Groups.{IsRisingOf}
use Rattle.cm_net.specs.Spans.{is_in, numbers_at, farther, reach_of, AreReachesOf, AreReaching}

pub reach_of-push : (xs : List Span) (s : Span) (g : ℕ) → reach_of (xs ++ s ∷ []) g ≡ cond (nat_eq g s.group) (farther (reach_of xs g) s.last) (reach_of xs g)
reach_of-push xs s g = fold-append (λ (reach : Option ℕ) (span : Span). cond (nat_eq g span.group) (farther reach span.last) reach) None xs (s ∷ [])

-- a span of the group holds the address
abbrev pub holds : List Span → ℕ → ℕ → Bool
holds xs a g = list_any (λ (s : Span). nat_eq g s.group && is_in a s) xs

-- the reach, where there is one, goes to the address
abbrev pub reaches : Option ℕ → ℕ → Bool
reaches reach a = is_some (option_filter (leb a) reach)

some_if : (b : Bool) (n : ℕ) → is_some (cond b (Some n) None) ≡ b
some_if true n = refl
some_if false n = refl

le_max : (a m n : ℕ) → leb a (max m n) ≡ (leb a n || leb a m)
le_max a m n = elim (cases_lt n a) [
  | inr high ↦ rw (le-leb a n high, le-leb a (max m n) (omega (arith, high))) refl
  | inl low ↦ elim (cases_lt m a) [
    | inr high ↦ rw (lt-leb a n low, le-leb a m high, le-leb a (max m n) (omega (arith, high))) refl
    | inl less ↦ rw (lt-leb a n low, lt-leb a m less, lt-leb a (max m n) (omega (arith, low, less))) refl
  ]
]

farther_reaches : (reach : Option ℕ) (last a : ℕ) → reaches (farther reach last) a ≡ (reaches reach a || leb a last)
farther_reaches None last a = some_if (leb a last) last
farther_reaches (Some reach) last a =
    some_if (leb a (max last reach)) (max last reach) ∙ (le_max a last reach ∙ ap (λ (b : Bool). b || leb a last) (sym (some_if (leb a reach) reach)))

step_reaches : (reach : Option ℕ) (s : Span) (a : ℕ) (here : Bool) → s.first ≤ a → reaches (cond here (farther reach s.last) reach) a ≡ (reaches reach a || (here && is_in a s))
step_reaches reach s a true begun = rw (le-leb s.first a begun) (farther_reaches reach s.last a)
step_reaches reach s a false begun = sym (or-false (reaches reach a))

reaches_from : (xs : List Span) (a g : ℕ) (reach : Option ℕ) → All (λ s. s.first ≤ a) xs
    → reaches (fold (λ reach (s : Span). cond (nat_eq g s.group) (farther reach s.last) reach) reach xs) a ≡ (reaches reach a || holds xs a g)
reaches_from [] a g reach begun = sym (or-false (reaches reach a))
reaches_from (s ∷ xs) a g reach begun =
    reaches_from xs a g (cond (nat_eq g s.group) (farther reach s.last) reach) (All-tail (λ (s : Span). s.first ≤ a) s xs begun)
    ∙ (ap (λ (b : Bool). b || holds xs a g) (step_reaches reach s a (nat_eq g s.group) (All-head (λ (s : Span). s.first ≤ a) s xs begun))
    ∙ or_assoc (reaches reach a) (nat_eq g s.group && is_in a s) (holds xs a g))

-- of spans that begin at or before the address, one of the group holds it exactly where the group reaches to it
pub reaches_holds : (xs : List Span) (a g : ℕ) → All (λ s. s.first ≤ a) xs → reaches (reach_of xs g) a ≡ holds xs a g
reaches_holds xs a g begun = reaches_from xs a g None begun

-- spans that begin behind it do not
none_ahead : (xs : List Span) (a g : ℕ) → All (λ s. a < s.first) xs → holds xs a g ≡ false
none_ahead [] a g ahead = refl
none_ahead (s ∷ xs) a g ahead =
    rw (lt-leb s.first a (All-head (λ (s : Span). a < s.first) s xs ahead), none_ahead xs a g (All-tail (λ (s : Span). a < s.first) s xs ahead))
    (elim (nat_eq g s.group) as (λ b. ((b && false) || false) ≡ false) [ true ↦ refl | false ↦ refl ])

pub reach_at : (xs : List Span) (n a g : ℕ) → All (λ s. s.first ≤ a) (take n xs) → All (λ s. a < s.first) (drop n xs) → reaches (reach_of (take n xs) g) a ≡ holds xs a g
reach_at xs n a g begun ahead =
    reaches_holds (take n xs) a g begun
    ∙ (sym (or-false (holds (take n xs) a g))
    ∙ (ap (λ (b : Bool). holds (take n xs) a g || b) (sym (none_ahead (drop n xs) a g ahead))
    ∙ (sym (list_any-append (λ (s : Span). nat_eq g s.group && is_in a s) (take n xs) (drop n xs))
    ∙ ap (λ (ys : List Span). holds ys a g) (take-append-drop n xs))))

-- the numbers of the spans that hold an address
one_holds : (s : Span) (xs : List Span) (a g : ℕ) (here : Bool) → list_any (nat_eq g) (map (λ (s : Span). s.group) (cond here (s ∷ xs) xs)) ≡ ((nat_eq g s.group && here) || list_any (nat_eq g) (map (λ (s : Span). s.group) xs))
one_holds s xs a g true = ap (λ (b : Bool). b || list_any (nat_eq g) (map (λ (s : Span). s.group) xs)) (elim (nat_eq g s.group) as (λ b. b ≡ (b && true)) [ true ↦ refl | false ↦ refl ])
one_holds s xs a g false = ap (λ (b : Bool). b || list_any (nat_eq g) (map (λ (s : Span). s.group) xs)) (elim (nat_eq g s.group) as (λ b. false ≡ (b && false)) [ true ↦ refl | false ↦ refl ])

numbers_hold : (xs : List Span) (a g : ℕ) → list_any (nat_eq g) (numbers_at xs a) ≡ holds xs a g
numbers_hold [] a g = refl
numbers_hold (s ∷ xs) a g =
    one_holds s (filter (is_in a) xs) a g (is_in a s) ∙ ap (λ (b : Bool). (nat_eq g s.group && is_in a s) || b) (numbers_hold xs a g)

pub numbers_hold_moved : (xs ys : List Span) (a g : ℕ) → IsPermutation xs ys → list_any (nat_eq g) (numbers_at xs a) ≡ holds ys a g
numbers_hold_moved xs ys a g moved = numbers_hold xs a g ∙ list_any-IsPermutation (λ (s : Span). nat_eq g s.group && is_in a s) xs ys moved

-- the keys of some entries of a map rise too
keys_above : (k : ℕ) (p : ℕ × ℕ → Bool) (es : List (ℕ × ℕ)) → AllByRecursion (λ y. nat_cmp k y ≡ Less) (keys_of es) → AllByRecursion (λ y. nat_cmp k y ≡ Less) (keys_of (filter p es))
keys_above k p [] h = h
keys_above k p (e ∷ es) h =
    cond_both (p e) (e ∷ filter p es) (filter p es) (λ (l : List (ℕ × ℕ)). AllByRecursion (λ y. nat_cmp k y ≡ Less) (keys_of l)) (λ _. (h.0, keys_above k p es h.1)) (λ _. keys_above k p es h.1)

keys_sorted : (p : ℕ × ℕ → Bool) (es : List (ℕ × ℕ)) → IsStrictlySortedBy nat_cmp (keys_of es) → IsStrictlySortedBy nat_cmp (keys_of (filter p es))
unfolding IsStrictlySortedBy
keys_sorted p [] h = h
keys_sorted p (e ∷ es) h =
    cond_both (p e) (e ∷ filter p es) (filter p es) (λ (l : List (ℕ × ℕ)). IsStrictlySortedBy nat_cmp (keys_of l)) (λ _. (keys_above e.0 p es h.0, keys_sorted p es h.1)) (λ _. keys_sorted p es h.1)

pub keys_rise : (p : ℕ × ℕ → Bool) (es : List (ℕ × ℕ)) → IsStrictlySortedBy nat_cmp (keys_of es) → IsStrictlyIncreasing (keys_of (filter p es))
keys_rise p es sorted = IsStrictlyIncreasing-from_sorted (keys_of (filter p es)) (keys_sorted p es sorted)

-- the keys of the entries that reach to an address
pub keys_reach : (es : List (ℕ × ℕ)) (a g : ℕ) → IsStrictlySortedBy nat_cmp (keys_of es) → list_any (is_at (nat_cmp g)) (keys_of (filter (λ e. leb a e.1) es)) ≡ reaches (lookup (is_at (nat_cmp g)) es) a
keys_reach es a g sorted =
    sym (is_some-lookup (is_at (nat_cmp g)) (filter (λ e. leb a e.1) es))
    ∙ ap is_some (lookup-filter-values (eq_by_cmp_equiv nat_cmp_total) (leb a) g es (IsDistinct-from_sorted nat_cmp (keys_of es) sorted))

-- what it is that a reach goes to an address
reaches_says : (reach : Option ℕ) (a : ℕ) → (reaches reach a ≡ true) ↔ IsSomeAnd reach (λ last. a ≤ last)
reaches_says None a = (λ h. absurd (false≢true h), λ h. absurd h)
reaches_says (Some last) a = (λ h. leb-true a last (sym (some_if (leb a last) last) ∙ h), λ h. some_if (leb a last) last ∙ le-leb a last h)

is_equal : (o : Ordering) → is_eq o ≡ true → o ≡ Equal
is_equal Less h = absurd (false≢true h)
is_equal Equal h = refl
is_equal Greater h = absurd (false≢true h)

same_key : (x y : ℕ) → eq_by_cmp nat_cmp x y ≡ true → x ≡ y
same_key x y h = exact_unsigned x y (is_equal (nat_cmp x y) h)

pub are_reaching : (m : BTreeMap ℕ ℕ) (a : ℕ) (groups : List ℕ) → IsOrdered nat_cmp m → groups ≡ keys_of (filter (λ e. leb a e.1) m.entries) → AreReaching m a groups
are_reaching m a groups ordered is =
    let found : (g : ℕ) → list_any (is_at (nat_cmp g)) groups ≡ reaches (get nat_cmp m g) a =
    λ g. ap (list_any (is_at (nat_cmp g))) is ∙ keys_reach m.entries a g ordered in
    record {
      rising = rw is (keys_rise (λ e. leb a e.1) m.entries ordered);
      those = λ g. (
        (λ h. (reaches_says (get nat_cmp m g) a).0 (sym (found g) ∙ list_any-from_Contains (eq_by_cmp_equiv nat_cmp_total) g groups h)),
        (λ h. Contains-from_any same_key g groups (found g ∙ (reaches_says (get nat_cmp m g) a).1 h)),
      );
    }

-- the groups that reach to an address are those whose spans hold it, where the spans that begin at or before it have begun
pub reaching_rises : (spans sorted : List Span) (n a : ℕ) (m : BTreeMap ℕ ℕ) (groups : List ℕ)
    → IsPermutation spans sorted → All (λ s. s.first ≤ a) (take n sorted) → All (λ s. a < s.first) (drop n sorted)
    → AreReachesOf (take n sorted) m → AreReaching m a groups → IsRisingOf (numbers_at spans a) groups
reaching_rises spans sorted n a m groups moved begun ahead reach right =
    let found : (g : ℕ) → reaches (get nat_cmp m g) a ≡ list_any (nat_eq g) (numbers_at spans a) =
    λ g. ap (λ (r : Option ℕ). reaches r a) (reach g) ∙ (reach_at sorted n a g begun ahead ∙ sym (numbers_hold_moved spans sorted a g moved)) in
    record {
      rising = right.rising;
      same = λ g. (
        (λ h. Contains-from_any eqb-true g (numbers_at spans a) (sym (found g) ∙ (reaches_says (get nat_cmp m g) a).1 ((right.those g).0 h))),
        (λ h. (right.those g).1 ((reaches_says (get nat_cmp m g) a).0 (found g ∙ list_any-from_Contains nat_eq_equiv g (numbers_at spans a) h))),
      );
    }
