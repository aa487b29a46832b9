-- The names of bays are those of a site's bays: in order, and no name twice.
use Rattle.std.proofs.Common.{◌≡◌, ℕ, ◌+◌, ◌<◌, ◌≤◌, Bool, true, false, not, cond, ◌||◌, List, [], ◌∷◌, ◌++◌, length, take, filter, refl, sym, ap, subst, ◌∙◌, arith, zero, suc}
use Rattle.std.specs.BTreeSet.{insert_key}
use Rattle.std.specs.Cmp.{IsTotalOrder}
use Rattle.std.specs.Cmp.Lexicographic.{slice_cmp}
use Rattle.std.specs.List.{AllByRecursion, fold}
use Rattle.std.specs.List.Sorted.{IsStrictlySortedBy}
use Rattle.std.specs.Ordering.{nat_cmp, is_eq, match_ordering, ordering_reverse}
use Rattle.std.specs.declared.cmp.Ordering.{Ordering}
use Rattle.std.specs.declared.cmp.Ordering.TheVariants.{Less, Equal, Greater}
use Rattle.std.specs.Str.{bytes_eq}
use Rattle.std.proofs.lemmas.Bool.{false≢true}
use Rattle.std.proofs.lemmas.Cmp.{nat_list_cmp_total}
use Rattle.std.proofs.lemmas.Map.Text.{is_eq-slice_cmp}
use Rattle.std.proofs.lemmas.Slice.Eq.{bytes_eq-Decides}
use Rattle.cm_groups.specs.Names.{is_among}
use Rattle.cm_site.specs.Bays.{AreDistinct, AreInOrder, AreNames}
use Rattle.cm_site.specs.Contents.{site, records_bay}
use Rattle.cmsite.specs.BayNames.{is_other, in_order, others_of, records_of, bays_of}

-- each element of what a list is made of

pub all_then : {X : Type 0} (P Q : X → Type 0) → ((x : X) → P x → Q x) → (xs : List X) → AllByRecursion P xs → AllByRecursion Q xs
all_then P Q then [] all = tt
all_then P Q then (x ∷ xs) all = (then x all.0, all_then P Q then xs all.1)

pub all-take : {X : Type 0} (P : X → Type 0) (n : ℕ) (xs : List X) → AllByRecursion P xs → AllByRecursion P (take n xs)
all-take P zero xs all = tt
all-take P (suc n) [] all = tt
all-take P (suc n) (x ∷ xs) all = (all.0, all-take P n xs all.1)

pub all-filter : {X : Type 0} (p : X → Bool) (xs : List X) → AllByRecursion (λ x. p x ≡ true) (filter p xs)
all-filter p [] = tt
all-filter {X = X} p (x ∷ xs) = by (p x) refl (all-filter p xs)
  where
    by : (b : Bool) → p x ≡ b → AllByRecursion (λ y. p y ≡ true) (filter p xs) → AllByRecursion (λ y. p y ≡ true) (cond b (x ∷ filter p xs) (filter p xs))
    by true is rest = (is, rest)
    by false is rest = rest

all-insert_key : {X : Type 0} (R : X → X → Ordering) (P : X → Type 0) (keys : List X) (key : X) → AllByRecursion P keys → P key → AllByRecursion P (insert_key R keys key)
all-insert_key R P [] key all one = (one, tt)
all-insert_key R P (x ∷ xs) key all one = by (R key x) (all-insert_key R P xs key all.1 one)
  where
    by : (o : Ordering) → AllByRecursion P (insert_key R xs key) → AllByRecursion P (match_ordering o (key ∷ x ∷ xs) (x ∷ xs) (x ∷ insert_key R xs key))
    by Less rest = (one, all)
    by Equal rest = all
    by Greater rest = (all.0, rest)

pub all-in_order : (P : List ℕ → Type 0) (start names : List (List ℕ)) → AllByRecursion P start → AllByRecursion P names
    → AllByRecursion P (fold (insert_key (slice_cmp nat_cmp)) start names)
all-in_order P start [] old all = old
all-in_order P start (name ∷ names) old all =
    all-in_order P (insert_key (slice_cmp nat_cmp) start name) names (all-insert_key (slice_cmp nat_cmp) P start name old all.0) all.1

-- keys rise

pub sorted-take : {X : Type 0} (R : X → X → Ordering) (n : ℕ) (xs : List X) → IsStrictlySortedBy R xs → IsStrictlySortedBy R (take n xs)
unfolding IsStrictlySortedBy
sorted-take R zero xs sorted = tt
sorted-take R (suc n) [] sorted = tt
sorted-take R (suc n) (x ∷ xs) sorted = (all-take (λ y. R x y ≡ Less) n xs sorted.0, sorted-take R n xs sorted.1)

sorted-insert_key : {X : Type 0} (R : X → X → Ordering) → IsTotalOrder R → (keys : List X) (key : X) → IsStrictlySortedBy R keys → IsStrictlySortedBy R (insert_key R keys key)
unfolding IsStrictlySortedBy
sorted-insert_key R order [] key sorted = (tt, tt)
sorted-insert_key R order (x ∷ xs) key sorted = by (R key x) refl (sorted-insert_key R order xs key sorted.1)
  where
    by : (o : Ordering) → R key x ≡ o → IsStrictlySortedBy R (insert_key R xs key) → IsStrictlySortedBy R (match_ordering o (key ∷ x ∷ xs) (x ∷ xs) (x ∷ insert_key R xs key))
    by Less is rest = ((is, all_then (λ y. R x y ≡ Less) (λ y. R key y ≡ Less) (λ y below. order.trans key x y is below) xs sorted.0), sorted)
    by Equal is rest = sorted
    by Greater is rest = (all-insert_key R (λ y. R x y ≡ Less) xs key sorted.0 (order.antisymm x key ∙ ap ordering_reverse is), rest)

pub sorted-in_order : (start names : List (List ℕ)) → IsStrictlySortedBy (slice_cmp nat_cmp) start → IsStrictlySortedBy (slice_cmp nat_cmp) (fold (insert_key (slice_cmp nat_cmp)) start names)
unfolding IsStrictlySortedBy
sorted-in_order start [] sorted = sorted
sorted-in_order start (name ∷ names) sorted =
    sorted-in_order (insert_key (slice_cmp nat_cmp) start name) names (sorted-insert_key (slice_cmp nat_cmp) nat_list_cmp_total start name sorted)

-- no name twice

none_among : (names : List (List ℕ)) (name : List ℕ) → AllByRecursion (λ other. bytes_eq other name ≡ false) names → is_among names name ≡ false
none_among [] name all = refl
none_among (other ∷ others) name all = ap (λ (b : Bool). b || is_among others name) all.0 ∙ none_among others name all.1

above_differs : (name other : List ℕ) → slice_cmp nat_cmp name other ≡ Less → bytes_eq other name ≡ false
above_differs name other below =
    sym (is_eq-slice_cmp other name) ∙ ap is_eq (nat_list_cmp_total.antisymm other name ∙ ap ordering_reverse below)

distinct-sorted : (names : List (List ℕ)) → IsStrictlySortedBy (slice_cmp nat_cmp) names → AreDistinct names
unfolding IsStrictlySortedBy
distinct-sorted [] sorted = tt
distinct-sorted (name ∷ names) sorted =
    (none_among names name (all_then (λ other. slice_cmp nat_cmp name other ≡ Less) (λ other. bytes_eq other name ≡ false) (above_differs name) names sorted.0), distinct-sorted names sorted.1)

-- a name that is no other one is not among them

other_differs : (refused : List ℕ) → is_other refused ≡ false → (name : List ℕ) → is_other name ≡ true → bytes_eq name refused ≡ false
other_differs refused none name other = by (bytes_eq name refused) refl
  where
    by : (b : Bool) → bytes_eq name refused ≡ b → b ≡ false
    by true same = absurd (false≢true (sym none ∙ ap is_other (sym ((bytes_eq-Decides name refused).0 same)) ∙ other))
    by false differs = refl

not_among : (refused : List ℕ) → is_other refused ≡ false → (names : List (List ℕ)) → AllByRecursion (λ name. is_other name ≡ true) names → is_among names refused ≡ false
not_among refused none names all = none_among names refused (all_then (λ name. is_other name ≡ true) (λ name. bytes_eq name refused ≡ false) (other_differs refused none) names all)

-- the site's, the records' or not, and others

names_with : (others : List (List ℕ)) → IsStrictlySortedBy (slice_cmp nat_cmp) others → AllByRecursion (λ name. is_other name ≡ true) others → length others ≤ 64
    → AreNames (site ∷ records_bay ∷ others)
names_with others sorted all few = record {
  ordered = (refl, not_among records_bay refl others all);
  distinct = (not_among site refl others all, (not_among records_bay refl others all, distinct-sorted others sorted));
  most = omega arith;
}

names_without : (others : List (List ℕ)) → IsStrictlySortedBy (slice_cmp nat_cmp) others → AllByRecursion (λ name. is_other name ≡ true) others → length others ≤ 64
    → AreNames (site ∷ others)
unfolding IsStrictlySortedBy
names_without [] sorted all few = record { ordered = refl; distinct = (refl, tt); most = omega arith }
names_without (first ∷ others) sorted all few = record {
  ordered = (refl, not_among records_bay refl others all.1);
  distinct = (not_among site refl (first ∷ others) all, distinct-sorted (first ∷ others) sorted);
  most = omega arith;
}

length-others : (xs : List (List ℕ)) (n : ℕ) → length (take n xs) ≤ n
length-others xs zero = omega arith
length-others [] (suc n) = omega arith
length-others (x ∷ xs) (suc n) = let rest = length-others xs n in omega arith

pub are_names : (names : List (List ℕ)) → AreNames (bays_of names)
unfolding IsStrictlySortedBy
are_names names = by (is_among names records_bay)
  where
    sorted : IsStrictlySortedBy (slice_cmp nat_cmp) (others_of names)
    sorted = sorted-take (slice_cmp nat_cmp) 64 (in_order (filter is_other names)) (sorted-in_order [] (filter is_other names) tt)

    all : AllByRecursion (λ name. is_other name ≡ true) (others_of names)
    all = all-take (λ name. is_other name ≡ true) 64 (in_order (filter is_other names)) (all-in_order (λ name. is_other name ≡ true) [] (filter is_other names) tt (all-filter is_other names))

    by : (b : Bool) → AreNames (site ∷ (cond b (records_bay ∷ []) [] ++ others_of names))
    by true = names_with (others_of names) sorted all (length-others (in_order (filter is_other names)) 64)
    by false = names_without (others_of names) sorted all (length-others (in_order (filter is_other names)) 64)
