-- The others are the first ones of the names.
use Rattle.std.proofs.Common.{◌≡◌, ◌⊎◌, inl, inr, ℕ, ◌+◌, Bool, true, false, cond, ◌||◌, List, [], ◌∷◌, ◌++◌, length, take, filter, refl, sym, ap, subst, ◌∙◌, arith, zero, suc}
use Rattle.std.specs.BTreeSet.{insert_key}
use Rattle.std.specs.Cmp.Lexicographic.{slice_cmp}
use Rattle.std.specs.List.{AllByRecursion, fold}
use Rattle.std.specs.List.Sorted.{IsStrictlySortedBy}
use Rattle.std.specs.Ordering.{nat_cmp, is_eq, match_ordering}
use Rattle.std.specs.Str.{bytes_eq}
use Rattle.std.specs.declared.cmp.Ordering.{Ordering}
use Rattle.std.specs.declared.cmp.Ordering.TheVariants.{Less, Equal, Greater}
use Rattle.std.proofs.lemmas.Bool.{false≢true}
use Rattle.std.proofs.lemmas.Map.Text.{is_eq-slice_cmp}
use Rattle.std.proofs.lemmas.Slice.Eq.{bytes_eq-Decides}
use Rattle.cm_groups.specs.Names.{is_among}
use Rattle.cmsite.specs.BayNames.{is_other, in_order, others_of, bays_of, AreFirstOthers, HasFirstOthers}
use Rattle.cmsite.proofs.BayNameLaws.{all_then, all-take, all-filter, all-in_order, sorted-take, sorted-in_order}

abbrev cmp : List ℕ → List ℕ → Ordering
cmp = slice_cmp nat_cmp

-- a name is among names

or_right : (b c : Bool) → c ≡ true → (b || c) ≡ true
or_right true c is = refl
or_right false c is = is

same_name : (name : List ℕ) → bytes_eq name name ≡ true
same_name name = (bytes_eq-Decides name name).1 refl

among_here : (name : List ℕ) (names : List (List ℕ)) (other : List ℕ) → bytes_eq other name ≡ true → is_among (other ∷ names) name ≡ true
among_here name names other same = ap (λ (b : Bool). b || is_among names name) same

among_behind : (name : List ℕ) (names : List (List ℕ)) (other : List ℕ) → is_among names name ≡ true → is_among (other ∷ names) name ≡ true
among_behind name names other is = or_right (bytes_eq other name) (is_among names name) is

each_among : (names : List (List ℕ)) → AllByRecursion (λ name. is_among names name ≡ true) names
each_among [] = tt
each_among (name ∷ names) = (
  among_here name names name (same_name name),
  all_then (λ other. is_among names other ≡ true) (λ other. is_among (name ∷ names) other ≡ true) (λ other is. among_behind other names name is) names (each_among names),
)

all_filtered : {X : Type 0} (P : X → Type 0) (p : X → Bool) (xs : List X) → AllByRecursion P xs → AllByRecursion P (filter p xs)
all_filtered P p [] all = tt
all_filtered P p (x ∷ xs) all = by (p x) (all_filtered P p xs all.1)
  where
    by : (b : Bool) → AllByRecursion P (filter p xs) → AllByRecursion P (cond b (x ∷ filter p xs) (filter p xs))
    by true rest = (all.0, rest)
    by false rest = rest

all_both : {X : Type 0} (P Q : X → Type 0) (xs : List X) → AllByRecursion P xs → AllByRecursion Q xs → AllByRecursion (λ x. P x × Q x) xs
all_both P Q [] one other = tt
all_both P Q (x ∷ xs) one other = ((one.0, other.0), all_both P Q xs one.1 other.1)

-- no name is lost

among-filter : (name : List ℕ) → is_other name ≡ true → (names : List (List ℕ)) → is_among names name ≡ true → is_among (filter is_other names) name ≡ true
among-filter name other [] is = is
among-filter name other (x ∷ xs) is = here (bytes_eq x name) refl is (among-filter name other xs)
  where
    kept : (b : Bool) → is_among (filter is_other xs) name ≡ true → is_among (cond b (x ∷ filter is_other xs) (filter is_other xs)) name ≡ true
    kept true rest = among_behind name (filter is_other xs) x rest
    kept false rest = rest

    here : (b : Bool) → bytes_eq x name ≡ b → (b || is_among xs name) ≡ true → (is_among xs name ≡ true → is_among (filter is_other xs) name ≡ true)
        → is_among (filter is_other (x ∷ xs)) name ≡ true
    here true same is more =
        ap (λ (b : Bool). is_among (cond b (x ∷ filter is_other xs) (filter is_other xs)) name) (ap is_other ((bytes_eq-Decides x name).0 same) ∙ other) ∙ among_here name (filter is_other xs) x same
    here false differs is more = kept (is_other x) (more is)

among-insert_key : (name key : List ℕ) (keys : List (List ℕ)) → is_among keys name ≡ true → is_among (insert_key cmp keys key) name ≡ true
among-insert_key name key [] is = absurd (false≢true is)
among-insert_key name key (x ∷ xs) is = by (cmp key x) (among-insert_key name key xs)
  where
    behind : (b : Bool) → (b || is_among xs name) ≡ true → (is_among xs name ≡ true → is_among (insert_key cmp xs key) name ≡ true) → (b || is_among (insert_key cmp xs key) name) ≡ true
    behind true is more = refl
    behind false is more = more is

    by : (o : Ordering) → (is_among xs name ≡ true → is_among (insert_key cmp xs key) name ≡ true) → is_among (match_ordering o (key ∷ x ∷ xs) (x ∷ xs) (x ∷ insert_key cmp xs key)) name ≡ true
    by Less more = among_behind name (x ∷ xs) key is
    by Equal more = is
    by Greater more = behind (bytes_eq x name) is more

inserted_key : (key : List ℕ) (keys : List (List ℕ)) → is_among (insert_key cmp keys key) key ≡ true
inserted_key key [] = among_here key [] key (same_name key)
inserted_key key (x ∷ xs) = by (cmp key x) refl (inserted_key key xs)
  where
    by : (o : Ordering) → cmp key x ≡ o → is_among (insert_key cmp xs key) key ≡ true → is_among (match_ordering o (key ∷ x ∷ xs) (x ∷ xs) (x ∷ insert_key cmp xs key)) key ≡ true
    by Less is more = among_here key (x ∷ xs) key (same_name key)
    by Equal is more = among_here key xs x ((bytes_eq-Decides x key).1 (sym ((bytes_eq-Decides key x).0 (sym (is_eq-slice_cmp key x) ∙ ap is_eq is))))
    by Greater is more = among_behind key (insert_key cmp xs key) x more

among_kept : (name : List ℕ) (start names : List (List ℕ)) → is_among start name ≡ true → is_among (fold (insert_key cmp) start names) name ≡ true
among_kept name start [] is = is
among_kept name start (x ∷ xs) is = among_kept name (insert_key cmp start x) xs (among-insert_key name x start is)

among-in_order : (name : List ℕ) (start names : List (List ℕ)) → is_among names name ≡ true → is_among (fold (insert_key cmp) start names) name ≡ true
among-in_order name start [] is = absurd (false≢true is)
among-in_order name start (x ∷ xs) is = by (bytes_eq x name) refl is (among-in_order name (insert_key cmp start x) xs)
  where
    by : (b : Bool) → bytes_eq x name ≡ b → (b || is_among xs name) ≡ true → (is_among xs name ≡ true → is_among (fold (insert_key cmp) (insert_key cmp start x) xs) name ≡ true)
        → is_among (fold (insert_key cmp) (insert_key cmp start x) xs) name ≡ true
    by true same is more =
        among_kept name (insert_key cmp start x) xs (subst (λ (n : List ℕ). is_among (insert_key cmp start x) n ≡ true) ((bytes_eq-Decides x name).0 same) (inserted_key x start))
    by false differs is more = more is

-- what is cut off stands behind all that is left

below_member : (P : List ℕ → Type 0) (name : List ℕ) (names : List (List ℕ)) → AllByRecursion P names → is_among names name ≡ true → P name
below_member P name [] all is = absurd (false≢true is)
below_member P name (x ∷ xs) all is = by (bytes_eq x name) refl is (below_member P name xs all.1)
  where
    by : (b : Bool) → bytes_eq x name ≡ b → (b || is_among xs name) ≡ true → (is_among xs name ≡ true → P name) → P name
    by true same is more = subst P ((bytes_eq-Decides x name).0 same) all.0
    by false differs is more = more is

-- a name is among the first keys of so many, or stands behind these
abbrev IsLeft : ℕ → List ℕ → List (List ℕ) → Type 0
IsLeft n name keys = (is_among (take n keys) name ≡ true) ⊎ ((length (take n keys) ≡ n) × AllByRecursion (λ other. cmp other name ≡ Less) (take n keys))

cut_off : (n : ℕ) (name : List ℕ) (keys : List (List ℕ)) → IsStrictlySortedBy cmp keys → is_among keys name ≡ true → IsLeft n name keys
unfolding IsStrictlySortedBy
cut_off zero name keys sorted is = inr (refl, tt)
cut_off (suc n) name [] sorted is = absurd (false≢true is)
cut_off (suc n) name (x ∷ xs) sorted is = by (bytes_eq x name) refl is (cut_off n name xs sorted.1)
  where
    more : cmp x name ≡ Less → IsLeft n name xs → IsLeft (suc n) name (x ∷ xs)
    more below (inl is) = inl (among_behind name (take n xs) x is)
    more below (inr behind) = inr (let full = behind.0 in omega (arith, full), (below, behind.1))

    by : (b : Bool) → bytes_eq x name ≡ b → (b || is_among xs name) ≡ true → (is_among xs name ≡ true → IsLeft n name xs) → IsLeft (suc n) name (x ∷ xs)
    by true same is left = inl (among_here name (take n xs) x same)
    by false differs is left = more (below_member (λ other. cmp x other ≡ Less) name xs sorted.0 is) (left is)

first_others : (names : List (List ℕ)) → AreFirstOthers names (others_of names)
unfolding IsStrictlySortedBy
first_others names = record {
  rising = sorted-take cmp 64 (in_order (filter is_other names)) sorted;
  there = all-take (λ name. (is_other name ≡ true) × (is_among names name ≡ true)) 64 (in_order (filter is_other names))
      (all-in_order (λ name. (is_other name ≡ true) × (is_among names name ≡ true)) [] (filter is_other names) tt
      (all_both (λ name. is_other name ≡ true) (λ name. is_among names name ≡ true) (filter is_other names) (all-filter is_other names)
      (all_filtered (λ name. is_among names name ≡ true) is_other names (each_among names))));
  least = λ name other is. cut_off 64 name (in_order (filter is_other names)) sorted (among-in_order name [] (filter is_other names) (among-filter name other names is));
}
  where
    sorted : IsStrictlySortedBy cmp (in_order (filter is_other names))
    sorted = sorted-in_order [] (filter is_other names) tt

pub has_first_others : (names : List (List ℕ)) → HasFirstOthers names (bays_of names)
has_first_others names = record { others = others_of names; is = refl; first = first_others names }
