-- Lists with one row more or less.
use Rattle.std.proofs.Common.{◌≡◌, Bool, true, false, not, cond, List, [], ◌∷◌, ◌++◌, map, refl, ap, Some, None}
use Rattle.std.specs.List.{AllByRecursion, list_any, find, filter}
use Rattle.cm_pkglib.specs.Places.{EachPair}

pub All-map : {X : Type 0} (P Q : X → Type 0) → ((x : X) → P x → Q x) → (xs : List X) → AllByRecursion P xs → AllByRecursion Q xs
All-map P Q f [] a = tt
All-map P Q f (x ∷ xs) a = (f x a.0, All-map P Q f xs a.1)

pub All-append : {X : Type 0} (P : X → Type 0) (xs ys : List X) → AllByRecursion P xs → AllByRecursion P ys → AllByRecursion P (xs ++ ys)
All-append P [] ys a b = b
All-append P (x ∷ xs) ys a b = (a.0, All-append P xs ys a.1 b)

pub All-front : {X : Type 0} (P : X → Type 0) (xs ys : List X) → AllByRecursion P (xs ++ ys) → AllByRecursion P xs
All-front P [] ys a = tt
All-front P (x ∷ xs) ys a = (a.0, All-front P xs ys a.1)

pub All-back : {X : Type 0} (P : X → Type 0) (xs ys : List X) → AllByRecursion P (xs ++ ys) → AllByRecursion P ys
All-back P [] ys a = a
All-back P (x ∷ xs) ys a = All-back P xs ys a.1

pub All-insert : {X : Type 0} (P : X → Type 0) (xs : List X) (a : X) (ys : List X) → P a → AllByRecursion P (xs ++ ys) → AllByRecursion P (xs ++ a ∷ ys)
All-insert P [] a ys p all = (p, all)
All-insert P (x ∷ xs) a ys p all = (all.0, All-insert P xs a ys p all.1)

pub All-remove : {X : Type 0} (P : X → Type 0) (xs : List X) (a : X) (ys : List X) → AllByRecursion P (xs ++ a ∷ ys) → AllByRecursion P (xs ++ ys)
All-remove P [] a ys all = all.1
All-remove P (x ∷ xs) a ys all = (all.0, All-remove P xs a ys all.1)

pub All-middle : {X : Type 0} (P : X → Type 0) (xs : List X) (a : X) (ys : List X) → AllByRecursion P (xs ++ a ∷ ys) → P a
All-middle P [] a ys all = all.0
All-middle P (x ∷ xs) a ys all = All-middle P xs a ys all.1

pub All-of_map : {X Y : Type 0} (f : X → Y) (P : Y → Type 0) (xs : List X) → AllByRecursion (λ x. P (f x)) xs → AllByRecursion P (map f xs)
All-of_map f P [] all = tt
All-of_map f P (x ∷ xs) all = (all.0, All-of_map f P xs all.1)

pub EachPair-map : {X : Type 0} (P Q : X → X → Type 0) → ((x y : X) → P x y → Q x y) → (xs : List X) → EachPair P xs → EachPair Q xs
EachPair-map P Q f [] e = tt
EachPair-map P Q f (x ∷ xs) e = (All-map (P x) (Q x) (f x) xs e.0, EachPair-map P Q f xs e.1)

pub EachPair-insert : {X : Type 0} (R : X → X → Type 0) (xs : List X) (a : X) (ys : List X) → EachPair R (xs ++ ys) → AllByRecursion (λ x. R x a) xs → AllByRecursion (R a) ys → EachPair R (xs ++ a ∷ ys)
EachPair-insert R [] a ys e before behind = (behind, e)
EachPair-insert R (x ∷ xs) a ys e before behind = (All-insert (R x) xs a ys before.0 e.0, EachPair-insert R xs a ys e.1 before.1 behind)

pub EachPair-remove : {X : Type 0} (R : X → X → Type 0) (xs : List X) (a : X) (ys : List X) → EachPair R (xs ++ a ∷ ys) → EachPair R (xs ++ ys)
EachPair-remove R [] a ys e = e.1
EachPair-remove R (x ∷ xs) a ys e = (All-remove (R x) xs a ys e.0, EachPair-remove R xs a ys e.1)

pub EachPair-before : {X : Type 0} (R : X → X → Type 0) (xs : List X) (a : X) (ys : List X) → EachPair R (xs ++ a ∷ ys) → AllByRecursion (λ x. R x a) xs
EachPair-before R [] a ys e = tt
EachPair-before R (x ∷ xs) a ys e = (All-middle (R x) xs a ys e.0, EachPair-before R xs a ys e.1)

pub EachPair-behind : {X : Type 0} (R : X → X → Type 0) (xs : List X) (a : X) (ys : List X) → EachPair R (xs ++ a ∷ ys) → AllByRecursion (R a) ys
EachPair-behind R [] a ys e = e.0
EachPair-behind R (x ∷ xs) a ys e = EachPair-behind R xs a ys e.1

pub any_none : {X : Type 0} (p : X → Bool) (xs : List X) → AllByRecursion (λ x. p x ≡ false) xs → list_any p xs ≡ false
any_none p [] all = refl
any_none p (x ∷ xs) all = rw (all.0) (any_none p xs all.1)

pub none_of_any : {X : Type 0} (p : X → Bool) (xs : List X) → list_any p xs ≡ false → AllByRecursion (λ x. p x ≡ false) xs
none_of_any p [] e = tt
none_of_any p (x ∷ xs) e = let parts = Rattle.std.proofs.lemmas.Bool.or_parts (p x) (list_any p xs) e in (parts.0, none_of_any p xs parts.1)

pub any_middle : {X : Type 0} (p : X → Bool) (xs : List X) (a : X) (ys : List X) → p a ≡ true → list_any p (xs ++ a ∷ ys) ≡ true
any_middle p [] a ys e = rw e
any_middle p (x ∷ xs) a ys e = Rattle.std.proofs.lemmas.Bool.or_right _ _ (any_middle p xs a ys e)

pub find_none : {X : Type 0} (p : X → Bool) (xs : List X) → AllByRecursion (λ x. p x ≡ false) xs → find p xs ≡ None
find_none p [] all = refl
find_none p (x ∷ xs) all = rw (all.0) (find_none p xs all.1)

pub none_of_find : {X : Type 0} (p : X → Bool) (xs : List X) → find p xs ≡ None → AllByRecursion (λ x. p x ≡ false) xs
none_of_find p [] e = tt
none_of_find {X} p (x ∷ xs) e =
    elim (p x) as (λ b. p x ≡ b → cond b (Some x) (find p xs) ≡ None → (p x ≡ false) × AllByRecursion (λ x. p x ≡ false) xs) [
      | true ↦ λ t n. cc
      | false ↦ λ f n. (f, none_of_find p xs n)
    ] refl e

pub find_middle : {X : Type 0} (p : X → Bool) (xs : List X) (a : X) (ys : List X) → AllByRecursion (λ x. p x ≡ false) xs → p a ≡ true → find p (xs ++ a ∷ ys) ≡ Some a
find_middle p [] a ys all e = rw e
find_middle p (x ∷ xs) a ys all e = rw (all.0) (find_middle p xs a ys all.1 e)

pub filter_none : {X : Type 0} (p : X → Bool) (xs : List X) → AllByRecursion (λ x. p x ≡ false) xs → filter (λ x. not (p x)) xs ≡ xs
filter_none p [] all = refl
filter_none p (x ∷ xs) all = rw (all.0) (ap (λ t. x ∷ t) (filter_none p xs all.1))

pub filter_middle : {X : Type 0} (p : X → Bool) (xs : List X) (a : X) (ys : List X) → AllByRecursion (λ x. p x ≡ false) xs → p a ≡ true → AllByRecursion (λ x. p x ≡ false) ys → filter (λ x. not (p x)) (xs ++ a ∷ ys) ≡ xs ++ ys
filter_middle p [] a ys all e behind = rw e (filter_none p ys behind)
filter_middle p (x ∷ xs) a ys all e behind = rw (all.0) (ap (λ t. x ∷ t) (filter_middle p xs a ys all.1 e behind))
