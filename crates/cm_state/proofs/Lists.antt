-- Lists that are changed together.
use Rattle.std.proofs.Common.{◌≡◌, ℕ, suc, ◌+◌, ◌<◌, Bool, true, false, List, [], ◌∷◌, ◌++◌, length, take, drop, get_or, refl, sym, ◌∙◌, ap, subst, add-one}
use Rattle.std.specs.Prelude.{Option, None, Some, option_map, map, filter, find, cond, ◌&&◌}
use Rattle.std.specs.List.{AllByRecursion}
use Rattle.std.proofs.lemmas.Bool.{false≢true}
use Rattle.std.proofs.lemmas.List.{take-append-drop}
use Rattle.std.proofs.lemmas.Option.{same_Some, none-some}
use Rattle.std.proofs.Math.Seq.{take-suc, drop-cons}
use Rattle.cm_pkglib.proofs.Among.{All-append}

-- a choice of two values, seen by a function
pub over_cond : {A B : Type 0} (g : A → B) (b : Bool) (u v : A) → cond b (g u) (g v) ≡ g (cond b u v)
over_cond g true u v = refl
over_cond g false u v = refl

-- what one function gives, another takes back
pub map_back : {A B : Type 0} (f : A → B) (g : B → A) → ((a : A) → g (f a) ≡ a) → (xs : List A) → map g (map f xs) ≡ xs
map_back f g back [] = refl
map_back f g back (x ∷ xs) = ap (λ y. y ∷ map g (map f xs)) (back x) ∙ ap (λ ys. x ∷ ys) (map_back f g back xs)

-- two functions after one another
pub map_map : {A B C : Type 0} (f : A → B) (g : B → C) (xs : List A) → map g (map f xs) ≡ map (λ x. g (f x)) xs
map_map f g [] = refl
map_map f g (x ∷ xs) = ap (λ ys. g (f x) ∷ ys) (map_map f g xs)

-- two functions that agree on the list
pub map_same : {A B : Type 0} (f g : A → B) (xs : List A) → AllByRecursion (λ x. f x ≡ g x) xs → map f xs ≡ map g xs
map_same f g [] all = refl
map_same f g (x ∷ xs) all = ap (λ y. y ∷ map f xs) all.0 ∙ ap (λ ys. g x ∷ ys) (map_same f g xs all.1)

pub find_map : {A B : Type 0} (f : A → B) (p : A → Bool) (q : B → Bool) → ((a : A) → q (f a) ≡ p a) → (xs : List A) → find q (map f xs) ≡ option_map f (find p xs)
find_map f p q same [] = refl
find_map f p q same (x ∷ xs) =
    ap (λ b. cond b (Some (f x)) (find q (map f xs))) (same x)
    ∙ ap (λ o. cond (p x) (Some (f x)) o) (find_map f p q same xs)
    ∙ over_cond (λ o. option_map f o) (p x) (Some x) (find p xs)

pub filter_map : {A B : Type 0} (f : A → B) (p : A → Bool) (q : B → Bool) → ((a : A) → q (f a) ≡ p a) → (xs : List A) → filter q (map f xs) ≡ map f (filter p xs)
filter_map f p q same [] = refl
filter_map f p q same (x ∷ xs) =
    ap (λ b. cond b (f x ∷ filter q (map f xs)) (filter q (map f xs))) (same x)
    ∙ ap (λ ys. cond (p x) (f x ∷ ys) ys) (filter_map f p q same xs)
    ∙ over_cond (λ ys. map f ys) (p x) (x ∷ filter p xs) (filter p xs)

cond_kept : {A : Type 0} (P : A → Type 0) (b : Bool) (x : A) (xs : List A) → P x → AllByRecursion P xs → AllByRecursion P (cond b (x ∷ xs) xs)
cond_kept P true x xs p all = (p, all)
cond_kept P false x xs p all = all

pub all_filter : {A : Type 0} (P : A → Type 0) (p : A → Bool) (xs : List A) → AllByRecursion P xs → AllByRecursion P (filter p xs)
all_filter P p [] all = tt
all_filter P p (x ∷ xs) all = cond_kept P (p x) x (filter p xs) all.0 (all_filter P p xs all.1)

-- what a search finds
pub found_one : {A : Type 0} (P : A → Type 0) (p : A → Bool) (xs : List A) → AllByRecursion P xs → (x : A) → find p xs ≡ Some x → P x
found_one P p [] all x is = absurd (cc)
found_one P p (y ∷ ys) all x is = by (p y) is (λ rest. found_one P p ys all.1 x rest)
  where
    by : (b : Bool) → cond b (Some y) (find p ys) ≡ Some x → (find p ys ≡ Some x → P x) → P x
    by true e rest = subst P (same_Some y x e) all.0
    by false e rest = rest e

-- what one test passes and the other does not
pub find_none : {A : Type 0} (p : A → Bool) (xs : List A) → AllByRecursion (λ x. p x ≡ false) xs → find p xs ≡ None
find_none p [] all = refl
find_none p (x ∷ xs) all = ap (λ b. cond b (Some x) (find p xs)) all.0 ∙ find_none p xs all.1

pub find_last : {A : Type 0} (p : A → Bool) (xs : List A) (x : A) → AllByRecursion (λ x. p x ≡ false) xs → p x ≡ true → find p (xs ++ x ∷ []) ≡ Some x
find_last p [] x all is = ap (λ b. cond b (Some x) None) is
find_last p (y ∷ ys) x all is = ap (λ b. cond b (Some y) (find p (ys ++ x ∷ []))) all.0 ∙ find_last p ys x all.1 is

pub filter_all_last : {A : Type 0} (p : A → Bool) (xs : List A) (x : A) → AllByRecursion (λ x. p x ≡ true) xs → p x ≡ false → filter p (xs ++ x ∷ []) ≡ xs
filter_all_last p [] x all is = ap (λ b. cond b (x ∷ []) []) is
filter_all_last p (y ∷ ys) x all is = ap (λ b. cond b (y ∷ filter p (ys ++ x ∷ [])) (filter p (ys ++ x ∷ []))) all.0 ∙ ap (λ l. y ∷ l) (filter_all_last p ys x all.1 is)

-- what maps to nothing is nothing
pub no_some : {A B : Type 0} (f : A → B) (o : Option A) → option_map f o ≡ None → o ≡ None
no_some f None is = refl
no_some f (Some x) is = absurd (none-some (f x) (sym is))

-- two tests that both pass
pub and_left : (a b : Bool) → (a && b) ≡ true → a ≡ true
and_left true b is = refl
and_left false b is = is

pub and_right : (a b : Bool) → (a && b) ≡ true → b ≡ true
and_right true b is = is
and_right false b is = absurd (false≢true is)

-- a list at one of its places
pub split_at : {A : Type 0} (xs : List A) (i : ℕ) (x : A) → i < length xs → x ≡ get_or xs i x → xs ≡ take i xs ++ x ∷ drop (suc i) xs
split_at xs i x lt is =
    sym (take-append-drop i xs) ∙ ap (λ t. take i xs ++ t) (drop-cons xs i x lt) ∙ ap (λ y. take i xs ++ y ∷ drop (suc i) xs) (sym is)

-- one more of a list
pub all_next : {A : Type 0} (P : A → Type 0) (xs : List A) (i : ℕ) (x : A) → i < length xs → x ≡ get_or xs i x → AllByRecursion P (take i xs) → P x → AllByRecursion P (take (i + 1) xs)
all_next P xs i x lt is all p =
    subst (AllByRecursion P) (ap (λ y. take i xs ++ y ∷ []) is ∙ sym (take-suc xs i x lt) ∙ ap (λ n. take n xs) (sym (add-one i)))
    (All-append P (take i xs) (x ∷ []) all (p, tt))

-- what holds of each element that a list is made of
pub over_map : {A B : Type 0} (f : A → B) (P : B → Type 0) (xs : List A) → AllByRecursion (λ x. P (f x)) xs → AllByRecursion P (map f xs)
over_map f P [] all = tt
over_map f P (x ∷ xs) all = (all.0, over_map f P xs all.1)
