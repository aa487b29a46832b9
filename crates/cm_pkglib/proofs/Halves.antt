-- What a search by halves finds among rows that rise.
use Rattle.std.proofs.Common.{◌≡◌, ℕ, suc, zero, ◌<◌, ◌≤◌, Bool, false, not, cond, List, [], ◌∷◌, ◌++◌, length, take, drop, get_or, refl, ap, sym, ◌∙◌, subst, arith, add-one, Result, Ok, Err, ◌⊎◌, inl, inr, take-append-drop, Option, Some, None, is_some, is_ok, set, option_map, IsOk}
use Rattle.std.specs.List.{AllByRecursion, AllWithin, HoldsAt, list_any, find, filter}
use Rattle.std.specs.List.Sorted.{IsBinarySearchResult, IsSearchInRange, IsSortedBy}
use Rattle.std.specs.Cmp.{IsTotalOrder}
use Rattle.std.specs.Ordering.{is_lt, is_eq, ordering_reverse}
use Rattle.std.specs.declared.cmp.Ordering.{Ordering}
use Rattle.std.specs.declared.cmp.Ordering.TheVariants.{Less, Equal, Greater}
use Rattle.std.proofs.lemmas.Cmp.{alike_right}
use Rattle.std.proofs.lemmas.List.Sorted.{searchable_from_sorted}
use Rattle.cm_pkglib.specs.Places.{EachPair, IsBetween, IsThere, IsGap, IsPlace}
use Rattle.cm_pkglib.proofs.Among.{All-map, All-append, All-front, All-back, EachPair-before, EachPair-behind, any_middle, any_none, find_middle, find_none, filter_middle}

pub within_take : {X : Type 0} (P : X → Type 0) (xs : List X) (at : ℕ) → at ≤ length xs → AllWithin P xs 0 at → AllByRecursion P (take at xs)
within_take P xs zero l h = tt
within_take P [] (suc n) l h = tt
within_take P (x ∷ xs) (suc n) l h = (h zero x (omega arith) (omega arith), within_take P xs n (omega arith) (λ k d a b. h (suc k) d (omega arith) (omega arith)))

within_drop_all : {X : Type 0} (P : X → Type 0) (xs : List X) → AllWithin P xs 0 (length xs) → AllByRecursion P xs
within_drop_all P [] h = tt
within_drop_all P (x ∷ xs) h = (h zero x (omega arith) (omega arith), within_drop_all P xs (λ k d a b. h (suc k) d (omega arith) (omega arith)))

pub within_drop : {X : Type 0} (P : X → Type 0) (xs : List X) (at : ℕ) → AllWithin P xs at (length xs) → AllByRecursion P (drop at xs)
within_drop P xs zero h = within_drop_all P xs h
within_drop P [] (suc n) h = tt
within_drop P (x ∷ xs) (suc n) h = within_drop P xs n (λ k d a b. h (suc k) d (omega arith) (omega arith))

-- the row at a place that is within
pub record IsRowAt {X : Type 0} (xs : List X) (at : ℕ) : Type 0 where
  pub row : X
  pub rest : drop at xs ≡ row ∷ drop (suc at) xs
  pub reads : (d : X) → get_or xs at d ≡ row

pub row_at : {X : Type 0} (xs : List X) (at : ℕ) → at < length xs → IsRowAt xs at
row_at [] at l = absurd (omega arith)
row_at (x ∷ xs) zero l = record { row = x; rest = refl; reads = λ d. refl }
row_at (x ∷ xs) (suc n) l = let r = row_at xs n (omega arith) in record { row = r.row; rest = r.rest; reads = r.reads }

-- an order that is one or the other way
reverse_less : (o : Ordering) → o ≡ Less → ordering_reverse o ≡ Greater
reverse_less o e = rw e

pub flip_less : {K : Type 0} {R : K → K → Ordering} (o : IsTotalOrder R) (a b : K) → R a b ≡ Less → R b a ≡ Greater
flip_less o a b e = o.antisymm b a ∙ reverse_less _ e

pub flip_greater : {K : Type 0} {R : K → K → Ordering} (o : IsTotalOrder R) (a b : K) → R a b ≡ Greater → R b a ≡ Less
flip_greater o a b e = o.antisymm b a ∙ rw e

-- rows that rise are sorted
rising_is_sorted : {X K : Type 0} (key : X → K) {R : K → K → Ordering} (o : IsTotalOrder R) (xs : List X) → EachPair (λ a b. R (key a) (key b) ≡ Less) xs → (k : ℕ) (d : X) → suc k < length xs → is_lt (R (key (get_or xs (suc k) d)) (key (get_or xs k d))) ≡ false
rising_is_sorted key o [] e k d l = absurd (omega arith)
rising_is_sorted key o (x ∷ []) e k d l = absurd (omega arith)
rising_is_sorted key o (x ∷ (y ∷ xs)) e zero d l = rw (flip_less o (key x) (key y) e.0.0)
rising_is_sorted key o (x ∷ (y ∷ xs)) e (suc k) d l = rising_is_sorted key o (y ∷ xs) e.1 k d (omega arith)

-- what is found stands between the others
pub there : {X K : Type 0} (key : X → K) {R : K → K → Ordering} (o : IsTotalOrder R) (k : K) (xs : List X) (at : ℕ) → EachPair (λ a b. R (key a) (key b) ≡ Less) xs → at < length xs → HoldsAt (λ x. R (key x) k ≡ Equal) xs at → IsThere (λ x. R (key x) k) xs at
there {X} {K} key {R} o k xs at rising l holds =
    let r = row_at xs at l in
    let split : take at xs ++ r.row ∷ drop (suc at) xs ≡ xs = ap (λ t. take at xs ++ t) (sym r.rest) ∙ take-append-drop at xs in
    let parts : EachPair (λ a b. R (key a) (key b) ≡ Less) (take at xs ++ r.row ∷ drop (suc at) xs) = subst (EachPair (λ a b. R (key a) (key b) ≡ Less)) (sym split) rising in
    let equal : R (key r.row) k ≡ Equal = subst (λ x. R (key x) k ≡ Equal) (r.reads r.row) (holds r.row) in
    record {
      within = l;
      row = r.row;
      equal = equal;
      rest = r.rest;
      between = record {
        before = All-map (λ x. R (key x) (key r.row) ≡ Less) (λ x. R (key x) k ≡ Less) (λ x h. sym (alike_right o (key r.row) k (key x) equal) ∙ h) _ (EachPair-before (λ a b. R (key a) (key b) ≡ Less) (take at xs) r.row (drop (suc at) xs) parts);
        behind = All-map (λ x. R (key r.row) (key x) ≡ Less) (λ x. R (key x) k ≡ Greater) (λ x h. flip_less o k (key x) (sym (o.congr (key r.row) k (key x) equal) ∙ h)) _ (EachPair-behind (λ a b. R (key a) (key b) ≡ Less) (take at xs) r.row (drop (suc at) xs) parts);
      };
    }

pub place_of : {X K : Type 0} (key : X → K) {R : K → K → Ordering} (o : IsTotalOrder R) (k : K) (xs : List X) (r : Result ℕ ℕ) → EachPair (λ a b. R (key a) (key b) ≡ Less) xs → IsSearchInRange r (length xs) → IsBinarySearchResult (λ x. R (key x) k) xs r → IsPlace (λ x. R (key x) k) xs r
place_of key o k xs (Ok at) rising l found = there key o k xs at rising l found
place_of {X} {K} key {R} o k xs (Err at) rising l found =
    let sorted : IsSortedBy (λ a b. is_lt (R (key a) (key b))) xs = λ i d low high. rw add-one (rising_is_sorted key o xs rising i d (rw add-one at high)) in
    let parts = found (searchable_from_sorted o key xs k sorted) in
    record { within = l; between = record { before = within_take (λ x. R (key x) k ≡ Less) xs at l parts.0; behind = within_drop (λ x. R (key x) k ≡ Greater) xs at parts.1 } }

-- rows that rise around what is sought
pub record IsSplit {X : Type 0} (ord : X → Ordering) (xs : List X) : Type 0 where
  pub front : List X
  pub back : List X
  pub is : xs ≡ front ++ back
  pub between : IsBetween ord front back

pub record IsSplitAt {X : Type 0} (ord : X → Ordering) (xs : List X) : Type 0 where
  pub front : List X
  pub row : X
  pub back : List X
  pub is : xs ≡ front ++ row ∷ back
  pub equal : ord row ≡ Equal
  pub between : IsBetween ord front back

pub splits : {X K : Type 0} (key : X → K) {R : K → K → Ordering} (o : IsTotalOrder R) (k : K) (xs : List X) → EachPair (λ a b. R (key a) (key b) ≡ Less) xs → IsSplit (λ x. R (key x) k) xs ⊎ IsSplitAt (λ x. R (key x) k) xs
splits key o k [] rising = inl (record { front = []; back = []; is = refl; between = record { before = tt; behind = tt } })
splits {X} {K} key {R} o k (x ∷ xs) rising =
    elim (R (key x) k) as (λ v. R (key x) k ≡ v → IsSplit (λ x. R (key x) k) (x ∷ xs) ⊎ IsSplitAt (λ x. R (key x) k) (x ∷ xs)) [
      | Less ↦ λ e. elim (splits key o k xs rising.1) [
        | inl s ↦ inl (record { front = x ∷ s.front; back = s.back; is = ap (λ t. x ∷ t) s.is; between = record { before = (e, s.between.before); behind = s.between.behind } })
        | inr s ↦ inr (record { front = x ∷ s.front; row = s.row; back = s.back; is = ap (λ t. x ∷ t) s.is; equal = s.equal; between = record { before = (e, s.between.before); behind = s.between.behind } })
      ]
      | Equal ↦ λ e. inr (record { front = []; row = x; back = xs; is = refl; equal = e; between = record { before = tt; behind = All-map (λ y. R (key x) (key y) ≡ Less) (λ y. R (key y) k ≡ Greater) (λ y h. flip_less o k (key y) (sym (o.congr (key x) k (key y) e) ∙ h)) xs rising.0 } })
      | Greater ↦ λ e. inl (record { front = []; back = x ∷ xs; is = refl; between = record { before = tt; behind = (e, All-map (λ y. R (key x) (key y) ≡ Less) (λ y. R (key y) k ≡ Greater) (λ y h. flip_less o k (key y) (o.trans k (key x) (key y) (flip_greater o (key x) k e) h)) xs rising.0) } })
    ] refl

abbrev pub split_of_gap : {X : Type 0} (ord : X → Ordering) (xs : List X) (at : ℕ) → IsGap ord xs at → IsSplit ord xs
split_of_gap ord xs at g = record { front = take at xs; back = drop at xs; is = sym (take-append-drop at xs); between = g.between }

abbrev pub split_of_there : {X : Type 0} (ord : X → Ordering) (xs : List X) (at : ℕ) → IsThere ord xs at → IsSplitAt ord xs
split_of_there ord xs at g = record { front = take at xs; row = g.row; back = drop (suc at) xs; is = sym (ap (λ t. take at xs ++ t) (sym g.rest) ∙ take-append-drop at xs); equal = g.equal; between = g.between }

-- a test that holds of what is sought alone
pub none_between : {X : Type 0} (p : X → Bool) (ord : X → Ordering) → ((x : X) → p x ≡ is_eq (ord x)) → (front back : List X) → IsBetween ord front back → AllByRecursion (λ x. p x ≡ false) (front ++ back)
none_between p ord same front back between =
    All-append (λ x. p x ≡ false) front back
    (All-map (λ x. ord x ≡ Less) (λ x. p x ≡ false) (λ x e. same x ∙ rw e) front between.before)
    (All-map (λ x. ord x ≡ Greater) (λ x. p x ≡ false) (λ x e. same x ∙ rw e) back between.behind)

pub any_place : {X : Type 0} (p : X → Bool) (ord : X → Ordering) → ((x : X) → p x ≡ is_eq (ord x)) → (xs : List X) (r : Result ℕ ℕ) → IsPlace ord xs r → list_any p xs ≡ is_ok r
any_place p ord same xs (Ok at) place =
    let s = split_of_there ord xs at place in
    rw (s.is) (any_middle p s.front s.row s.back (same s.row ∙ rw (s.equal)))
any_place p ord same xs (Err at) place =
    let s = split_of_gap ord xs at place in
    rw (s.is) (any_none p (s.front ++ s.back) (none_between p ord same s.front s.back s.between))

pub find_split_at : {X : Type 0} (p : X → Bool) (ord : X → Ordering) → ((x : X) → p x ≡ is_eq (ord x)) → (xs : List X) (s : IsSplitAt ord xs) → find p xs ≡ Some s.row
find_split_at p ord same xs s =
    rw (s.is) (find_middle p s.front s.row s.back (All-front (λ x. p x ≡ false) s.front s.back (none_between p ord same s.front s.back s.between)) (same s.row ∙ rw (s.equal)))

pub filter_split_at : {X : Type 0} (p : X → Bool) (ord : X → Ordering) → ((x : X) → p x ≡ is_eq (ord x)) → (xs : List X) (s : IsSplitAt ord xs) → filter (λ x. not (p x)) xs ≡ s.front ++ s.back
filter_split_at p ord same xs s =
    let none = none_between p ord same s.front s.back s.between in
    rw (s.is) (filter_middle p s.front s.row s.back (All-front (λ x. p x ≡ false) s.front s.back none) (same s.row ∙ rw (s.equal)) (All-back (λ x. p x ≡ false) s.front s.back none))

pub find_split : {X : Type 0} (p : X → Bool) (ord : X → Ordering) → ((x : X) → p x ≡ is_eq (ord x)) → (xs : List X) → IsSplit ord xs → find p xs ≡ None
find_split p ord same xs s = rw (s.is) (find_none p (s.front ++ s.back) (none_between p ord same s.front s.back s.between))

pub find_place : {X : Type 0} (p : X → Bool) (ord : X → Ordering) → ((x : X) → p x ≡ is_eq (ord x)) → (xs : List X) (r : Result ℕ ℕ) → IsPlace ord xs r → is_some (find p xs) ≡ is_ok r
find_place p ord same xs (Ok at) place = rw (find_split_at p ord same xs (split_of_there ord xs at place))
find_place p ord same xs (Err at) place = rw (find_split p ord same xs (split_of_gap ord xs at place))

-- the row read at a place
pub read_of_rest : {X : Type 0} (xs : List X) (at : ℕ) (row : X) (ys : List X) → drop at xs ≡ row ∷ ys → (d : X) → get_or xs at d ≡ row
read_of_rest [] zero row ys e d = cc
read_of_rest [] (suc n) row ys e d = cc
read_of_rest (x ∷ xs) zero row ys e d = cc
read_of_rest (x ∷ xs) (suc n) row ys e d = read_of_rest xs n row ys e d

pub set_of_rest : {X : Type 0} (xs : List X) (at : ℕ) (row : X) (ys : List X) (y : X) → drop at xs ≡ row ∷ ys → set xs at y ≡ take at xs ++ y ∷ ys
set_of_rest [] zero row ys y e = cc
set_of_rest [] (suc n) row ys y e = cc
set_of_rest (x ∷ xs) zero row ys y e = let same : xs ≡ ys = cc in ap (λ t. y ∷ t) same
set_of_rest (x ∷ xs) (suc n) row ys y e = ap (λ t. x ∷ t) (set_of_rest xs n row ys y e)

pub is_some_map : {X Y : Type 0} (f : X → Y) (o : Option X) → is_some (option_map f o) ≡ is_some o
is_some_map f None = refl
is_some_map f (Some x) = refl

pub row_found : {X : Type 0} (p : X → Bool) (ord : X → Ordering) → ((x : X) → p x ≡ is_eq (ord x)) → (xs : List X) (at : ℕ) (row : X) → IsThere ord xs at → row ≡ get_or xs at row → find p xs ≡ Some row
row_found p ord same xs at row place e = find_split_at p ord same xs (split_of_there ord xs at place) ∙ ap Some (sym (e ∙ read_of_rest xs at place.row _ place.rest row))

pub rest_found : {X : Type 0} (p : X → Bool) (ord : X → Ordering) → ((x : X) → p x ≡ is_eq (ord x)) → (xs : List X) (at : ℕ) → IsThere ord xs at → filter (λ x. not (p x)) xs ≡ take at xs ++ drop (suc at) xs
rest_found p ord same xs at place = filter_split_at p ord same xs (split_of_there ord xs at place)

-- what an insertion that succeeds makes
pub ok_items : {X T E : Type 0} (r : Result T E) → IsOk r → (xs ys zs : List X) → xs ≡ cond (is_ok r) ys zs → xs ≡ ys
ok_items (Ok x) ok xs ys zs e = e
ok_items (Err x) ok xs ys zs e = cc
