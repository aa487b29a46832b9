-- The least place above another, step by step.
use Rattle.std.proofs.Common.{◌≡◌, ◌⊎◌, inl, inr, ⊎_elim, ℕ, zero, suc, ◌<◌, List, ◌∷◌, [], ◌++◌, get_or, refl, sym, ◌∙◌, ap, subst, arith}
use Rattle.std.specs.Prelude.{Bool, true, false, ◌&&◌, cond, if◌then◌else◌, Option, Some, None, is_some, slice_get}
use Rattle.std.specs.List.{filter, All}
use Rattle.std.specs.List.Sorted.{IsStrictlySortedBy}
use Rattle.std.specs.Ordering.{nat_cmp, is_lt, is_eq, is_gt, ordering_reverse}
use Rattle.std.specs.Cmp.Lexicographic.{slice_cmp}
use Rattle.std.specs.declared.cmp.Ordering.{Ordering}
use Rattle.std.specs.declared.cmp.Ordering.TheVariants.{Less, Equal, Greater}
use Rattle.std.specs.declared.ops.Bound.{Bound}
use Rattle.std.specs.declared.ops.Bound.TheVariants.{Unbounded}
use Rattle.std.specs.Map.{keys_of, lookup}
use Rattle.std.specs.Prelude.{Vec}
use Rattle.std.specs.declared.alloc.Global.{Global}
use Rattle.std.specs.BTreeMap.{BTreeMap, get, is_at, IsOrdered}
use Rattle.std.specs.BTreeMap.Range.{range_contains, entries_between}
use Rattle.std.proofs.lemmas.Bool.{false_from_ne_true}
use Rattle.std.proofs.lemmas.Cmp.{tied_itself}
use Rattle.std.proofs.lemmas.Option.{none-some, same_Some, slice_get-map, slice_get_within, get_or_from_slice_get}
use Rattle.std.proofs.lemmas.List.Elements.{All-tail}
use Rattle.std.proofs.lemmas.Map.Keys.{Less-from_sorted, sorted_tail}
use Rattle.std.proofs.lemmas.Map.Views.{All-after_first}
use Rattle.std.proofs.lemmas.Map.Lookups.{exact_bytes}
use Rattle.std.proofs.lemmas.Map.Entries.{length-keys_of}
use Rattle.cm_disk.specs.declared.calls.Slot.{Slot}
use Rattle.cm_disk.specs.Disk.{Files, is_above, IsNext}
use Rattle.cm_disk.specs.Rows.{IsStep, InRow, there_of}
use Rattle.cm_disk.specs.Slots.{file_of, stand_in, stand_of_option, bound_above}
use Rattle.cm_disk.proofs.Joined.{total_key, is_equal}
use Rattle.cm_disk.proofs.Rises.{less_is, above_above}

abbrev pub Slots : Type 0
Slots = BTreeMap (List ℕ) Slot

abbrev option_key : Option (List ℕ × Slot) → Option (List ℕ)
option_key None = None
option_key (Some e) = Some e.0

-- keys rise
pub rises : (m : Slots) → IsOrdered (slice_cmp nat_cmp) m → (i j : ℕ) (k l : List ℕ) (v w : Slot) → slice_get m.entries i ≡ Some (k, v) → slice_get m.entries j ≡ Some (l, w) → i < j → slice_cmp nat_cmp k l ≡ Less
rises m sorted i j k l v w at_i at_j lt =
    let key_i : get_or (keys_of m.entries) i k ≡ k = get_or_from_slice_get (keys_of m.entries) i k k (slice_get-map (λ (e : List ℕ × Slot). e.0) m.entries i ∙ ap (λ (o : Option (List ℕ × Slot)). option_key o) at_i) in
    let key_j : get_or (keys_of m.entries) j k ≡ l = get_or_from_slice_get (keys_of m.entries) j l k (slice_get-map (λ (e : List ℕ × Slot). e.0) m.entries j ∙ ap (λ (o : Option (List ℕ × Slot)). option_key o) at_j) in
    rw (← key_i, ← key_j) (Less-from_sorted (slice_cmp nat_cmp) (keys_of m.entries) i j k sorted lt (omega (arith, slice_get_within m.entries j (l, w) at_j, length-keys_of m.entries)))

-- the files that are kept
abbrev pub kept_in : Slots → Files
kept_in m q = (stand_in m q).now

-- the places above another, as the test of a range
contains : (at : Option (List ℕ)) (q : List ℕ) → range_contains (slice_cmp nat_cmp) (bound_above at) Unbounded q ≡ is_above at q
contains None q = refl
contains (Some a) q = by (is_lt (slice_cmp nat_cmp a q))
  where
    by : (b : Bool) → (b && true) ≡ b
    by true = refl
    by false = refl

is_some-file_of : (file : Option (Vec ℕ Global)) → is_some file ≡ is_some (file_of file)
is_some-file_of None = refl
is_some-file_of (Some bytes) = refl

same_or_less : (p q : List ℕ) (o : Ordering) → slice_cmp nat_cmp p q ≡ o → is_gt o ≡ false → (p ≡ q) ⊎ (slice_cmp nat_cmp p q ≡ Less)
same_or_less p q Less is le = inr is
same_or_less p q Equal is le = inl (exact_bytes p q is)
same_or_less p q Greater is le = absurd (cc)

above_from : (from : Option (List ℕ)) (place q : List ℕ) → is_above from place ≡ true → is_above (Some place) q ≡ true → is_above from q ≡ true
above_from None place q one two = refl
above_from (Some a) place q one two = above_above a place q one two

-- an entry is one of these
Has : List (List ℕ × Slot) → List ℕ → Slot → Type 0
Has [] q slot = ⊥
Has (e ∷ es) q slot = (e ≡ (q, slot)) ⊎ Has es q slot

has_all : (P : List ℕ → Type 0) (es : List (List ℕ × Slot)) (q : List ℕ) (slot : Slot) → All P (keys_of es) → Has es q slot → P q
unfolding Has
has_all P [] q slot all has = absurd has
has_all P (e ∷ es) q slot all (inl is) = subst (λ (x : List ℕ × Slot). P x.0) is (all 0 e.0 (omega arith))
has_all P (e ∷ es) q slot all (inr has) = has_all P es q slot (All-tail P e.0 (keys_of es) all) has

-- each entry is below those after it
AreRising : List (List ℕ × Slot) → Type 0
AreRising [] = Unit {0}
AreRising (e ∷ es) = ((q : List ℕ) (slot : Slot) → Has es q slot → slice_cmp nat_cmp e.0 q ≡ Less) × AreRising es

rising-sorted : (es : List (List ℕ × Slot)) → IsStrictlySortedBy (slice_cmp nat_cmp) (keys_of es) → AreRising es
unfolding AreRising
rising-sorted [] sorted = tt
rising-sorted (e ∷ es) sorted = (
  λ q slot has. has_all (λ p. slice_cmp nat_cmp e.0 p ≡ Less) es q slot (All-after_first (slice_cmp nat_cmp) e.0 (keys_of es) sorted) has,
  rising-sorted es (sorted_tail (slice_cmp nat_cmp) e.0 (keys_of es) sorted),
)

-- what a look-up finds is one of the entries, and what is one of them is found
has-lookup : (es : List (List ℕ × Slot)) (q : List ℕ) (slot : Slot) → lookup (is_at (slice_cmp nat_cmp q)) es ≡ Some slot → Has es q slot
unfolding Has
has-lookup [] q slot is = absurd (none-some slot is)
has-lookup (e ∷ es) q slot is = by (is_at (slice_cmp nat_cmp q) e.0) refl (has-lookup es q slot) is
  where
    by : (b : Bool) → is_at (slice_cmp nat_cmp q) e.0 ≡ b → (lookup (is_at (slice_cmp nat_cmp q)) es ≡ Some slot → Has es q slot) → cond b (Some e.1) (lookup (is_at (slice_cmp nat_cmp q)) es) ≡ Some slot
        → (e ≡ (q, slot)) ⊎ Has es q slot
    by true tie rest found =
        let key : q ≡ e.0 = exact_bytes q e.0 (is_equal _ tie) in
        let value : e.1 ≡ slot = same_Some e.1 slot found in
        inl (λ i. (sym key i, value i))
    by false apart rest found = inr (rest found)

lookup-has : (es : List (List ℕ × Slot)) (q : List ℕ) (slot : Slot) → AreRising es → Has es q slot → lookup (is_at (slice_cmp nat_cmp q)) es ≡ Some slot
unfolding Has AreRising
lookup-has [] q slot rising has = absurd has
lookup-has (e ∷ es) q slot rising (inl is) =
    subst (λ (x : List ℕ × Slot). lookup (is_at (slice_cmp nat_cmp q)) (x ∷ es) ≡ Some slot) (sym is) (ap (λ (o : Ordering). cond (is_eq o) (Some slot) (lookup (is_at (slice_cmp nat_cmp q)) es)) (tied_itself total_key q))
lookup-has (e ∷ es) q slot rising (inr has) =
    ap (λ (o : Ordering). cond (is_eq o) (Some e.1) (lookup (is_at (slice_cmp nat_cmp q)) es)) (total_key.antisymm q e.0 ∙ ap ordering_reverse (rising.0 q slot has)) ∙ lookup-has es q slot rising.1 has

module _ (test : List ℕ × Slot → Bool) where
  has-filter : (es : List (List ℕ × Slot)) (q : List ℕ) (slot : Slot) → Has es q slot → test (q, slot) ≡ true → Has (filter test es) q slot
  unfolding Has
  has-filter [] q slot has passes = absurd has
  has-filter (e ∷ es) q slot (inl is) passes = subst (λ (b : Bool). Has (cond b (e ∷ filter test es) (filter test es)) q slot) (sym (ap test is ∙ passes)) (inl is)
  has-filter (e ∷ es) q slot (inr has) passes = by (test e) (has-filter es q slot has passes)
    where
      by : (b : Bool) → Has (filter test es) q slot → Has (cond b (e ∷ filter test es) (filter test es)) q slot
      by true rest = inr rest
      by false rest = rest

  filter-has : (es : List (List ℕ × Slot)) (q : List ℕ) (slot : Slot) → Has (filter test es) q slot → (test (q, slot) ≡ true) × Has es q slot
  unfolding Has
  filter-has [] q slot has = absurd has
  filter-has (e ∷ es) q slot has = by (test e) refl (filter-has es q slot) has
    where
      by : (b : Bool) → test e ≡ b → (Has (filter test es) q slot → (test (q, slot) ≡ true) × Has es q slot) → Has (cond b (e ∷ filter test es) (filter test es)) q slot → (test (q, slot) ≡ true) × ((e ≡ (q, slot)) ⊎ Has es q slot)
      by true passes rest (inl is) = (ap test (sym is) ∙ passes, inl is)
      by true passes rest (inr found) = let r = rest found in (r.0, inr r.1)
      by false fails rest found = let r = rest found in (r.0, inr r.1)

  rising-filter : (es : List (List ℕ × Slot)) → AreRising es → AreRising (filter test es)
  unfolding AreRising
  rising-filter [] rising = tt
  rising-filter (e ∷ es) rising = by (test e) (rising-filter es rising.1)
    where
      by : (b : Bool) → AreRising (filter test es) → AreRising (cond b (e ∷ filter test es) (filter test es))
      by true rest = (λ q slot has. rising.0 q slot (filter-has es q slot has).1, rest)
      by false rest = rest

-- the least entry above a place
record IsFirst (m : Slots) (at : Option (List ℕ)) (e : List ℕ × Slot) : Type 0 where
  pub above : is_above at e.0 ≡ true
  pub here : get (slice_cmp nat_cmp) m e.0 ≡ Some e.1
  pub least : (q : List ℕ) → is_above at q ≡ true → is_some (kept_in m q) ≡ true → (e.0 ≡ q) ⊎ (is_above (Some e.0) q ≡ true)

-- all entries above a place, each the least above the one before it
Left : Slots → Option (List ℕ) → List (List ℕ × Slot) → Type 0
Left m at [] = (q : List ℕ) → is_above at q ≡ true → is_some (kept_in m q) ≡ false
Left m at (e ∷ es) = IsFirst m at e × Left m (Some e.0) es

entry_there : (o : Option Slot) → is_some (stand_of_option o).now ≡ true → (slot : Slot) × (o ≡ Some slot)
entry_there None there = absurd (cc)
entry_there (Some slot) there = (slot, refl)

-- no place is above itself
not_above : (p q : List ℕ) → p ≡ q → is_above (Some p) q ≡ true → ⊥
not_above p q same above =
    let tie : is_lt (slice_cmp nat_cmp p p) ≡ false = ap is_lt (tied_itself total_key p) in
    let less : is_lt (slice_cmp nat_cmp p p) ≡ true = subst (λ (x : List ℕ). is_lt (slice_cmp nat_cmp p x) ≡ true) (sym same) above in
    absurd (cc)

left_of : (m : Slots) (es : List (List ℕ × Slot)) (at : Option (List ℕ)) → AreRising es
    → ((q : List ℕ) (slot : Slot) → Has es q slot → (is_above at q ≡ true) × (get (slice_cmp nat_cmp) m q ≡ Some slot))
    → ((q : List ℕ) (slot : Slot) → is_above at q ≡ true → get (slice_cmp nat_cmp) m q ≡ Some slot → Has es q slot) → Left m at es
unfolding Has AreRising Left
left_of m [] at rising from all = λ q above. false_from_ne_true _ (λ there. let slot = entry_there (get (slice_cmp nat_cmp) m q) there in all q slot.0 above slot.1)
left_of m (e ∷ es) at rising from all = (
  record {
    above = first.0;
    here = first.1;
    least = λ q above there. let slot = entry_there (get (slice_cmp nat_cmp) m q) there in here_or_later q slot.0 (all q slot.0 above slot.1);
  },
  left_of m es (Some e.0) rising.1 (λ q slot has. (ap is_lt (rising.0 q slot has), (from q slot (inr has)).1)) (λ q slot above is. later q slot above (all q slot (above_from at e.0 q first.0 above) is)),
)
  where
    first : (is_above at e.0 ≡ true) × (get (slice_cmp nat_cmp) m e.0 ≡ Some e.1)
    first = from e.0 e.1 (inl refl)

    here_or_later : (q : List ℕ) (slot : Slot) → Has (e ∷ es) q slot → (e.0 ≡ q) ⊎ (is_above (Some e.0) q ≡ true)
    here_or_later q slot (inl is) = inl (ap (λ (x : List ℕ × Slot). x.0) is)
    here_or_later q slot (inr has) = inr (ap is_lt (rising.0 q slot has))

    later : (q : List ℕ) (slot : Slot) → is_above (Some e.0) q ≡ true → Has (e ∷ es) q slot → Has es q slot
    later q slot above (inl is) = absurd (not_above e.0 q (ap (λ (x : List ℕ × Slot). x.0) is) above)
    later q slot above (inr has) = has

-- a range from a place on has all entries above it
left-range : (m : Slots) (at : Option (List ℕ)) (r : List (List ℕ × Slot)) → IsOrdered (slice_cmp nat_cmp) m → r ≡ entries_between (slice_cmp nat_cmp) (bound_above at) Unbounded m.entries → Left m at r
left-range m at r sorted is = subst (Left m at) (sym is) (left_of m (filter test m.entries) at (rising-filter test m.entries rising) from all)
  where
    rising : AreRising m.entries
    rising = rising-sorted m.entries sorted

    test : List ℕ × Slot → Bool
    test e = range_contains (slice_cmp nat_cmp) (bound_above at) Unbounded e.0

    from : (q : List ℕ) (slot : Slot) → Has (filter test m.entries) q slot → (is_above at q ≡ true) × (get (slice_cmp nat_cmp) m q ≡ Some slot)
    from q slot has = let r = filter-has test m.entries q slot has in (sym (contains at q) ∙ r.0, lookup-has m.entries q slot rising r.1)

    all : (q : List ℕ) (slot : Slot) → is_above at q ≡ true → get (slice_cmp nat_cmp) m q ≡ Some slot → Has (filter test m.entries) q slot
    all q slot above found = has-filter test m.entries q slot (has-lookup m.entries q slot found) (contains at q ∙ above)

-- all places above one where a file is there, in order
pub Follows : Files → Option (List ℕ) → List (List ℕ) → Type 0
Follows files at [] = (q : List ℕ) → is_above at q ≡ true → is_some (files q) ≡ false
Follows files at (p ∷ ps) = IsStep files at p × Follows files (Some p) ps

-- a place without a file is passed
module _ (files : Files) (at : Option (List ℕ)) (p : List ℕ) (above : is_above at p ≡ true) (empty : is_some (files p) ≡ false)
    (least : (q : List ℕ) → is_above at q ≡ true → is_some (files q) ≡ true → (p ≡ q) ⊎ (is_above (Some p) q ≡ true)) where
  past : (q : List ℕ) → is_above at q ≡ true → is_some (files q) ≡ true → is_above (Some p) q ≡ true
  past q high there = ⊎_elim (λ here. absurd (clash here)) (λ more. more) (least q high there)
    where
      clash : p ≡ q → ⊥
      clash here = let f : is_some (files q) ≡ false = subst (λ (x : List ℕ). is_some (files x) ≡ false) here empty in absurd (cc)

  passed : (ps : List (List ℕ)) → Follows files (Some p) ps → Follows files at ps
  unfolding Follows
  passed [] none = λ q high. false_from_ne_true _ (λ there. let f : is_some (files q) ≡ false = none q (past q high there) in absurd (cc))
  passed (n ∷ ps) more = (
    record {
      above = above_from at p n above more.0.above;
      there = more.0.there;
      least = λ q high there. more.0.least q (past q high there) there;
    },
    more.1,
  )

first_step : (m : Slots) (at : Option (List ℕ)) (e : List ℕ × Slot) → IsFirst m at e → is_some (kept_in m e.0) ≡ true → IsStep (kept_in m) at e.0
first_step m at e first there = record {
  above = first.above;
  there = there;
  least = λ q above other. ⊎_elim (λ here. subst (λ (x : List ℕ). is_gt (slice_cmp nat_cmp e.0 x) ≡ false) here (ap is_gt (tied_itself total_key e.0))) (λ more. ap is_gt (less_is _ more)) (first.least q above other);
}

-- what is left of a walk, as places
follows-left : (m : Slots) (es : List (List ℕ × Slot)) (at : Option (List ℕ)) → Left m at es → Follows (kept_in m) at (there_of es)
unfolding Left Follows
follows-left m [] at left = left
follows-left m (e ∷ es) at left = by (is_some e.1.file) refl (follows-left m es (Some e.0) left.1)
  where
    there : is_some (kept_in m e.0) ≡ is_some e.1.file
    there = ap (λ (o : Option Slot). is_some (stand_of_option o).now) left.0.here ∙ sym (is_some-file_of e.1.file)

    by : (b : Bool) → is_some e.1.file ≡ b → Follows (kept_in m) (Some e.0) (there_of es) → Follows (kept_in m) at (if b then e.0 ∷ there_of es else there_of es)
    by true is rest = (first_step m at e left.0 (there ∙ is), rest)
    by false is rest = passed (kept_in m) at e.0 left.0.above (there ∙ is) left.0.least (there_of es) rest

-- a range from a place on has all places above it
pub follows-range : (m : Slots) (at : Option (List ℕ)) (r : List (List ℕ × Slot)) (from : Bound (List ℕ)) → IsOrdered (slice_cmp nat_cmp) m → from ≡ bound_above at → r ≡ entries_between (slice_cmp nat_cmp) from Unbounded m.entries
    → Follows (kept_in m) at (there_of r)
follows-range m at r from sorted bound is = follows-left m r at (left-range m at r sorted (is ∙ ap (λ (b : Bound (List ℕ)). entries_between (slice_cmp nat_cmp) b Unbounded m.entries) bound))

-- the first of them is the next of a walk
pub next-none : (files : Files) (at : Option (List ℕ)) → Follows files at [] → IsNext files at None
unfolding Follows
next-none files at none = record {
  there = λ q is. absurd (none-some q is);
  least = λ q above there. absurd (clash q (none q above) there);
}
  where
    clash : (q : List ℕ) → is_some (files q) ≡ false → is_some (files q) ≡ true → ⊥
    clash q f t = absurd (cc)

pub next-step : (files : Files) (at : Option (List ℕ)) (p : List ℕ) → IsStep files at p → IsNext files at (Some p)
next-step files at p step = record {
  there = λ q is. subst (λ (x : List ℕ). is_some (files x) ≡ true) (same_Some p q is) step.there;
  least = λ q above there. (p, refl, same_or_less p q (slice_cmp nat_cmp p q) refl (step.least q above there));
}

pub first-follows : (files : Files) (at : Option (List ℕ)) (p : List ℕ) (ps : List (List ℕ)) → Follows files at (p ∷ ps) → IsStep files at p
unfolding Follows
first-follows files at p ps more = more.0

step_at : (files : Files) (at : Option (List ℕ)) (ps : List (List ℕ)) → Follows files at ps → InRow files ps
unfolding Follows
step_at files at [] more i place next here behind = absurd (none-some place here)
step_at files at (p ∷ []) more zero place next here behind = absurd (none-some next behind)
step_at files at (p ∷ n ∷ ps) more zero place next here behind =
    subst (λ (x : List ℕ). IsStep files (Some place) x) (same_Some n next behind) (subst (λ (x : List ℕ). IsStep files (Some x) n) (same_Some p place here) more.1.0)
step_at files at (p ∷ ps) more (suc i) place next here behind = step_at files (Some p) ps more.1 i place next here behind

front_get : (front behind : List (List ℕ)) (i : ℕ) (x : List ℕ) → slice_get front i ≡ Some x → slice_get (front ++ behind) i ≡ Some x
front_get [] behind i x is = absurd (none-some x is)
front_get (p ∷ front) behind zero x is = is
front_get (p ∷ front) behind (suc i) x is = front_get front behind i x is

-- a front of them stands in a row
pub row-front : (files : Files) (at : Option (List ℕ)) (ps front behind : List (List ℕ)) → Follows files at ps → ps ≡ front ++ behind → InRow files front
row-front files at ps front behind follows is i place next here after =
    step_at files at (front ++ behind) (subst (Follows files at) is follows) i place next (front_get front behind i place here) (front_get front behind (suc i) next after)

pub row-none : (files : Files) → InRow files []
row-none files i place next here behind = absurd (none-some place here)

pub row-same : (files others : Files) (ps : List (List ℕ)) → ((q : List ℕ) → files q ≡ others q) → InRow files ps → InRow others ps
row-same files others ps same row =
    let one : files ≡ others = λ i q. same q i in
    subst (λ (f : Files). InRow f ps) one row
