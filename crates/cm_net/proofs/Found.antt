-- What a search finds among entries in the order of their keys.
use Rattle.std.proofs.Common.{◌≡◌, ℕ, ◌+◌, ◌-◌, ◌<◌, Bool, true, false, leb, List, [], ◌∷◌, ◌++◌, length, get_or, fold, cond, refl, sym, ap, ◌∙◌, subst, arith, suc, zero, inl, inr, Ok, Err, Less, Equal, Greater, Ordering}
use Rattle.std.specs.Cmp.{IsTotalOrder}
use Rattle.std.specs.Cmp.Lexicographic.{slice_cmp}
use Rattle.std.specs.List.{AllWithin, HoldsAt}
use Rattle.std.specs.List.Sorted.{IsBinarySearchResult, IsNonDecreasingBy, IsSearchInRange, IsStrictlySortedBy}
use Rattle.std.specs.Ordering.{is_eq, is_lt, nat_cmp, ordering_index, ordering_reverse}
use Rattle.std.specs.Str.{bytes_eq}
use Rattle.std.proofs.Math.ListN.{get_or-map}
use Rattle.std.proofs.lemmas.Bool.{cases_lt, le-leb, lt-leb}
use Rattle.std.proofs.lemmas.Cmp.{nat_cmp_total, nat_list_cmp_total, nat_list_eq_equiv, ranked}
use Rattle.std.proofs.lemmas.List.{length-map}
use Rattle.std.proofs.lemmas.List.Sorted.{searchable_from_sorted}
use Rattle.std.proofs.lemmas.List.Sums.{fold-append}
use Rattle.std.proofs.lemmas.Map.Keys.{Less-from_sorted}
use Rattle.std.proofs.lemmas.Map.Text.{is_eq-slice_cmp}
use Rattle.std.proofs.lemmas.Slice.Eq.{bytes_eq-Decides}
use Rattle.cm_net.specs.declared.entry.Entry.{Entry}
use Rattle.cm_net.specs.Entries.{keys_in, last_groups}
use Rattle.cm_net.specs.Sites.{groups_of_site}
use Rattle.cm_net.specs.Spans.{groups_at}

module _ {K : Type 0} where
  pub last_groups-push : (test : K → Bool) (xs : List (Entry K)) (e : Entry K) → last_groups test (xs ++ e ∷ []) ≡ cond (test e.key) e.groups.items (last_groups test xs)
  last_groups-push test xs e = fold-append (λ (found : List ℕ) (entry : Entry K). cond (test entry.key) entry.groups.items found) [] xs (e ∷ [])

  -- no entry passes the test, and the last one that does is at some place
  abbrev last_from : (K → Bool) → List ℕ → List (Entry K) → List ℕ
  last_from test found entries = fold (λ found entry. cond (test entry.key) entry.groups.items found) found entries

  none_from : (test : K → Bool) (found : List ℕ) (es : List (Entry K)) → AllWithin (λ e. test e.key ≡ false) es 0 (length es) → last_from test found es ≡ found
  none_from test found [] none = refl
  none_from test found (e ∷ es) none = rw (none 0 e (omega arith) (omega arith)) (none_from test found es (λ k d from below. none (suc k) d (omega arith) (omega (arith, below))))

  found_from : (test : K → Bool) (found : List ℕ) (es : List (Entry K)) (i : ℕ) (d : Entry K) → i < length es → HoldsAt (λ e. test e.key ≡ true) es i → AllWithin (λ e. test e.key ≡ false) es (i + 1) (length es)
      → last_from test found es ≡ (get_or es i d).groups.items
  found_from test found [] i d within there none = absurd (omega (arith, within))
  found_from test found (e ∷ es) zero d within there none = rw (there e) (none_from test e.groups.items es (λ k f from below. none (suc k) f (omega arith) (omega (arith, below))))
  found_from test found (e ∷ es) (suc i) d within there none =
      found_from test (cond (test e.key) e.groups.items found) es i d (omega (arith, within)) (λ f. there f) (λ k f from below. none (suc k) f (omega (arith, from)) (omega (arith, below)))

module _ {K : Type 0} {R : K → K → Ordering} (o : IsTotalOrder R) where
  no_fall : (x y : K) → R x y ≡ Less → is_lt (R y x) ≡ false
  no_fall x y less = ap is_lt (o.antisymm y x ∙ ap ordering_reverse less)

  less_keys : (es : List (Entry K)) (i j : ℕ) (d : Entry K) → IsStrictlySortedBy R (keys_in es) → i < j → j < length es → R (get_or es i d).key (get_or es j d).key ≡ Less
  less_keys es i j d sorted low below =
      rw (get_or-map (λ (e : Entry K). e.key) es i d, get_or-map (λ (e : Entry K). e.key) es j d)
      at (Less-from_sorted R (keys_in es) i j d.key sorted low (omega (arith, below, length-map es (λ (e : Entry K). e.key))))

  searchable : (es : List (Entry K)) (key : K) → IsStrictlySortedBy R (keys_in es) → IsNonDecreasingBy (λ e. ordering_index (R e.key key)) es
  searchable es key sorted =
      searchable_from_sorted o (λ (e : Entry K). e.key) es key
      (λ k d from below. no_fall (get_or es k d).key (get_or es (k + 1) d).key (less_keys es k (k + 1) d sorted (omega arith) below))

module _ (es : List (Entry ℕ)) (address : ℕ) (sorted : IsStrictlySortedBy nat_cmp (keys_in es)) where
  begins : (key : ℕ) → nat_cmp key address ≡ Less → leb key address ≡ true
  begins key less = let low : key < address = ranked key address Less (sym less) in le-leb key address (omega (arith, low))

  ahead : (key : ℕ) → nat_cmp key address ≡ Greater → leb key address ≡ false
  ahead key greater = let high : address < key = ranked key address Greater (sym greater) in lt-leb key address high

  pub segment_there : (i : ℕ) (d : Entry ℕ) → IsSearchInRange (Ok i) (length es) → IsBinarySearchResult (λ e. nat_cmp e.key address) es (Ok i) → groups_at es address ≡ (get_or es i d).groups.items
  segment_there i d within there =
      let same : (f : Entry ℕ) → (get_or es i f).key ≡ address = λ f. ranked (get_or es i f).key address Equal (sym (there f)) in
      found_from (λ key. leb key address) [] es i d within
      (λ f. le-leb (get_or es i f).key address (omega (arith, same f)))
      (λ k f from below.
      let less : (get_or es i f).key < (get_or es k f).key = ranked (get_or es i f).key (get_or es k f).key Less (sym (less_keys nat_cmp_total es i k f sorted (omega (arith, from)) below)) in
      lt-leb (get_or es k f).key address (omega (arith, less, same f)))

  pub segment_before : IsBinarySearchResult (λ e. nat_cmp e.key address) es (Err 0) → groups_at es address ≡ []
  segment_before parted =
      none_from (λ key. leb key address) [] es (λ k d from below. ahead (get_or es k d).key ((parted (searchable nat_cmp_total es address sorted)).1 k d from below))

  pub segment_behind : (i : ℕ) (d : Entry ℕ) → 0 < i → IsSearchInRange (Err i) (length es) → IsBinarySearchResult (λ e. nat_cmp e.key address) es (Err i) → groups_at es address ≡ (get_or es (i - 1) d).groups.items
  segment_behind i d some within parted =
      let parts = parted (searchable nat_cmp_total es address sorted) in
      found_from (λ key. leb key address) [] es (i - 1) d (omega (arith, some, within))
      (λ f. begins (get_or es (i - 1) f).key (parts.0 (i - 1) f (omega arith) (omega (arith, some))))
      (λ k f from below. ahead (get_or es k f).key (parts.1 k f (omega (arith, from, some)) below))

module _ (es : List (Entry (List ℕ))) (name : List ℕ) (sorted : IsStrictlySortedBy (slice_cmp nat_cmp) (keys_in es)) where
  same_name : (key : List ℕ) → bytes_eq name key ≡ is_eq (slice_cmp nat_cmp key name)
  same_name key = nat_list_eq_equiv.symm name key ∙ sym (is_eq-slice_cmp key name)

  pub site_there : (i : ℕ) (d : Entry (List ℕ)) → IsSearchInRange (Ok i) (length es) → IsBinarySearchResult (λ e. slice_cmp nat_cmp e.key name) es (Ok i) → groups_of_site es name ≡ (get_or es i d).groups.items
  site_there i d within there =
      let is : (f : Entry (List ℕ)) → bytes_eq name (get_or es i f).key ≡ true = λ f. same_name (get_or es i f).key ∙ ap is_eq (there f) in
      found_from (bytes_eq name) [] es i d within is
      (λ k f from below.
      let less = less_keys nat_list_cmp_total es i k f sorted (omega (arith, from)) below in
      let behind = subst (λ (key : List ℕ). slice_cmp nat_cmp key (get_or es k f).key ≡ Less) (sym ((bytes_eq-Decides name (get_or es i f).key).0 (is f))) less in
      sym (is_eq-slice_cmp name (get_or es k f).key) ∙ ap is_eq behind)

  pub site_nowhere : (i : ℕ) → IsBinarySearchResult (λ e. slice_cmp nat_cmp e.key name) es (Err i) → groups_of_site es name ≡ []
  site_nowhere i parted =
      let parts = parted (searchable nat_list_cmp_total es name sorted) in
      none_from (bytes_eq name) [] es (λ k d from below. same_name (get_or es k d).key ∙ neither k d below parts)
    where
      neither : (k : ℕ) (d : Entry (List ℕ)) → k < length es → AllWithin (λ e. slice_cmp nat_cmp e.key name ≡ Less) es 0 i × AllWithin (λ e. slice_cmp nat_cmp e.key name ≡ Greater) es i (length es) → is_eq (slice_cmp nat_cmp (get_or es k d).key name) ≡ false
      neither k d below parts = elim (cases_lt k i) [
        | inl before ↦ ap is_eq (parts.0 k d (omega arith) before)
        | inr behind ↦ ap is_eq (parts.1 k d behind below)
      ]
