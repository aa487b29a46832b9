-- The sizes of hashes, found one after another, and the least that is not sealed.
use Rattle.std.proofs.Common.{◌≡◌, ◌⊎◌, ℕ, ◌+◌, ◌<◌, Bool, true, false, true≢false, cond, take, get_or, List, [], ◌∷◌, ◌++◌, length, refl, sym, ◌∙◌, ap, subst}
use Rattle.std.specs.Prelude.{◌≢◌, ◌&&◌, ◌||◌, not, Option, None, Some, is_some, option_map, find, Contains}
use Rattle.std.specs.List.{AllByRecursion, filter, list_any}
use Rattle.std.specs.Ordering.{is_eq, is_lt}
use Rattle.std.specs.BTreeMap.{BTreeMap, get, IsOrdered}
use Rattle.std.specs.BTreeMap.Range.{range_contains, entries_between}
use Rattle.std.specs.Str.{bytes_eq}
use Rattle.std.specs.declared.cmp.Ordering.TheVariants.{Less}
use Rattle.std.specs.declared.ops.Bound.{Bound}
use Rattle.std.specs.declared.ops.Bound.TheVariants.{Unbounded}
use Rattle.std.proofs.lemmas.Option.{none-some, same_Some}
use Rattle.std.proofs.lemmas.Map.Text.{is_eq-slice_cmp}
use Rattle.std.proofs.lemmas.Slice.Eq.{bytes_eq-Decides}
use Rattle.cm_base.specs.declared.hash.Hash.{Hash}
use Rattle.cm_pkglib.specs.Counts.{hash_cmp}
use Rattle.cm_pkglib.specs.declared.counts.Seal.{Seal}
use Rattle.cm_tree.specs.declared.entry.Entry.{Entry}
use Rattle.cm_state.proofs.Lists.{and_left, and_right}
use Rattle.cm_state.proofs.Members.{first_member, later_member, each_member, any_member}
use Rattle.cm_contents.specs.Wants.{size_in, found_size, bound_above, is_hash_above, is_wanted, HasHashes, IsNextWanted}
use Rattle.cm_contents.proofs.Counted.{take_next}
use Rattle.cm_contents.proofs.Least.{same_hash, IsLeastOrNone, find-least, find-filter}

pub none_there : (o : Option ℕ) → is_some o ≡ false → o ≡ None
none_there None is = refl
none_there (Some size) is = absurd (true≢false is)

-- a hash is added that was not there
pub one_wanted : (old : Hash → Option ℕ) (entry : Entry) (other : Hash) (new : Option ℕ) → old entry.hash ≡ None → new ≡ cond (is_eq (hash_cmp entry.hash other)) (Some entry.size) (old other) → new ≡ found_size (old other) other (entry ∷ [])
one_wanted old entry other new none is = is ∙ ap (λ b. cond b (Some entry.size) (old other)) (is_eq-slice_cmp entry.hash.0 other.0) ∙ by (bytes_eq entry.hash.0 other.0) refl (old other) refl
  where
    by : (b : Bool) → bytes_eq entry.hash.0 other.0 ≡ b → (o : Option ℕ) → old other ≡ o → cond b (Some entry.size) o ≡ found_size o other (entry ∷ [])
    by true t None n = ap (λ b. option_map (λ (e : Entry). e.size) (cond b (Some entry) None)) (sym t)
    by true t (Some size) n =
        let same = (bytes_eq-Decides entry.hash.0 other.0).0 t in
        absurd (none-some size (sym (subst (λ (h : List ℕ). old (let x : Hash = record { 0 = h } in x) ≡ None) same none) ∙ n))
    by false f None n = ap (λ b. option_map (λ (e : Entry). e.size) (cond b (Some entry) None)) (sym f)
    by false f (Some size) n = refl

wanted_more : (hash : Hash) (xs ys : List Entry) → found_size (size_in hash xs) hash ys ≡ size_in hash (xs ++ ys)
wanted_more hash [] ys = refl
wanted_more hash (x ∷ xs) ys = by (bytes_eq x.hash.0 hash.0) (wanted_more hash xs ys)
  where
    by : (b : Bool) → found_size (size_in hash xs) hash ys ≡ size_in hash (xs ++ ys)
        → found_size (option_map (λ (e : Entry). e.size) (cond b (Some x) (find (λ (e : Entry). bytes_eq e.hash.0 hash.0) xs))) hash ys ≡ option_map (λ (e : Entry). e.size) (cond b (Some x) (find (λ (e : Entry). bytes_eq e.hash.0 hash.0) (xs ++ ys)))
    by true rest = refl
    by false rest = rest

pub wanted_next : (hash : Hash) (xs : List Entry) (i : ℕ) (x : Entry) → i < length xs → x ≡ get_or xs i x → found_size (size_in hash (take i xs)) hash (x ∷ []) ≡ size_in hash (take (i + 1) xs)
wanted_next hash xs i x lt is = wanted_more hash (take i xs) (x ∷ []) ∙ ap (λ ys. size_in hash ys) (take_next xs i x lt is)

-- an entry of a manifest with this hash and this size
pub record IsSizedIn (hash : Hash) (size : ℕ) (manifest : List Entry) : Type 0 where
  pub entry : Entry
  pub among : Contains manifest entry
  pub has_hash : entry.hash ≡ hash
  pub has_size : entry.size ≡ size

pub size_in_manifest : (hash : Hash) (size : ℕ) (manifest : List Entry) → size_in hash manifest ≡ Some size → IsSizedIn hash size manifest
size_in_manifest hash size [] is = absurd (none-some size is)
size_in_manifest hash size (x ∷ xs) is = by (bytes_eq x.hash.0 hash.0) refl is (size_in_manifest hash size xs)
  where
    by : (b : Bool) → bytes_eq x.hash.0 hash.0 ≡ b → option_map (λ (e : Entry). e.size) (cond b (Some x) (find (λ (e : Entry). bytes_eq e.hash.0 hash.0) xs)) ≡ Some size
        → (size_in hash xs ≡ Some size → IsSizedIn hash size xs) → IsSizedIn hash size (x ∷ xs)
    by true tie found rest = record { entry = x; among = first_member x xs; has_hash = same_hash x.hash hash ((bytes_eq-Decides x.hash.0 hash.0).0 tie); has_size = same_Some x.size size found }
    by false apart found rest =
        let behind = rest found in
        record { entry = behind.entry; among = later_member x xs behind.entry behind.among; has_hash = behind.has_hash; has_size = behind.has_size }

-- a hash that an entry has is found
sized : (hash : Hash) (es : List Entry) → list_any (λ (x : Entry). bytes_eq x.hash.0 hash.0) es ≡ true → (size : ℕ) × (size_in hash es ≡ Some size)
sized hash [] is = absurd (true≢false (sym is))
sized hash (x ∷ xs) is = by (bytes_eq x.hash.0 hash.0) is (sized hash xs)
  where
    by : (b : Bool) → (b || list_any (λ (e : Entry). bytes_eq e.hash.0 hash.0) xs) ≡ true → (list_any (λ (e : Entry). bytes_eq e.hash.0 hash.0) xs ≡ true → (size : ℕ) × (size_in hash xs ≡ Some size))
        → (size : ℕ) × (option_map (λ (e : Entry). e.size) (cond b (Some x) (find (λ (e : Entry). bytes_eq e.hash.0 hash.0) xs)) ≡ Some size)
    by true any rest = (x.size, refl)
    by false any rest = rest any

pub size_there : (entry : Entry) (manifest : List Entry) → Contains manifest entry → (size : ℕ) × (size_in entry.hash manifest ≡ Some size)
size_there entry manifest among = sized entry.hash manifest (any_member (λ (x : Entry). bytes_eq x.hash.0 entry.hash.0) manifest entry among ((bytes_eq-Decides entry.hash.0 entry.hash.0).1 refl))

pub size_in_manifest_none : (hash : Hash) (manifest : List Entry) → size_in hash manifest ≡ None → AllByRecursion (λ (entry : Entry). entry.hash ≢ hash) manifest
size_in_manifest_none hash manifest none = each_member (λ (entry : Entry). entry.hash ≢ hash) manifest apart
  where
    apart : (entry : Entry) → Contains manifest entry → entry.hash ≢ hash
    apart entry among same =
        let there = size_there entry manifest among in
        none-some there.0 (sym (subst (λ (h : Hash). size_in h manifest ≡ None) (sym same) none) ∙ there.1)

-- where nothing is found there are no hashes, and none is wanted
pub next-none : (seals : Hash → Option Seal) (manifest : List Entry) (after : Option Hash) → HasHashes None manifest → IsNextWanted seals manifest after None
next-none seals manifest after none = each_member (λ (entry : Entry). is_wanted seals after entry ≡ false) manifest (λ entry among. let there = size_there entry manifest among in absurd (none-some there.0 (none entry.hash ∙ there.1)))

not_some : {A : Type 0} (o : Option A) → not (is_some o) ≡ true → o ≡ None
not_some None is = refl
not_some (Some x) is = absurd (true≢false (sym is))

-- the least that is not sealed of the hashes above another
module _ (m : BTreeMap Hash ℕ) (seals : Hash → Option Seal) (after : Option Hash) (manifest : List Entry) (has : (hash : Hash) → get hash_cmp m hash ≡ size_in hash manifest) where
  next-least : (o : Option (Hash × ℕ)) → IsLeastOrNone (λ hash. is_hash_above after hash && not (is_some (seals hash))) m.entries o → IsNextWanted seals manifest after o
  next-least None none = each_member (λ (entry : Entry). is_wanted seals after entry ≡ false) manifest (λ entry among. let there = size_there entry manifest among in none entry.hash there.0 (has entry.hash ∙ there.1))
  next-least (Some next) first = record {
    sized = sym (has next.0) ∙ first.here;
    above = and_left (is_hash_above after next.0) (not (is_some (seals next.0))) first.passes;
    unsealed = not_some (seals next.0) (and_right (is_hash_above after next.0) (not (is_some (seals next.0))) first.passes);
    least = each_member (λ (entry : Entry). is_wanted seals after entry ≡ true → (entry.hash ≡ next.0) ⊎ (hash_cmp next.0 entry.hash ≡ Less)) manifest
        (λ entry among wanted. let there = size_there entry manifest among in first.least entry.hash there.0 (has entry.hash ∙ there.1) wanted);
  }

-- the hashes above another, as the test of a range
in_range : (after : Option Hash) (hash : Hash) → range_contains hash_cmp (bound_above after) Unbounded hash ≡ is_hash_above after hash
in_range None hash = refl
in_range (Some a) hash = by (is_lt (hash_cmp a hash))
  where
    by : (b : Bool) → (b && true) ≡ b
    by true = refl
    by false = refl

pub next-range : (m : BTreeMap Hash ℕ) (seals : Hash → Option Seal) (after : Option Hash) (from : Bound Hash) (kept : List (Hash × ℕ)) (next : Option (Hash × ℕ)) (manifest : List Entry)
    → IsOrdered hash_cmp m → from ≡ bound_above after → kept ≡ entries_between hash_cmp from Unbounded m.entries → next ≡ find (λ (e : Hash × ℕ). not (is_some (seals e.0))) kept
    → ((hash : Hash) → get hash_cmp m hash ≡ size_in hash manifest) → IsNextWanted seals manifest after next
next-range m seals after from kept next manifest ordered bound between found has =
    subst (IsNextWanted seals manifest after) (sym (found ∙ ap (λ (es : List (Hash × ℕ)). find (λ (e : Hash × ℕ). not (is_some (seals e.0))) es) above ∙ find-filter (λ hash. not (is_some (seals hash))) (is_hash_above after) m.entries))
    (next-least m seals after manifest has _ (find-least (λ hash. is_hash_above after hash && not (is_some (seals hash))) m.entries ordered))
  where
    above : kept ≡ filter (λ (e : Hash × ℕ). is_hash_above after e.0) m.entries
    above =
        let same : (λ (e : Hash × ℕ). range_contains hash_cmp (bound_above after) Unbounded e.0) ≡ (λ (e : Hash × ℕ). is_hash_above after e.0) = λ i e. in_range after e.0 i in
        between ∙ ap (λ (b : Bound Hash). entries_between hash_cmp b Unbounded m.entries) bound ∙ ap (λ (test : Hash × ℕ → Bool). filter test m.entries) same
