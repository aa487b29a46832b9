-- The first entry of rising hashes that passes a test.
use Rattle.std.proofs.Common.{◌≡◌, ◌⊎◌, inl, inr, ℕ, List, [], ◌∷◌, refl, sym, ◌∙◌, ap, subst, arith, true≢false}
use Rattle.std.specs.Prelude.{Bool, true, false, ◌&&◌, cond, Option, Some, None, find}
use Rattle.std.specs.List.{filter, All}
use Rattle.std.specs.List.Sorted.{IsStrictlySortedBy}
use Rattle.std.specs.Ordering.{is_eq, ordering_reverse}
use Rattle.std.specs.declared.cmp.Ordering.{Ordering}
use Rattle.std.specs.declared.cmp.Ordering.TheVariants.{Less}
use Rattle.std.specs.Map.{keys_of, lookup}
use Rattle.std.specs.BTreeMap.{is_at}
use Rattle.std.proofs.lemmas.Cmp.{tied_itself, nat_list_cmp_total}
use Rattle.std.proofs.lemmas.Option.{none-some, same_Some}
use Rattle.std.proofs.lemmas.List.Elements.{All-tail}
use Rattle.std.proofs.lemmas.Map.Keys.{sorted_tail}
use Rattle.std.proofs.lemmas.Map.Text.{is_eq-slice_cmp}
use Rattle.std.proofs.lemmas.Map.Views.{All-after_first}
use Rattle.std.proofs.lemmas.Slice.Eq.{bytes_eq-Decides}
use Rattle.cm_base.specs.declared.hash.Hash.{Hash}
use Rattle.cm_pkglib.specs.Counts.{hash_cmp}

abbrev Sizes : Type 0
Sizes = List (Hash × ℕ)

abbrev size_at : Hash → Sizes → Option ℕ
size_at hash sizes = lookup (is_at (hash_cmp hash)) sizes

pub same_hash : (a b : Hash) → a.0 ≡ b.0 → a ≡ b
same_hash a b same = ap (λ (bytes : List ℕ). let hash : Hash = record { 0 = bytes } in hash) same

-- what is found is the first entry, or is found behind it
found_at : (e : Hash × ℕ) (es : Sizes) (hash : Hash) (size : ℕ) → size_at hash (e ∷ es) ≡ Some size → ((e.0 ≡ hash) × (e.1 ≡ size)) ⊎ (size_at hash es ≡ Some size)
found_at e es hash size is = by (is_at (hash_cmp hash) e.0) refl is
  where
    by : (b : Bool) → is_at (hash_cmp hash) e.0 ≡ b → cond b (Some e.1) (size_at hash es) ≡ Some size → ((e.0 ≡ hash) × (e.1 ≡ size)) ⊎ (size_at hash es ≡ Some size)
    by true tie found =
        let first : Hash = e.0 in
        let same : hash.0 ≡ first.0 = (bytes_eq-Decides hash.0 first.0).0 (sym (is_eq-slice_cmp hash.0 first.0) ∙ tie) in
        inl (same_hash first hash (sym same), same_Some e.1 size found)
    by false apart found = inr found

-- what is found behind a hash is above it
above_first : (first : Hash) (es : Sizes) (hash : Hash) (size : ℕ) → All (λ (h : Hash). hash_cmp first h ≡ Less) (keys_of es) → size_at hash es ≡ Some size → hash_cmp first hash ≡ Less
above_first first [] hash size all is = absurd (none-some size is)
above_first first (e ∷ es) hash size all is = elim (found_at e es hash size is) [
  | inl here ↦ subst (λ (h : Hash). hash_cmp first h ≡ Less) here.0 (all 0 e.0 (omega arith))
  | inr behind ↦ above_first first es hash size (All-tail (λ (h : Hash). hash_cmp first h ≡ Less) e.0 (keys_of es) all) behind
]

behind_first : (e : Hash × ℕ) (es : Sizes) (hash : Hash) (size : ℕ) → IsStrictlySortedBy hash_cmp (keys_of (e ∷ es)) → size_at hash es ≡ Some size → hash_cmp e.0 hash ≡ Less
behind_first e es hash size sorted is = above_first e.0 es hash size (All-after_first hash_cmp e.0 (keys_of es) sorted) is

found_behind : (e : Hash × ℕ) (es : Sizes) (hash : Hash) (size : ℕ) → IsStrictlySortedBy hash_cmp (keys_of (e ∷ es)) → size_at hash es ≡ Some size → size_at hash (e ∷ es) ≡ Some size
found_behind e es hash size sorted is =
    let first : Hash = e.0 in
    let apart : is_at (hash_cmp hash) first ≡ false = ap is_eq (nat_list_cmp_total.antisymm hash.0 first.0 ∙ ap ordering_reverse (behind_first e es hash size sorted is)) in
    ap (λ (b : Bool). cond b (Some e.1) (size_at hash es)) apart ∙ is

-- the least entry that passes a test
pub record IsLeast (test : Hash → Bool) (sizes : Sizes) (e : Hash × ℕ) : Type 0 where
  pub passes : test e.0 ≡ true
  pub here : size_at e.0 sizes ≡ Some e.1
  pub least : (hash : Hash) (size : ℕ) → size_at hash sizes ≡ Some size → test hash ≡ true → (hash ≡ e.0) ⊎ (hash_cmp e.0 hash ≡ Less)

-- it, or none where no entry passes
abbrev pub IsLeastOrNone : (Hash → Bool) → Sizes → Option (Hash × ℕ) → Type 0
IsLeastOrNone test sizes None = (hash : Hash) (size : ℕ) → size_at hash sizes ≡ Some size → test hash ≡ false
IsLeastOrNone test sizes (Some e) = IsLeast test sizes e

module _ (test : Hash → Bool) (e : Hash × ℕ) (es : Sizes) (sorted : IsStrictlySortedBy hash_cmp (keys_of (e ∷ es))) where
  least_here : test e.0 ≡ true → IsLeast test (e ∷ es) e
  least_here passes = record {
    passes = passes;
    here = ap (λ (o : Ordering). cond (is_eq o) (Some e.1) (size_at e.0 es)) (tied_itself nat_list_cmp_total (let first : Hash = e.0 in first.0));
    least = λ hash size found other. elim (found_at e es hash size found) [ inl here ↦ inl (sym here.0) | inr behind ↦ inr (behind_first e es hash size sorted behind) ];
  }

  least_behind : test e.0 ≡ false → (o : Option (Hash × ℕ)) → IsLeastOrNone test es o → IsLeastOrNone test (e ∷ es) o
  least_behind fails None none = λ hash size found. elim (found_at e es hash size found) [ inl here ↦ subst (λ (h : Hash). test h ≡ false) here.0 fails | inr behind ↦ none hash size behind ]
  least_behind fails (Some x) first = record {
    passes = first.passes;
    here = found_behind e es x.0 x.1 sorted first.here;
    least = λ hash size found other. elim (found_at e es hash size found) [
      | inl here ↦ absurd (true≢false (sym other ∙ subst (λ (h : Hash). test h ≡ false) here.0 fails))
      | inr behind ↦ first.least hash size behind other
    ];
  }

-- the first entry that passes is the least
pub find-least : (test : Hash → Bool) (es : Sizes) → IsStrictlySortedBy hash_cmp (keys_of es) → IsLeastOrNone test es (find (λ (e : Hash × ℕ). test e.0) es)
find-least test [] sorted = λ hash size found. absurd (none-some size found)
find-least test (e ∷ es) sorted = by (test e.0) refl (find-least test es (sorted_tail hash_cmp e.0 (keys_of es) sorted))
  where
    by : (b : Bool) → test e.0 ≡ b → IsLeastOrNone test es (find (λ (x : Hash × ℕ). test x.0) es) → IsLeastOrNone test (e ∷ es) (cond b (Some e) (find (λ (x : Hash × ℕ). test x.0) es))
    by true passes rest = least_here test e es sorted passes
    by false fails rest = least_behind test e es sorted fails (find (λ (x : Hash × ℕ). test x.0) es) rest

-- the first that passes of those that another test leaves
pub find-filter : (p q : Hash → Bool) (es : Sizes) → find (λ (e : Hash × ℕ). p e.0) (filter (λ (e : Hash × ℕ). q e.0) es) ≡ find (λ (e : Hash × ℕ). q e.0 && p e.0) es
find-filter p q [] = refl
find-filter p q (e ∷ es) = by (q e.0) (find-filter p q es)
  where
    by : (b : Bool) → find (λ (x : Hash × ℕ). p x.0) (filter (λ (x : Hash × ℕ). q x.0) es) ≡ find (λ (x : Hash × ℕ). q x.0 && p x.0) es
        → find (λ (x : Hash × ℕ). p x.0) (cond b (e ∷ filter (λ (x : Hash × ℕ). q x.0) es) (filter (λ (x : Hash × ℕ). q x.0) es)) ≡ cond (b && p e.0) (Some e) (find (λ (x : Hash × ℕ). q x.0 && p x.0) es)
    by true rest = ap (λ (o : Option (Hash × ℕ)). cond (p e.0) (Some e) o) rest
    by false rest = rest
