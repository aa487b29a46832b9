-- The numbers of first entries, found one after another.
use Rattle.std.proofs.Common.{◌≡◌, ℕ, ◌+◌, ◌<◌, Bool, true, false, cond, take, get_or, List, [], ◌∷◌, ◌++◌, length, refl, sym, ◌∙◌, ap, subst, arith}
use Rattle.std.specs.Prelude.{Option, None, Some, option_map}
use Rattle.std.specs.Ordering.{is_eq}
use Rattle.std.specs.Str.{bytes_eq}
use Rattle.std.proofs.lemmas.List.{length-take-le}
use Rattle.std.proofs.lemmas.Option.{none-some}
use Rattle.std.proofs.lemmas.Map.Text.{is_eq-slice_cmp}
use Rattle.std.proofs.lemmas.Slice.Eq.{bytes_eq-Decides}
use Rattle.cm_base.specs.declared.hash.Hash.{Hash}
use Rattle.cm_pkglib.specs.Counts.{hash_cmp}
use Rattle.cm_tree.specs.declared.entry.Entry.{Entry}
use Rattle.cm_contents.proofs.Counted.{take_next}
use Rattle.cm_intake.specs.Readings.{first_with}
use Rattle.cm_intake.specs.Firsts.{number_in, found_number, number_of, AreFirsts}
use Rattle.cm_intake.specs.declared.firsts.Firsts.{Firsts}

-- a hash is added that was not there
pub one_numbered : (old : Hash → Option ℕ) (number : ℕ) (entry : Entry) (other : Hash) (new : Option ℕ) → old entry.hash ≡ None → new ≡ cond (is_eq (hash_cmp entry.hash other)) (Some number) (old other)
    → new ≡ found_number (old other) other number (entry ∷ [])
one_numbered old number entry other new none is = is ∙ ap (λ (b : Bool). cond b (Some number) (old other)) (is_eq-slice_cmp entry.hash.0 other.0) ∙ by (bytes_eq entry.hash.0 other.0) refl (old other) refl
  where
    by : (b : Bool) → bytes_eq entry.hash.0 other.0 ≡ b → (o : Option ℕ) → old other ≡ o → cond b (Some number) o ≡ found_number o other number (entry ∷ [])
    by true same None _ = ap (λ (b : Bool). option_map (λ (x : ℕ × Entry). x.0) (cond b (Some (number, entry)) None)) (sym same)
    by true same (Some kept) there =
        let equal = (bytes_eq-Decides entry.hash.0 other.0).0 same in
        absurd (none-some kept (sym (subst (λ (h : List ℕ). old (let x : Hash = record { 0 = h } in x) ≡ None) equal none) ∙ there))
    by false apart None _ = ap (λ (b : Bool). option_map (λ (x : ℕ × Entry). x.0) (cond b (Some (number, entry)) None)) (sym apart)
    by false apart (Some kept) _ = refl

numbered_more : (hash : Hash) (n : ℕ) (xs ys : List Entry) → found_number (number_in hash n xs) hash (n + length xs) ys ≡ number_in hash n (xs ++ ys)
numbered_more hash n [] ys = ap (λ (m : ℕ). number_in hash m ys) (let same : n + 0 ≡ n = omega arith in same)
numbered_more hash n (x ∷ xs) ys = by (bytes_eq x.hash.0 hash.0) (numbered_more hash (n + 1) xs ys)
  where
    shifted : n + length (x ∷ xs) ≡ n + 1 + length xs
    shifted = omega arith

    by : (b : Bool) → found_number (number_in hash (n + 1) xs) hash (n + 1 + length xs) ys ≡ number_in hash (n + 1) (xs ++ ys)
        → found_number (option_map (λ (e : ℕ × Entry). e.0) (cond b (Some (n, x)) (first_with hash (n + 1) xs))) hash (n + length (x ∷ xs)) ys
        ≡ option_map (λ (e : ℕ × Entry). e.0) (cond b (Some (n, x)) (first_with hash (n + 1) (xs ++ ys)))
    by true behind = refl
    by false behind = ap (λ (m : ℕ). found_number (number_in hash (n + 1) xs) hash m ys) shifted ∙ behind

pub numbered_next : (hash : Hash) (xs : List Entry) (i : ℕ) (x : Entry) → i < length xs → x ≡ get_or xs i x → found_number (number_in hash 0 (take i xs)) hash i (x ∷ []) ≡ number_in hash 0 (take (i + 1) xs)
numbered_next hash xs i x lt is =
    ap (λ (m : ℕ). found_number (number_in hash 0 (take i xs)) hash m (x ∷ [])) long
    ∙ numbered_more hash 0 (take i xs) (x ∷ [])
    ∙ ap (λ (ys : List Entry). number_in hash 0 ys) (take_next xs i x lt is)
  where
    long : i ≡ 0 + length (take i xs)
    long = let whole : length (take i xs) ≡ i = length-take-le i xs (omega (arith, lt)) in omega (arith, whole)

-- what is kept of a hash that an entry has
pub number_of-first : (firsts : Firsts) (manifest : List Entry) (hash : Hash) (numbered : ℕ × Entry) → AreFirsts firsts manifest → first_with hash 0 manifest ≡ Some numbered → number_of firsts hash ≡ Some numbered.0
number_of-first firsts manifest hash numbered are found = are hash ∙ ap (λ (o : Option (ℕ × Entry)). option_map (λ (x : ℕ × Entry). x.0) o) found
