-- Counts and seals of hashes.
use Rattle.std.proofs.Common.{◌≡◌, ℕ, ◌+◌, ◌-◌, ◌<◌, ◌≤◌, Bool, true, false, cond, ◌==◌, List, [], ◌∷◌, ◌++◌, length, map, take, get_or, sum_by, refl, ap, sym, subst, ◌∙◌, arith, Option, None, Some, Result, Ok, Err, OnOk, OnErr}
use Rattle.std.specs.Ordering.{is_eq}
use Rattle.std.specs.Str.{bytes_eq}
use Rattle.std.proofs.lemmas.Bool.{and_parts, eqb-true}
use Rattle.std.proofs.lemmas.Cmp.{nat_list_eq_equiv}
use Rattle.std.proofs.lemmas.List.Sums.{count_by_more_yes, sum_by-take-le, sum_by-cons, sum_by-append}
use Rattle.std.proofs.lemmas.Map.Text.{is_eq-slice_cmp}
use Rattle.cm_base.specs.declared.hash.Hash.{Hash}
use Rattle.cm_tree.specs.declared.entry.Entry.{Entry}
use Rattle.cm_pkglib.specs.declared.counts.Seal.{Seal}
use Rattle.cm_pkglib.specs.declared.counts.Named.{Named}
use Rattle.std.specs.BTreeMap.{is_at}
use Rattle.std.specs.Map.{lookup}
use Rattle.cm_pkglib.specs.declared.counts.Counts.{Counts}
use Rattle.cm_pkglib.specs.Counts.{sealed_of, seals_in, seal_there, seal_at, hash_cmp, count_in, seal_in, seal_kept, times}

bytes_same : (xs ys : List ℕ) → bytes_eq xs ys ≡ true → xs ≡ ys
bytes_same [] [] e = refl
bytes_same [] (y ∷ ys) e = cc
bytes_same (x ∷ xs) [] e = cc
bytes_same (x ∷ xs) (y ∷ ys) e =
    let parts = and_parts _ _ e in
    let first : x ≡ y = eqb-true x y parts.0 in
    let rest = bytes_same xs ys parts.1 in
    cc

same_hash : (a b : Hash) → bytes_eq a.0 b.0 ≡ true → a ≡ b
same_hash a b e = let f : List ℕ → Hash = λ bytes. record { 0 = bytes } in ap f (bytes_same a.0 b.0 e)

-- what is named has a count
pub none_counted : (o : Option Named) → count_in o ≡ 0 → seal_in o ≡ None
none_counted None e = refl
none_counted (Some named) e = let some = named.some in absurd (omega arith)

pub seal_own : (o : Option Named) → seal_in o ≡ seal_kept (count_in o) (seal_in o)
seal_own o =
    elim (count_in o == 0) as (λ b. count_in o == 0 ≡ b → seal_in o ≡ cond b None (seal_in o)) [
      | true ↦ λ t. none_counted o (eqb-true (count_in o) 0 t)
      | false ↦ λ f. refl
    ] refl

pub seal_more : (count : ℕ) (seal : Option Seal) → 1 ≤ count → seal ≡ seal_kept count seal
seal_more count seal some =
    elim (count == 0) as (λ b. count == 0 ≡ b → seal ≡ cond b None seal) [
      | true ↦ λ t. let e = eqb-true count 0 t in absurd (omega arith)
      | false ↦ λ f. refl
    ] refl

pub seal_twice : (less more : ℕ) (seal : Option Seal) → less ≤ more → seal_kept less (seal_kept more seal) ≡ seal_kept less seal
seal_twice less more seal l =
    elim (more == 0) as (λ b. more == 0 ≡ b → seal_kept less (cond b None seal) ≡ seal_kept less seal) [
      | true ↦ λ t.
          let zero : less ≡ 0 = let e = eqb-true more 0 t in omega arith in
          rw zero
      | false ↦ λ f. refl
    ] refl

-- one hash has another entry
changed : {X : Type 0} (of : Option Named → X) (hash other : Hash) (old new entry : Option Named) → new ≡ cond (is_eq (hash_cmp hash other)) entry old → of new ≡ cond (bytes_eq hash.0 other.0) (of entry) (of old)
changed of hash other old new entry e =
    rw (e, is_eq-slice_cmp hash.0 other.0)
    (elim (bytes_eq hash.0 other.0) as (λ b. of (cond b entry old) ≡ cond b (of entry) (of old)) [ true ↦ refl | false ↦ refl ])

-- a fact on a hash and every other one
each_other : (P : Hash → Bool → Type 0) (hash other : Hash) → P hash true → P other false → P other (bytes_eq hash.0 other.0)
each_other P hash other here there =
    elim (bytes_eq hash.0 other.0) as (λ b. bytes_eq hash.0 other.0 ≡ b → P other b) [
      | true ↦ λ t. subst (λ h. P h true) (same_hash hash other t) here
      | false ↦ λ f. there
    ] refl

-- a hash that is named has an entry
pub is_there : (o : Option Named) → 1 ≤ count_in o → o ≡ None → ⊥
is_there o some e = let none : count_in o ≡ 0 = ap count_in e in omega arith

-- one count is raised
pub raised : (old : Hash → Option Named) (hash other : Hash) (new entry : Option Named) → count_in entry ≡ count_in (old hash) + 1 → new ≡ cond (is_eq (hash_cmp hash other)) entry (old other) → count_in new ≡ count_in (old other) + cond (bytes_eq hash.0 other.0) 1 0
raised old hash other new entry c e =
    changed count_in hash other (old other) new entry e
    ∙ each_other (λ h b. cond b (count_in entry) (count_in (old h)) ≡ count_in (old h) + cond b 1 0) hash other c (omega arith)

-- one count is lowered
pub lowered : (old : Hash → Option Named) (hash other : Hash) (new entry : Option Named) → count_in entry ≡ count_in (old hash) - 1 → new ≡ cond (is_eq (hash_cmp hash other)) entry (old other) → count_in new ≡ count_in (old other) - cond (bytes_eq hash.0 other.0) 1 0
lowered old hash other new entry c e =
    changed count_in hash other (old other) new entry e
    ∙ each_other (λ h b. cond b (count_in entry) (count_in (old h)) ≡ count_in (old h) - cond b 1 0) hash other c (omega arith)

-- the seals where one entry keeps its own
pub seals_stay : (old : Hash → Option Named) (hash other : Hash) (new entry : Option Named) → seal_in entry ≡ seal_in (old hash) → new ≡ cond (is_eq (hash_cmp hash other)) entry (old other) → seal_in new ≡ seal_in (old other)
seals_stay old hash other new entry s e =
    changed seal_in hash other (old other) new entry e
    ∙ each_other (λ h b. cond b (seal_in entry) (seal_in (old h)) ≡ seal_in (old h)) hash other s refl

-- the seals where one count falls
pub seals_fall : (old : Hash → Option Named) (hash other : Hash) (new entry : Option Named) → seal_in entry ≡ seal_kept (count_in entry) (seal_in (old hash)) → new ≡ cond (is_eq (hash_cmp hash other)) entry (old other) → seal_in new ≡ seal_kept (count_in new) (seal_in (old other))
seals_fall old hash other new entry s e =
    changed seal_in hash other (old other) new entry e
    ∙ each_other (λ h b. cond b (seal_in entry) (seal_in (old h)) ≡ seal_kept (cond b (count_in entry) (count_in (old h))) (seal_in (old h))) hash other s (seal_own (old other))
    ∙ ap (λ n. seal_kept n (seal_in (old other))) (sym (changed count_in hash other (old other) new entry e))

-- one hash is sealed, and its count stays
pub sealed_there : (old : Hash → Option Named) (hash other : Hash) (new entry : Option Named) (seal : Seal) → seal_in entry ≡ Some seal → new ≡ cond (is_eq (hash_cmp hash other)) entry (old other) → seal_in new ≡ cond (bytes_eq hash.0 other.0) (Some seal) (seal_in (old other))
sealed_there old hash other new entry seal s e =
    changed seal_in hash other (old other) new entry e
    ∙ ap (λ o. cond (bytes_eq hash.0 other.0) o (seal_in (old other))) s

pub counts_stay : (old : Hash → Option Named) (hash other : Hash) (new entry : Option Named) → count_in entry ≡ count_in (old hash) → new ≡ cond (is_eq (hash_cmp hash other)) entry (old other) → count_in new ≡ count_in (old other)
counts_stay old hash other new entry c e =
    changed count_in hash other (old other) new entry e
    ∙ each_other (λ h b. cond b (count_in entry) (count_in (old h)) ≡ count_in (old h)) hash other c refl

-- a manifest names the hash of an entry once more than the entries before it
pub times_here : (entries : List Entry) (i : ℕ) (entry : Entry) → i < length entries → entry ≡ get_or entries i entry → times entry.hash (take i entries) + 1 ≤ times entry.hash entries
times_here entries i entry l is =
    let here = subst (λ (x : Entry). bytes_eq x.hash.0 entry.hash.0 ≡ true) is (nat_list_eq_equiv.refl entry.hash.0) in
    let more = count_by_more_yes (λ (x : Entry). bytes_eq x.hash.0 entry.hash.0) entries i entry l here in
    let all = sum_by-take-le (λ (x : Entry). cond (bytes_eq x.hash.0 entry.hash.0) 1 0) entries (i + 1) in
    omega (arith, more, all)

pub ok_since : {T E : Type 0} (r : Result T E) (P Q : Type 0) → OnOk r P → OnErr r Q → (Q → ⊥) → P
ok_since (Ok x) P Q p q never = p
ok_since (Err x) P Q p q never = absurd (never q)

pub one_more : (hash : Hash) (entries : List Entry) (manifests : List (List Entry)) (old new : ℕ) → new ≡ old + times hash entries → old ≡ sum_by (times hash) manifests → new ≡ sum_by (times hash) (entries ∷ manifests)
one_more hash entries manifests old new e f = omega (arith, e, f, sum_by-cons (times hash) entries manifests)

pub one_less : (hash : Hash) (entries : List Entry) (front back : List (List Entry)) (old new : ℕ) → new ≡ old - times hash entries → old ≡ sum_by (times hash) (front ++ entries ∷ back) → new ≡ sum_by (times hash) (front ++ back)
one_less hash entries front back old new e f = omega (arith, e, f, sum_by-cons (times hash) entries back, sum_by-append (times hash) front (entries ∷ back), sum_by-append (times hash) front back)

pub on_ok : {T E : Type 0} (r : Result T E) (P Q : Type 0) → (P → Q) → OnOk r P → OnOk r Q
on_ok (Ok x) P Q f p = f p
on_ok (Err x) P Q f p = tt

-- a list of seals tells those of the counts
seal_listed : (hash : Hash) (es : List (Hash × Named)) → seal_there (lookup (is_at (hash_cmp hash)) (map (λ (e : Hash × Named). (e.0, e.1.sealed)) es)) ≡ seal_in (lookup (is_at (hash_cmp hash)) es)
seal_listed hash [] = refl
seal_listed hash (e ∷ es) = by (is_at (hash_cmp hash) e.0) (seal_listed hash es)
  where
    by : (b : Bool) → seal_there (lookup (is_at (hash_cmp hash)) (map (λ (e : Hash × Named). (e.0, e.1.sealed)) es)) ≡ seal_in (lookup (is_at (hash_cmp hash)) es)
        → seal_there (cond b (Some e.1.sealed) (lookup (is_at (hash_cmp hash)) (map (λ (e : Hash × Named). (e.0, e.1.sealed)) es))) ≡ seal_in (cond b (Some e.1) (lookup (is_at (hash_cmp hash)) es))
    by true rest = refl
    by false rest = rest

pub seals_are : (counts : Counts) → (let f : Hash → Option Seal = λ hash. sealed_of counts hash in f) ≡ (λ hash. seal_at (seals_in counts) hash)
seals_are counts = λ i hash. sym (seal_listed hash counts.hashes.entries) i
