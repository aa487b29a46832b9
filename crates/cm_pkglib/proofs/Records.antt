-- The spellings of changes.
use Rattle.std.proofs.Common.{◌≡◌, ℕ, suc, zero, ◌+◌, ◌^◌, ◌<◌, ◌≤◌, Bool, true, false, cond, ◌&&◌, ◌==◌, eqb, leb, List, [], ◌∷◌, ◌++◌, length, take, drop, get_or, refl, ap, sym, ◌∙◌, subst, arith, Option, Some, None, append_assoc, length-append, take-append-drop, length-drop, length-take-le, IfSome}
use Rattle.std.proofs.lemmas.List.{drop-drop, nil_from_length}
use Rattle.std.specs.Int.{w32, w64, to_le_bytes, from_le_bytes}
use Rattle.std.proofs.lemmas.Bool.{and_parts, eqb-true, eq-eqb, leb-true, le-leb, cond_both}
use Rattle.std.proofs.lemmas.Nat.{from_le_bytes-to_le_bytes_4, from_le_bytes-to_le_bytes_8, le_bytes_4, le_bytes_8}
use Rattle.cm_base.specs.Names.{is_package_id, text_if}
use Rattle.cm_base.specs.declared.hash.Hash.{Hash}
use Rattle.cm_pkglib.specs.declared.change.Change.{Change}
use Rattle.cm_pkglib.specs.declared.change.Change.TheVariants.{Opened, Done, Dropped, Removed}
use Rattle.cm_pkglib.specs.Changes.{AreBytes, IsJob, IsVersion, IsChange, IsRecord, spelled, number_4, number_8, job_at, version_at, package_at, hash_at, opened, done, dropped, removed, read_opened, read_change}

-- a package id has eight bytes
id_length : (id : List ℕ) → is_package_id id ≡ true → length id ≡ 8
id_length id h = eqb-true (length id) 8 (and_parts _ _ (and_parts _ _ h).0).0

take_front : (n : ℕ) (xs ys : List ℕ) → length xs ≡ n → take n (xs ++ ys) ≡ xs
take_front zero [] ys e = refl
take_front (suc n) [] ys e = absurd (omega arith)
take_front zero (x ∷ xs) ys e = absurd (omega arith)
take_front (suc n) (x ∷ xs) ys e = ap (λ t. x ∷ t) (take_front n xs ys (omega arith))

drop_front : (n : ℕ) (xs ys : List ℕ) → length xs ≡ n → drop n (xs ++ ys) ≡ ys
drop_front zero [] ys e = refl
drop_front (suc n) [] ys e = absurd (omega arith)
drop_front zero (x ∷ xs) ys e = absurd (omega arith)
drop_front (suc n) (x ∷ xs) ys e = drop_front n xs ys (omega arith)

take_whole : (n : ℕ) (xs : List ℕ) → length xs ≡ n → take n xs ≡ xs
take_whole zero [] e = refl
take_whole (suc n) [] e = refl
take_whole zero (x ∷ xs) e = absurd (omega arith)
take_whole (suc n) (x ∷ xs) e = ap (λ t. x ∷ t) (take_whole n xs (omega arith))

-- a number that is at least 1 is taken
taken : (n : ℕ) → 1 ≤ n → cond (leb 1 n) (Some n) None ≡ Some n
taken n h = rw (le-leb 1 n h)

package_of_text : (at : ℕ) (fields id : List ℕ) → take 8 (drop at fields) ≡ id → is_package_id id ≡ true → package_at at fields ≡ Some id
unfolding package_at
package_of_text at fields id e h = rw (e, h)

opened_of : (a : Option ℕ) (b : Option (List ℕ)) (c : Option ℕ) (d e : ℕ) (f : Hash) (job : ℕ) (id : List ℕ) (version entries size : ℕ) (hash : Hash) → a ≡ Some job → b ≡ Some id → c ≡ Some version → d ≡ entries → e ≡ size → f ≡ hash → opened a b c d e f ≡ Some (Opened job id version entries size hash)
opened_of a b c d e f job id version entries size hash p q r s t u = rw (p, q, r, s, t, u)

read_tail : (id V E S H : List ℕ) → (((id ++ V) ++ E) ++ S) ++ H ≡ id ++ (V ++ (E ++ (S ++ H)))
read_tail id V E S H = simp append_assoc

-- the fields behind the number of a job
abbrev tail_of : List ℕ → ℕ → ℕ → ℕ → Hash → List ℕ
tail_of id version entries size hash = id ++ (to_le_bytes w32 version ++ (to_le_bytes w32 entries ++ (to_le_bytes w32 size ++ hash.0)))

abbrev fields_of : ℕ → List ℕ → ℕ → ℕ → ℕ → Hash → List ℕ
fields_of job id version entries size hash = to_le_bytes w64 job ++ tail_of id version entries size hash

spelled_opened : (job : ℕ) (id : List ℕ) (version entries size : ℕ) (hash : Hash) → spelled (Opened job id version entries size hash) ≡ 1 ∷ fields_of job id version entries size hash
spelled_opened job id version entries size hash = ap (λ t. 1 ∷ (to_le_bytes w64 job ++ t)) (read_tail id (to_le_bytes w32 version) (to_le_bytes w32 entries) (to_le_bytes w32 size) hash.0)

-- what stands behind the id
behind_id : (n : ℕ) (id rest : List ℕ) → length id ≡ 8 → drop (8 + n) (id ++ rest) ≡ drop n rest
behind_id n id rest l = sym (drop-drop n 8 (id ++ rest)) ∙ ap (λ t. drop n t) (drop_front 8 id rest l)

read_job : (job : ℕ) (rest : List ℕ) → IsJob job → job_at 0 (to_le_bytes w64 job ++ rest) ≡ Some job
read_job job rest h = ap (λ n. cond (leb 1 n) (Some n) None) (from_le_bytes-to_le_bytes_8 job h.1) ∙ taken job h.0

opened_read : (job : ℕ) (id : List ℕ) (version entries size : ℕ) (hash : Hash) → IsJob job → is_package_id id ≡ true → IsVersion version → entries < 2 ^ 32 → size < 2 ^ 32 → length hash.0 ≡ 32 → read_opened (fields_of job id version entries size hash) ≡ Some (Opened job id version entries size hash)
opened_read job id version entries size hash j p v e s h =
    let l = id_length id p in
    let rest = to_le_bytes w32 version ++ (to_le_bytes w32 entries ++ (to_le_bytes w32 size ++ hash.0)) in
    opened_of _ _ _ _ _ _ job id version entries size hash
    (read_job job (id ++ rest) j)
    (package_of_text 8 (fields_of job id version entries size hash) id (take_front 8 id rest l) p)
    (ap (λ n. cond (leb 1 n) (Some n) None) (ap (λ t. from_le_bytes w32 (take 4 t)) (behind_id 0 id rest l) ∙ from_le_bytes-to_le_bytes_4 version v.1) ∙ taken version v.0)
    (ap (λ t. from_le_bytes w32 (take 4 t)) (behind_id 4 id rest l) ∙ from_le_bytes-to_le_bytes_4 entries e)
    (ap (λ t. from_le_bytes w32 (take 4 t)) (behind_id 8 id rest l) ∙ from_le_bytes-to_le_bytes_4 size s)
    (ap (λ t. hash_of (take 32 t)) (behind_id 12 id rest l) ∙ ap hash_of (take_whole 32 hash.0 h))
  where
    hash_of : List ℕ → Hash
    hash_of digest = record { 0 = digest }

fields_length : (job : ℕ) (id : List ℕ) (version entries size : ℕ) (hash : Hash) → length id ≡ 8 → length hash.0 ≡ 32 → length (fields_of job id version entries size hash) ≡ 60
fields_length job id version entries size hash l h = omega (arith, length-append id (to_le_bytes w32 version ++ (to_le_bytes w32 entries ++ (to_le_bytes w32 size ++ hash.0))))

removed_length : (id : List ℕ) (version : ℕ) → length id ≡ 8 → length (id ++ to_le_bytes w32 version) ≡ 12
removed_length id version l = omega (arith, length-append id (to_le_bytes w32 version))

removed_of : (a : Option (List ℕ)) (b : Option ℕ) (id : List ℕ) (version : ℕ) → a ≡ Some id → b ≡ Some version → removed a b ≡ Some (Removed id version)
removed_of a b id version p q = rw (p, q)

pub read_spelled : (change : Change) → IsChange change → read_change (spelled change) ≡ Some change
read_spelled (Opened job id version entries size hash) h =
    let len : eqb (length (fields_of job id version entries size hash)) 60 ≡ true = eq-eqb _ 60 (fields_length job id version entries size hash (id_length id h.1) h.5) in
    ap read_change (spelled_opened job id version entries size hash) ∙ rw len (opened_read job id version entries size hash h.0 h.1 h.2 h.3 h.4 h.5)
read_spelled (Done job) h = ap done (read_job job [] h)
read_spelled (Dropped job) h = ap dropped (read_job job [] h)
read_spelled (Removed id version) h =
    let l = id_length id h.0 in
    let len : eqb (length (id ++ to_le_bytes w32 version)) 12 ≡ true = eq-eqb _ 12 (removed_length id version l) in
    rw len (removed_of _ _ id version
    (package_of_text 0 (id ++ to_le_bytes w32 version) id (take_front 8 id (to_le_bytes w32 version) l) h.0)
    (ap (λ n. cond (leb 1 n) (Some n) None) (ap (λ t. from_le_bytes w32 (take 4 t)) (behind_id 0 id (to_le_bytes w32 version) l) ∙ from_le_bytes-to_le_bytes_4 version h.1.1) ∙ taken version h.1.0))

bytes_drop : (n : ℕ) (xs : List ℕ) → AreBytes xs → AreBytes (drop n xs)
bytes_drop zero xs h = h
bytes_drop (suc n) [] h = h
bytes_drop (suc n) (x ∷ xs) h = bytes_drop n xs (λ i. h (suc i))

bytes_take : (n : ℕ) (xs : List ℕ) → AreBytes xs → AreBytes (take n xs)
bytes_take zero xs h i = omega arith
bytes_take (suc n) [] h i = omega arith
bytes_take (suc n) (x ∷ xs) h zero = h zero
bytes_take (suc n) (x ∷ xs) h (suc i) = bytes_take n xs (λ j. h (suc j)) i

number_fits_4 : (xs : List ℕ) → AreBytes xs → from_le_bytes w32 xs < 2 ^ 32
number_fits_4 xs h = omega (arith, h 0, h 1, h 2, h 3)

number_fits_8 : (xs : List ℕ) → AreBytes xs → from_le_bytes w64 xs < 2 ^ 64
number_fits_8 xs h = omega (arith, h 0, h 1, h 2, h 3, h 4, h 5, h 6, h 7)

taken_inv : (n m : ℕ) → cond (leb 1 n) (Some n) None ≡ Some m → (n ≡ m) × (1 ≤ m)
taken_inv n m =
    elim (leb 1 n) as (λ b. leb 1 n ≡ b → cond b (Some n) None ≡ Some m → (n ≡ m) × (1 ≤ m)) [
      | true ↦ λ t e. let s : n ≡ m = cc in (s, subst (λ k. 1 ≤ k) s (leb-true 1 n t))
      | false ↦ λ f e. cc
    ] refl

text_inv : (test : Bool) (text id : List ℕ) → text_if test text ≡ Some id → (test ≡ true) × (text ≡ id)
text_inv true text id e = (refl, cc)
text_inv false text id e = cc

-- a package id that is read
record HasPackage (at : ℕ) (fields id : List ℕ) : Type 0 where
  is : take 8 (drop at fields) ≡ id
  form : is_package_id id ≡ true

package_inv : (at : ℕ) (fields id : List ℕ) → package_at at fields ≡ Some id → HasPackage at fields id
unfolding package_at
package_inv at fields id e =
    let parts = text_inv (is_package_id (take 8 (drop at fields))) (take 8 (drop at fields)) id e in
    record { is = parts.1; form = subst (λ t. is_package_id t ≡ true) parts.1 parts.0 }

-- a job's number that is read
record HasJob (at : ℕ) (fields : List ℕ) (job : ℕ) : Type 0 where
  is : to_le_bytes w64 job ≡ take 8 (drop at fields)
  form : IsJob job

record HasVersion (at : ℕ) (fields : List ℕ) (version : ℕ) : Type 0 where
  is : to_le_bytes w32 version ≡ take 4 (drop at fields)
  form : IsVersion version

piece_length : (n at : ℕ) (xs : List ℕ) → at + n ≤ length xs → length (take n (drop at xs)) ≡ n
piece_length n at xs l = length-take-le n (drop at xs) (omega (arith, length-drop at xs))

number_is_8 : (at : ℕ) (fields : List ℕ) → AreBytes fields → at + 8 ≤ length fields → to_le_bytes w64 (number_8 at fields) ≡ take 8 (drop at fields)
number_is_8 at fields h l = le_bytes_8 (take 8 (drop at fields)) (number_8 at fields) (piece_length 8 at fields l) (bytes_take 8 _ (bytes_drop at fields h)) refl

number_is_4 : (at : ℕ) (fields : List ℕ) → AreBytes fields → at + 4 ≤ length fields → to_le_bytes w32 (number_4 at fields) ≡ take 4 (drop at fields)
number_is_4 at fields h l = le_bytes_4 (take 4 (drop at fields)) (number_4 at fields) (piece_length 4 at fields l) (bytes_take 4 _ (bytes_drop at fields h)) refl

number_below_4 : (at : ℕ) (fields : List ℕ) → AreBytes fields → number_4 at fields < 2 ^ 32
number_below_4 at fields h = number_fits_4 (take 4 (drop at fields)) (bytes_take 4 _ (bytes_drop at fields h))

job_inv : (at : ℕ) (fields : List ℕ) (job : ℕ) → AreBytes fields → at + 8 ≤ length fields → job_at at fields ≡ Some job → HasJob at fields job
job_inv at fields job h l e =
    let parts = taken_inv (number_8 at fields) job e in
    record {
      is = ap (λ n. to_le_bytes w64 n) (sym parts.0) ∙ number_is_8 at fields h l;
      form = (parts.1, subst (λ n. n < 2 ^ 64) parts.0 (number_fits_8 (take 8 (drop at fields)) (bytes_take 8 _ (bytes_drop at fields h))));
    }

version_inv : (at : ℕ) (fields : List ℕ) (version : ℕ) → AreBytes fields → at + 4 ≤ length fields → version_at at fields ≡ Some version → HasVersion at fields version
version_inv at fields version h l e =
    let parts = taken_inv (number_4 at fields) version e in
    record {
      is = ap (λ n. to_le_bytes w32 n) (sym parts.0) ∙ number_is_4 at fields h l;
      form = (parts.1, subst (λ n. n < 2 ^ 32) parts.0 (number_below_4 at fields h));
    }

-- the fields of an opening that is read
record HasOpened (a : Option ℕ) (b : Option (List ℕ)) (c : Option ℕ) (d e : ℕ) (f : Hash) (change : Change) : Type 0 where
  job : ℕ
  id : List ℕ
  version : ℕ
  is_job : a ≡ Some job
  is_id : b ≡ Some id
  is_version : c ≡ Some version
  is : Opened job id version d e f ≡ change

opened_inv : (a : Option ℕ) (b : Option (List ℕ)) (c : Option ℕ) (d e : ℕ) (f : Hash) (change : Change) → opened a b c d e f ≡ Some change → HasOpened a b c d e f change
opened_inv (Some job) (Some id) (Some version) d e f change h = record { job = job; id = id; version = version; is_job = refl; is_id = refl; is_version = refl; is = cc }
opened_inv (Some job) (Some id) None d e f change h = absurd (cc)
opened_inv (Some job) None c d e f change h = absurd (cc)
opened_inv None b c d e f change h = absurd (cc)

piece : (n a b : ℕ) (xs : List ℕ) → a + n ≡ b → drop a xs ≡ take n (drop a xs) ++ drop b xs
piece n a b xs e = sym (take-append-drop n (drop a xs)) ∙ ap (λ t. take n (drop a xs) ++ t) (drop-drop n a xs ∙ ap (λ m. drop m xs) e)

pieces : (fields : List ℕ) → length fields ≡ 60 → fields ≡ take 8 (drop 0 fields) ++ (take 8 (drop 8 fields) ++ (take 4 (drop 16 fields) ++ (take 4 (drop 20 fields) ++ (take 4 (drop 24 fields) ++ take 32 (drop 28 fields)))))
pieces fields l =
    let last : drop 28 fields ≡ take 32 (drop 28 fields) = sym (take_whole 32 (drop 28 fields) (omega (arith, length-drop 28 fields))) in
    piece 8 0 8 fields refl
    ∙ ap (λ t. take 8 (drop 0 fields) ++ t) (piece 8 8 16 fields refl
    ∙ ap (λ t. take 8 (drop 8 fields) ++ t) (piece 4 16 20 fields refl
    ∙ ap (λ t. take 4 (drop 16 fields) ++ t) (piece 4 20 24 fields refl
    ∙ ap (λ t. take 4 (drop 20 fields) ++ t) (piece 4 24 28 fields refl
    ∙ ap (λ t. take 4 (drop 24 fields) ++ t) last))))

opened_sound : (kind : ℕ) (fields : List ℕ) (change : Change) → AreBytes fields → (kind == 1 && length fields == 60) ≡ true → read_opened fields ≡ Some change → IsRecord change (kind ∷ fields)
opened_sound kind fields change h t e =
    let tests = and_parts _ _ t in
    let first : kind ≡ 1 = eqb-true kind 1 tests.0 in
    let long : length fields ≡ 60 = eqb-true (length fields) 60 tests.1 in
    let o = opened_inv (job_at 0 fields) (package_at 8 fields) (version_at 16 fields) (number_4 20 fields) (number_4 24 fields) (hash_at 28 fields) change e in
    let j = job_inv 0 fields o.job h (omega arith) o.is_job in
    let p = package_inv 8 fields o.id o.is_id in
    let v = version_inv 16 fields o.version h (omega arith) o.is_version in
    let digest : length (take 32 (drop 28 fields)) ≡ 32 = piece_length 32 28 fields (omega arith) in
    subst (λ c. IsRecord c (kind ∷ fields)) o.is (record {
      ranges = (j.form, p.form, v.form, number_below_4 20 fields h, number_below_4 24 fields h, digest);
      spelling =
          rw first (ap (λ t. 1 ∷ t) (pieces fields long ∙ sym (joined _ _ _ _ _ _ _ _ _ _ (take 32 (drop 28 fields)) j.is (sym p.is) v.is (number_is_4 20 fields h (omega arith)) (number_is_4 24 fields h (omega arith))))
          ∙ sym (spelled_opened o.job o.id o.version (number_4 20 fields) (number_4 24 fields) (hash_at 28 fields)));
    })
  where
    joined : (a a' b b' c c' d d' e e' f : List ℕ) → a ≡ a' → b ≡ b' → c ≡ c' → d ≡ d' → e ≡ e' → a ++ (b ++ (c ++ (d ++ (e ++ f)))) ≡ a' ++ (b' ++ (c' ++ (d' ++ (e' ++ f))))
    joined a a' b b' c c' d d' e e' f p q r s t = rw (p, q, r, s, t)

eight_whole : (fields : List ℕ) → length fields ≡ 8 → take 8 (drop 0 fields) ≡ fields
eight_whole fields l = take_whole 8 fields l

done_inv : (a : Option ℕ) (change : Change) → done a ≡ Some change → (job : ℕ) × (a ≡ Some job) × (Done job ≡ change)
done_inv (Some job) change h = (job, refl, cc)
done_inv None change h = absurd (cc)

dropped_inv : (a : Option ℕ) (change : Change) → dropped a ≡ Some change → (job : ℕ) × (a ≡ Some job) × (Dropped job ≡ change)
dropped_inv (Some job) change h = (job, refl, cc)
dropped_inv None change h = absurd (cc)

record HasRemoved (a : Option (List ℕ)) (b : Option ℕ) (change : Change) : Type 0 where
  id : List ℕ
  version : ℕ
  is_id : a ≡ Some id
  is_version : b ≡ Some version
  is : Removed id version ≡ change

removed_inv : (a : Option (List ℕ)) (b : Option ℕ) (change : Change) → removed a b ≡ Some change → HasRemoved a b change
removed_inv (Some id) (Some version) change h = record { id = id; version = version; is_id = refl; is_version = refl; is = cc }
removed_inv (Some id) None change h = absurd (cc)
removed_inv None b change h = absurd (cc)

done_sound : (kind : ℕ) (fields : List ℕ) (change : Change) → AreBytes fields → (kind == 2 && length fields == 8) ≡ true → done (job_at 0 fields) ≡ Some change → IsRecord change (kind ∷ fields)
done_sound kind fields change h t e =
    let tests = and_parts _ _ t in
    let first : kind ≡ 2 = eqb-true kind 2 tests.0 in
    let long : length fields ≡ 8 = eqb-true (length fields) 8 tests.1 in
    let o = done_inv (job_at 0 fields) change e in
    let j = job_inv 0 fields o.0 h (omega arith) o.1 in
    subst (λ c. IsRecord c (kind ∷ fields)) o.2 (record { ranges = j.form; spelling = rw first (ap (λ t. 2 ∷ t) (sym (j.is ∙ eight_whole fields long))) })

dropped_sound : (kind : ℕ) (fields : List ℕ) (change : Change) → AreBytes fields → (kind == 3 && length fields == 8) ≡ true → dropped (job_at 0 fields) ≡ Some change → IsRecord change (kind ∷ fields)
dropped_sound kind fields change h t e =
    let tests = and_parts _ _ t in
    let first : kind ≡ 3 = eqb-true kind 3 tests.0 in
    let long : length fields ≡ 8 = eqb-true (length fields) 8 tests.1 in
    let o = dropped_inv (job_at 0 fields) change e in
    let j = job_inv 0 fields o.0 h (omega arith) o.1 in
    subst (λ c. IsRecord c (kind ∷ fields)) o.2 (record { ranges = j.form; spelling = rw first (ap (λ t. 3 ∷ t) (sym (j.is ∙ eight_whole fields long))) })

removed_sound : (kind : ℕ) (fields : List ℕ) (change : Change) → AreBytes fields → (kind == 4 && length fields == 12) ≡ true → removed (package_at 0 fields) (version_at 8 fields) ≡ Some change → IsRecord change (kind ∷ fields)
removed_sound kind fields change h t e =
    let tests = and_parts _ _ t in
    let first : kind ≡ 4 = eqb-true kind 4 tests.0 in
    let long : length fields ≡ 12 = eqb-true (length fields) 12 tests.1 in
    let o = removed_inv (package_at 0 fields) (version_at 8 fields) change e in
    let p = package_inv 0 fields o.id o.is_id in
    let v = version_inv 8 fields o.version h (omega arith) o.is_version in
    let last : drop 8 fields ≡ take 4 (drop 8 fields) = sym (take_whole 4 (drop 8 fields) (omega (arith, length-drop 8 fields))) in
    let whole : fields ≡ take 8 (drop 0 fields) ++ take 4 (drop 8 fields) = piece 8 0 8 fields refl ∙ ap (λ t. take 8 (drop 0 fields) ++ t) last in
    let parts : take 8 (drop 0 fields) ++ take 4 (drop 8 fields) ≡ o.id ++ to_le_bytes w32 o.version = ap (λ t. t ++ take 4 (drop 8 fields)) p.is ∙ ap (λ t. o.id ++ t) (sym v.is) in
    subst (λ c. IsRecord c (kind ∷ fields)) o.is (record { ranges = (p.form, v.form); spelling = rw first (ap (λ t. 4 ∷ t) (whole ∙ parts)) })

pub read_sound : (bytes : List ℕ) (change : Change) → AreBytes bytes → read_change bytes ≡ Some change → IsRecord change bytes
read_sound [] change h e = absurd (cc)
read_sound (kind ∷ fields) change h e =
    let P : Option Change → Type 0 = λ o. o ≡ Some change → IsRecord change (kind ∷ fields) in
    let tail : AreBytes fields = λ i. h (suc i) in
    cond_both (kind == 1 && length fields == 60) (read_opened fields) _ P
    (λ t q. opened_sound kind fields change tail t q)
    (λ a. cond_both (kind == 2 && length fields == 8) (done (job_at 0 fields)) _ P
    (λ t q. done_sound kind fields change tail t q)
    (λ b. cond_both (kind == 3 && length fields == 8) (dropped (job_at 0 fields)) _ P
    (λ t q. dropped_sound kind fields change tail t q)
    (λ c. cond_both (kind == 4 && length fields == 12) (removed (package_at 0 fields) (version_at 8 fields)) None P
    (λ t q. removed_sound kind fields change tail t q)
    (λ d q. absurd (cc)))))
    e

pub record_read : (bytes : List ℕ) (change : Change) → IsRecord change bytes → read_change bytes ≡ Some change
record_read bytes change r = ap read_change r.spelling ∙ read_spelled change r.ranges

pub one_change : (a b : Change) (bytes : List ℕ) → IsRecord a bytes → IsRecord b bytes → a ≡ b
one_change a b bytes r s = let p = record_read bytes a r in let q = record_read bytes b s in cc

-- how long the record of a kind is
abbrev kind_length : ℕ → ℕ
kind_length kind = cond (eqb kind 1) 61 (cond (eqb kind 4) 13 9)

spelled_length : (change : Change) → IsChange change → length (spelled change) ≡ kind_length (get_or (spelled change) 0 0)
spelled_length (Opened job id version entries size hash) h =
    ap length (spelled_opened job id version entries size hash) ∙ ap (λ n. suc n) (fields_length job id version entries size hash (id_length id h.1) h.5)
spelled_length (Done job) h = refl
spelled_length (Dropped job) h = refl
spelled_length (Removed id version) h = ap (λ n. suc n) (removed_length id version (id_length id h.0))

front_kind : (change : Change) (more : List ℕ) → get_or (spelled change ++ more) 0 0 ≡ get_or (spelled change) 0 0
front_kind (Opened job id version entries size hash) more = refl
front_kind (Done job) more = refl
front_kind (Dropped job) more = refl
front_kind (Removed id version) more = refl

pub no_prefix : (a b : Change) (bytes more : List ℕ) → IsRecord a bytes → IsRecord b (bytes ++ more) → more ≡ []
no_prefix a b bytes more r s =
    let p : length bytes ≡ kind_length (get_or bytes 0 0) = subst (λ t. length t ≡ kind_length (get_or t 0 0)) (sym r.spelling) (spelled_length a r.ranges) in
    let q : length (bytes ++ more) ≡ kind_length (get_or (bytes ++ more) 0 0) = subst (λ t. length t ≡ kind_length (get_or t 0 0)) (sym s.spelling) (spelled_length b s.ranges) in
    let k : get_or (bytes ++ more) 0 0 ≡ get_or bytes 0 0 = subst (λ t. get_or (t ++ more) 0 0 ≡ get_or t 0 0) (sym r.spelling) (front_kind a more) in
    let same : length (bytes ++ more) ≡ length bytes = q ∙ ap kind_length k ∙ sym p in
    nil_from_length more (omega (arith, length-append bytes more))

pub found_record : (bytes : List ℕ) → AreBytes bytes → (o : Option Change) → o ≡ read_change bytes → IfSome o (λ change. IsRecord change bytes)
found_record bytes h None e = tt
found_record bytes h (Some change) e = read_sound bytes change h (sym e)
