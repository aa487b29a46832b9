-- The laws of the grammar: what is read is spelled so, and what is spelled so is read.
use Rattle.std.proofs.Common.{◌≡◌, ℕ, zero, suc, ◌-◌, ◌^◌, ◌<◌, ◌≤◌, true, false, cond, not, ◌||◌, ltb, eqb, List, [], ◌∷◌, ◌++◌, map, length, get_or, Result, Ok, Err, refl, sym, ap, subst, ◌∙◌, append_assoc, arith}
use Rattle.std.specs.Str.{bytes_eq}
use Rattle.std.specs.List.{flat_map, AllByRecursion}
use Rattle.std.specs.Int.{w8, w32, to_le_bytes}
use Rattle.std.proofs.lemmas.Bool.{ltb-false, le-ltb, eqb-true, ne_eqb, not-false}
use Rattle.std.specs.Cmp.Lexicographic.{bytes_decides}
use Rattle.std.proofs.lemmas.List.{map-append, append-nil, nil_from_length}
use Rattle.std.proofs.lemmas.Bool.Decides.{nat_tests}
use Rattle.std.proofs.lemmas.List.Concat.{flat_map-cons}
use Rattle.std.proofs.lemmas.List.Elements.{All-from_recursion}
use Rattle.cm_tree.specs.declared.entry.Entry.{Entry}
use Rattle.cm_tree.specs.declared.tree_fault.TreeFault.{TreeFault}
use Rattle.cm_tree.specs.declared.tree_fault.TreeFault.TheVariants.{BadForm, BadPath, Unsorted, SamePath, TooManyFiles}
use Rattle.cm_tree.specs.Paths.{is_file_path, is_rising, is_apart, has_path, folded_path}
use Rattle.cm_tree.specs.Manifests.{magic, paths_of, entry_bytes, spelling, IsEntry, IsManifest, Spells}
use Rattle.cm_tree.specs.Reading.{◌>>=◌, number_at, bytes_at, text_at, row_at, is_behind, joined, entry_at, entries_at, magic_at, form_at, count_at, header_at, end_at, read_manifest}
use Rattle.cm_tree.proofs.Fields.{IsBytes, bind_ok, passed, held, ok_is, Takes, Takes-then, bytes_take, bytes_again, wide32, number_takes, number_again, byte_takes, byte_again}
use Rattle.cm_tree.proofs.EntriesLoop.{paths_of-push}
use Rattle.cm_tree.proofs.Rising.{rising_push, rising_front, rising_last, apart_push, apart_front, apart_last}

-- ---- a path behind its length

text_takes : (total : ℕ) (bytes text rest : List ℕ) → IsBytes bytes → text_at total bytes ≡ Ok (text, rest) → Takes bytes (length text ∷ text) rest
unfolding text_at
text_takes total bytes text rest fits e =
    let a = bind_ok (number_at w8 total bytes) (λ len. cond (eqb len.0 0 || ltb 240 len.0) (Err (BadForm (total - length bytes))) (bytes_at len.0 total len.1)) (text, rest) e in
    let n = a.0 in
    let g = passed (eqb n.0 0 || ltb 240 n.0) (BadForm (total - length bytes)) (bytes_at n.0 total n.1) (text, rest) a.2 in
    let first = byte_takes total bytes n.0 n.1 fits a.1 in
    let second = bytes_take n.0 total n.1 text rest first.rest_fits g.1 in
    let both = Takes-then bytes (n.0 ∷ []) n.1 text rest first second.0 in
    subst (λ (k : ℕ). Takes bytes (k ∷ text) rest) (sym second.1) both

text_again : (total : ℕ) (text rest : List ℕ) → 1 ≤ length text → length text ≤ 240 → text_at total (length text ∷ (text ++ rest)) ≡ Ok (text, rest)
unfolding text_at
text_again total text rest some few =
    let zero_no : eqb (length text) 0 ≡ false = ne_eqb (length text) 0 (λ z. omega arith) in
    let above_no : ltb 240 (length text) ≡ false = le-ltb _ _ few in
    rw (byte_again total (length text) (text ++ rest), zero_no, above_no) (bytes_again (length text) total text rest refl)

-- ---- the fields of an entry

abbrev row_bytes : List ℕ → ℕ → List ℕ → List ℕ
row_bytes path size hash = length path ∷ path ++ to_le_bytes w32 size ++ hash

row_takes : (total : ℕ) (bytes : List ℕ) (x : List ℕ × ℕ × List ℕ × List ℕ) → IsBytes bytes → row_at total bytes ≡ Ok x
    → Takes bytes (row_bytes x.0 x.1 x.2) x.3 × (x.1 < 2 ^ 32) × (length x.2 ≡ 32)
unfolding row_at
row_takes total bytes x fits e =
    let a = bind_ok (text_at total bytes) (λ path. number_at w32 total path.1 >>= λ size. bytes_at 32 total size.1 >>= λ hash. Ok (path.0, size.0, hash.0, hash.1)) x e in
    let b = bind_ok (number_at w32 total a.0.1) (λ size. bytes_at 32 total size.1 >>= λ hash. Ok (a.0.0, size.0, hash.0, hash.1)) x a.2 in
    let c = bind_ok (bytes_at 32 total b.0.1) (λ hash. Ok (a.0.0, b.0.0, hash.0, hash.1)) x b.2 in
    let t0 = text_takes total bytes a.0.0 a.0.1 fits a.1 in
    let t1 = number_takes w32 (2 ^ 32) wide32 total a.0.1 b.0.0 b.0.1 t0.rest_fits b.1 in
    let t2 = bytes_take 32 total b.0.1 c.0.0 c.0.1 t1.0.rest_fits c.1 in
    let e01 = Takes-then bytes (length a.0.0 ∷ a.0.0) a.0.1 (to_le_bytes w32 b.0.0) b.0.1 t0 t1.0 in
    let e02 = Takes-then bytes ((length a.0.0 ∷ a.0.0) ++ to_le_bytes w32 b.0.0) b.0.1 c.0.0 c.0.1 e01 t2.0 in
    subst (λ (y : List ℕ × ℕ × List ℕ × List ℕ). Takes bytes (row_bytes y.0 y.1 y.2) y.3 × (y.1 < 2 ^ 32) × (length y.2 ≡ 32)) (ok_is (a.0.0, b.0.0, c.0.0, c.0.1) x c.2) (e02, t1.1, t2.1)

row_again : (total : ℕ) (path : List ℕ) (size : ℕ) (hash rest : List ℕ) → 1 ≤ length path → length path ≤ 240 → size < 2 ^ 32 → length hash ≡ 32
    → row_at total (row_bytes path size hash ++ rest) ≡ Ok (path, size, hash, rest)
unfolding row_at
row_again total path size hash rest some few lt len =
    let regrouped : row_bytes path size hash ++ rest ≡ length path ∷ (path ++ (to_le_bytes w32 size ++ (hash ++ rest))) =
    append_assoc ((length path ∷ path) ++ to_le_bytes w32 size) hash rest ∙ append_assoc (length path ∷ path) (to_le_bytes w32 size) (hash ++ rest) in
    ap (row_at total) regrouped
    ∙ rw (text_again total path (to_le_bytes w32 size ++ (hash ++ rest)) some few, number_again w32 (2 ^ 32) wide32 total size (hash ++ rest) lt, bytes_again 32 total hash rest len) refl

pub is_entry_at : (entries : List Entry) → IsManifest entries → (k : ℕ) (d : Entry) → k < length entries → IsEntry (get_or entries k d)
is_entry_at entries h k d lt = All-from_recursion IsEntry entries h.each k d lt

-- ---- an entry behind those before it

-- what an entry needs behind those before it
pub record Joins (before : List Entry) (e : Entry) : Type 0 where
  pub entry : IsEntry e
  pub behind : is_behind (paths_of before) e.path ≡ true
  pub fresh : has_path (map folded_path (paths_of before)) (folded_path e.path) ≡ false

abbrev entry_made : List ℕ → ℕ → List ℕ → Entry
entry_made path size hash = record { path = path; size = size; hash = record { 0 = hash } }

joined_is : (before : List Entry) (path : List ℕ) (size : ℕ) (hash : List ℕ) (e : Entry) → size < 2 ^ 32 → length hash ≡ 32 → joined before path size hash ≡ Ok e
    → (entry_made path size hash ≡ e) × Joins before (entry_made path size hash)
unfolding joined
joined_is before path size hash e lt len h =
    let n = length before in
    let made = entry_made path size hash in
    let rest2 = cond (has_path (map folded_path (paths_of before)) (folded_path path)) (Err (SamePath n)) (Ok made) in
    let rest1 = cond (not (is_behind (paths_of before) path)) (Err (Unsorted n)) rest2 in
    let a = passed (not (is_file_path path)) (BadPath n) rest1 e h in
    let b = passed (not (is_behind (paths_of before) path)) (Unsorted n) rest2 e a.1 in
    let c = passed (has_path (map folded_path (paths_of before)) (folded_path path)) (SamePath n) (Ok made) e b.1 in
    (ok_is made e c.1, record { entry = record { path = not-false _ a.0; size = lt; hash = len }; behind = not-false _ b.0; fresh = c.0 })

joined_again : (before : List Entry) (e : Entry) → Joins before e → joined before e.path e.size e.hash.0 ≡ Ok e
unfolding joined
joined_again before e h =
    let path : is_file_path e.path ≡ true = h.entry.path in
    let behind : is_behind (paths_of before) e.path ≡ true = h.behind in
    let fresh : has_path (map folded_path (paths_of before)) (folded_path e.path) ≡ false = h.fresh in
    rw (path, behind, fresh) refl

entry_takes : (total : ℕ) (before : List Entry) (bytes : List ℕ) (x : Entry × List ℕ) → IsBytes bytes → entry_at before total bytes ≡ Ok x → Takes bytes (entry_bytes x.0) x.1 × Joins before x.0
unfolding entry_at
entry_takes total before bytes x fits h =
    let a = bind_ok (row_at total bytes) (λ row. joined before row.0 row.1 row.2 >>= λ entry. Ok (entry, row.3)) x h in
    let b = bind_ok (joined before a.0.0 a.0.1 a.0.2) (λ entry. Ok (entry, a.0.3)) x a.2 in
    let t = row_takes total bytes a.0 fits a.1 in
    let j = joined_is before a.0.0 a.0.1 a.0.2 b.0 t.1 t.2 b.1 in
    let made : Takes bytes (entry_bytes b.0) a.0.3 × Joins before b.0 = subst (λ (e : Entry). Takes bytes (entry_bytes e) a.0.3 × Joins before e) j.0 (t.0, j.1) in
    subst (λ (y : Entry × List ℕ). Takes bytes (entry_bytes y.0) y.1 × Joins before y.0) (ok_is (b.0, a.0.3) x b.2) made

path_some : (path : List ℕ) → is_file_path path ≡ true → (1 ≤ length path) × (length path ≤ 240)
path_some path h = grind (arith, nat_tests)

entry_again : (total : ℕ) (before : List Entry) (e : Entry) (rest : List ℕ) → Joins before e → entry_at before total (entry_bytes e ++ rest) ≡ Ok (e, rest)
unfolding entry_at
entry_again total before e rest h =
    let some = path_some e.path h.entry.path in
    rw (row_again total e.path e.size e.hash.0 rest some.0 some.1 h.entry.size h.entry.hash, joined_again before e h) refl

-- ---- entries behind those before them

-- each joins those before it
abbrev pub AllJoin : List Entry → List Entry → Type 0
AllJoin before [] = Unit {0}
AllJoin before (e ∷ es) = Joins before e × AllJoin (before ++ e ∷ []) es

entries_take : (count total : ℕ) (before : List Entry) (bytes : List ℕ) (x : List Entry × List ℕ) → IsBytes bytes → entries_at count total before bytes ≡ Ok x
    → (es : List Entry) × (x.0 ≡ before ++ es) × (length es ≡ count) × AllJoin before es × Takes bytes (flat_map entry_bytes es) x.1
unfolding entries_at
entries_take zero total before bytes x fits h =
    let e = ok_is (before, bytes) x h in
    ([], sym (ap (λ (p : List Entry × List ℕ). p.0) e) ∙ sym (append-nil before), refl, tt, subst (λ (r : List ℕ). Takes bytes [] r) (ap (λ (p : List Entry × List ℕ). p.1) e) (record { parts = refl; rest_fits = fits }))
entries_take (suc count) total before bytes x fits h =
    let a = bind_ok (entry_at before total bytes) (λ entry. entries_at count total (before ++ entry.0 ∷ []) entry.1) x h in
    let t = entry_takes total before bytes a.0 fits a.1 in
    let r = entries_take count total (before ++ a.0.0 ∷ []) a.0.1 x t.0.rest_fits a.2 in
    let both = Takes-then bytes (entry_bytes a.0.0) a.0.1 (flat_map entry_bytes r.0) x.1 t.0 r.4 in
    (a.0.0 ∷ r.0, r.1 ∙ append_assoc before (a.0.0 ∷ []) r.0, ap suc r.2, (t.1, r.3), rw flat_map-cons both)

abbrev done_with : List Entry → List ℕ → Result (List Entry × List ℕ) TreeFault
done_with b rest = Ok (b, rest)

entries_again : (total : ℕ) (before es : List Entry) (rest : List ℕ) → AllJoin before es → entries_at (length es) total before (flat_map entry_bytes es ++ rest) ≡ Ok (before ++ es, rest)
unfolding entries_at
entries_again total before [] rest h = ap (λ (b : List Entry). done_with b rest) (sym (append-nil before))
entries_again total before (e ∷ es) rest h =
    let regrouped : flat_map entry_bytes (e ∷ es) ++ rest ≡ entry_bytes e ++ (flat_map entry_bytes es ++ rest) =
    ap (λ (x : List ℕ). x ++ rest) (flat_map-cons entry_bytes e es) ∙ append_assoc (entry_bytes e) (flat_map entry_bytes es) rest in
    let back : (before ++ e ∷ []) ++ es ≡ before ++ e ∷ es = append_assoc before (e ∷ []) es in
    ap (entries_at (suc (length es)) total before) regrouped
    ∙ (rw (entry_again total before e (flat_map entry_bytes es ++ rest) h.0) (entries_again total (before ++ e ∷ []) es rest h.1)
    ∙ ap (λ (b : List Entry). done_with b rest) back)

-- ---- joined in turn, and a manifest

pub each_push : {A : Type 0} (P : A → Type 0) (xs : List A) (x : A) → AllByRecursion P xs → P x → AllByRecursion P (xs ++ x ∷ [])
each_push P [] x all h = (h, tt)
each_push P (y ∷ xs) x all h = (all.0, each_push P xs x all.1 h)

pub each_front : {A : Type 0} (P : A → Type 0) (xs ys : List A) → AllByRecursion P (xs ++ ys) → AllByRecursion P xs
each_front P [] ys all = tt
each_front P (x ∷ xs) ys all = (all.0, each_front P xs ys all.1)

pub each_last : {A : Type 0} (P : A → Type 0) (xs : List A) (x : A) → AllByRecursion P (xs ++ x ∷ []) → P x
each_last P [] x all = all.0
each_last P (y ∷ xs) x all = each_last P xs x all.1

-- a manifest but for the number of entries
record AreGood (entries : List Entry) : Type 0 where
  each : AllByRecursion IsEntry entries
  rising : is_rising (paths_of entries) ≡ true
  apart : is_apart (paths_of entries) ≡ true

good_push : (before : List Entry) (e : Entry) → AreGood before → Joins before e → AreGood (before ++ e ∷ [])
good_push before e good j = record {
  each = each_push IsEntry before e good.each j.entry;
  rising = ap is_rising (paths_of-push before e) ∙ rising_push (paths_of before) e.path good.rising j.behind;
  apart = ap is_apart (paths_of-push before e) ∙ apart_push (paths_of before) e.path good.apart j.fresh;
}

good_front : (xs ys : List Entry) → AreGood (xs ++ ys) → AreGood xs
good_front xs ys good = record {
  each = each_front IsEntry xs ys good.each;
  rising = rising_front (paths_of xs) (paths_of ys) (ap is_rising (sym (map-append (λ (e : Entry). e.path) xs ys)) ∙ good.rising);
  apart = apart_front (paths_of xs) (paths_of ys) (ap is_apart (sym (map-append (λ (e : Entry). e.path) xs ys)) ∙ good.apart);
}

joins_of : (before : List Entry) (e : Entry) → AreGood (before ++ e ∷ []) → Joins before e
joins_of before e good = record {
  entry = each_last IsEntry before e good.each;
  behind = rising_last (paths_of before) e.path (ap is_rising (sym (paths_of-push before e)) ∙ good.rising);
  fresh = apart_last (paths_of before) e.path (ap is_apart (sym (paths_of-push before e)) ∙ good.apart);
}

good_all : (before es : List Entry) → AreGood before → AllJoin before es → AreGood (before ++ es)
good_all before [] good all = subst (λ (b : List Entry). AreGood b) (sym (append-nil before)) good
good_all before (e ∷ es) good all = subst (λ (b : List Entry). AreGood b) (append_assoc before (e ∷ []) es) (good_all (before ++ e ∷ []) es (good_push before e good all.0) all.1)

all_of_good : (before es : List Entry) → AreGood (before ++ es) → AllJoin before es
all_of_good before [] good = tt
all_of_good before (e ∷ es) good =
    let whole = subst (λ (b : List Entry). AreGood b) (sym (append_assoc before (e ∷ []) es)) good in
    (joins_of before e (good_front (before ++ e ∷ []) es whole), all_of_good (before ++ e ∷ []) es whole)

-- ---- the header

magic_takes : (total : ℕ) (bytes rest : List ℕ) → IsBytes bytes → magic_at total bytes ≡ Ok rest → Takes bytes magic rest
unfolding magic_at
magic_takes total bytes rest fits h =
    let a = bind_ok (bytes_at 4 total bytes) (λ found. cond (bytes_eq found.0 magic) (Ok found.1) (Err (BadForm (total - length bytes)))) rest h in
    let b = held (bytes_eq a.0.0 magic) (BadForm (total - length bytes)) (Ok a.0.1) rest a.2 in
    let t = bytes_take 4 total bytes a.0.0 a.0.1 fits a.1 in
    let front = subst (λ (text : List ℕ). Takes bytes text a.0.1) ((bytes_decides a.0.0 magic).0 b.0) t.0 in
    subst (λ (r : List ℕ). Takes bytes magic r) (ok_is a.0.1 rest b.1) front

magic_again : (total : ℕ) (rest : List ℕ) → magic_at total (magic ++ rest) ≡ Ok rest
unfolding magic_at
magic_again total rest = rw (bytes_again 4 total magic rest refl) refl

form_takes : (total : ℕ) (bytes rest : List ℕ) → IsBytes bytes → form_at total bytes ≡ Ok rest → Takes bytes (1 ∷ []) rest
unfolding form_at
form_takes total bytes rest fits h =
    let a = bind_ok (number_at w8 total bytes) (λ form. cond (eqb form.0 1) (Ok form.1) (Err (BadForm (total - length bytes)))) rest h in
    let b = held (eqb a.0.0 1) (BadForm (total - length bytes)) (Ok a.0.1) rest a.2 in
    let t = byte_takes total bytes a.0.0 a.0.1 fits a.1 in
    let front = subst (λ (n : ℕ). Takes bytes (n ∷ []) a.0.1) (eqb-true a.0.0 1 b.0) t in
    subst (λ (r : List ℕ). Takes bytes (1 ∷ []) r) (ok_is a.0.1 rest b.1) front

form_again : (total : ℕ) (rest : List ℕ) → form_at total (1 ∷ rest) ≡ Ok rest
unfolding form_at
form_again total rest = rw (byte_again total 1 rest) refl

count_takes : (total : ℕ) (bytes : List ℕ) (x : ℕ × List ℕ) → IsBytes bytes → count_at total bytes ≡ Ok x → Takes bytes (to_le_bytes w32 x.0) x.1 × (x.0 ≤ 20000)
unfolding count_at
count_takes total bytes x fits h =
    let a = bind_ok (number_at w32 total bytes) (λ count. cond (ltb 20000 count.0) (Err TooManyFiles) (Ok count)) x h in
    let b = passed (ltb 20000 a.0.0) TooManyFiles (Ok a.0) x a.2 in
    let t = number_takes w32 (2 ^ 32) wide32 total bytes a.0.0 a.0.1 fits a.1 in
    subst (λ (y : ℕ × List ℕ). Takes bytes (to_le_bytes w32 y.0) y.1 × (y.0 ≤ 20000)) (ok_is a.0 x b.1) (t.0, ltb-false _ _ b.0)

count_again : (total n : ℕ) (rest : List ℕ) → n ≤ 20000 → count_at total (to_le_bytes w32 n ++ rest) ≡ Ok (n, rest)
unfolding count_at
count_again total n rest few =
    let few_no : ltb 20000 n ≡ false = le-ltb _ _ few in
    rw (number_again w32 (2 ^ 32) wide32 total n rest (omega arith), few_no) refl

abbrev head : ℕ → List ℕ
head n = magic ++ (1 ∷ []) ++ to_le_bytes w32 n

header_takes : (total : ℕ) (bytes : List ℕ) (x : ℕ × List ℕ) → IsBytes bytes → header_at total bytes ≡ Ok x → Takes bytes (head x.0) x.1 × (x.0 ≤ 20000)
unfolding header_at
header_takes total bytes x fits h =
    let a = bind_ok (magic_at total bytes) (λ rest. form_at total rest >>= λ rest. count_at total rest) x h in
    let b = bind_ok (form_at total a.0) (λ rest. count_at total rest) x a.2 in
    let t0 = magic_takes total bytes a.0 fits a.1 in
    let t1 = form_takes total a.0 b.0 t0.rest_fits b.1 in
    let t2 = count_takes total b.0 x t1.rest_fits b.2 in
    let e01 = Takes-then bytes magic a.0 (1 ∷ []) b.0 t0 t1 in
    (Takes-then bytes (magic ++ (1 ∷ [])) b.0 (to_le_bytes w32 x.0) x.1 e01 t2.0, t2.1)

header_again : (total n : ℕ) (rest : List ℕ) → n ≤ 20000 → header_at total (head n ++ rest) ≡ Ok (n, rest)
unfolding header_at
header_again total n rest few =
    let regrouped : head n ++ rest ≡ magic ++ (1 ∷ (to_le_bytes w32 n ++ rest)) =
    append_assoc (magic ++ (1 ∷ [])) (to_le_bytes w32 n) rest ∙ append_assoc magic (1 ∷ []) (to_le_bytes w32 n ++ rest) in
    ap (header_at total) regrouped
    ∙ rw (magic_again total (1 ∷ (to_le_bytes w32 n ++ rest)), form_again total (to_le_bytes w32 n ++ rest)) (count_again total n rest few)

-- ---- all of the bytes

end_is : (total : ℕ) (entries : List Entry) (rest : List ℕ) (x : List Entry) → end_at total entries rest ≡ Ok x → (entries ≡ x) × (rest ≡ [])
unfolding end_at
end_is total entries rest x h =
    let g = held (eqb (length rest) 0) (BadForm (total - length rest)) (Ok entries) x h in
    (ok_is entries x g.1, nil_from_length rest (eqb-true _ _ g.0))

end_again : (total : ℕ) (entries : List Entry) → end_at total entries [] ≡ Ok entries
unfolding end_at
end_again total entries = refl

-- what is read is spelled so
pub read_takes : (bytes : List ℕ) (entries : List Entry) → IsBytes bytes → read_manifest bytes ≡ Ok entries → Spells bytes entries
unfolding read_manifest
read_takes bytes entries fits h =
    let total = length bytes in
    let a = bind_ok (header_at total bytes) (λ count. entries_at count.0 total [] count.1 >>= λ all. end_at total all.0 all.1) entries h in
    let b = bind_ok (entries_at a.0.0 total [] a.0.1) (λ all. end_at total all.0 all.1) entries a.2 in
    let t = header_takes total bytes a.0 fits a.1 in
    let es = entries_take a.0.0 total [] a.0.1 b.0 t.0.rest_fits b.1 in
    let last = end_is total b.0.0 b.0.1 entries b.2 in
    let is : es.0 ≡ entries = sym es.1 ∙ last.0 in
    let start : AreGood [] = record { each = tt; rising = refl; apart = refl } in
    let good = good_all [] es.0 start es.3 in
    let both = (Takes-then bytes (head a.0.0) a.0.1 (flat_map entry_bytes es.0) b.0.1 t.0 es.4).parts in
    let whole : bytes ≡ spelling es.0 =
    both ∙ ap (λ (r : List ℕ). (head a.0.0 ++ flat_map entry_bytes es.0) ++ r) last.1
    ∙ append-nil (head a.0.0 ++ flat_map entry_bytes es.0)
    ∙ ap (λ (k : ℕ). head k ++ flat_map entry_bytes es.0) (sym es.2) in
    let made : Spells bytes es.0 = record { manifest = record { few = omega (arith, es.2, t.1); each = good.each; rising = good.rising; apart = good.apart }; spelled = whole } in
    subst (λ (x : List Entry). Spells bytes x) is made

-- what is spelled so is read
pub read_again : (entries : List Entry) → IsManifest entries → read_manifest (spelling entries) ≡ Ok entries
unfolding read_manifest
read_again entries m =
    let total = length (spelling entries) in
    let good : AreGood entries = record { each = m.each; rising = m.rising; apart = m.apart } in
    let all = all_of_good [] entries good in
    let rest : entries_at (length entries) total [] (flat_map entry_bytes entries) ≡ Ok (entries, []) =
    ap (entries_at (length entries) total []) (sym (append-nil (flat_map entry_bytes entries))) ∙ entries_again total [] entries [] all in
    rw (header_again total (length entries) (flat_map entry_bytes entries) m.few, rest) (end_again total entries)

-- ---- one spelling, whatever follows

abbrev front_of : ℕ → List ℕ → Result (List Entry × List ℕ) TreeFault
front_of total bytes = header_at total bytes >>= λ count. entries_at count.0 total [] count.1

front_again : (total : ℕ) (entries : List Entry) (rest : List ℕ) → IsManifest entries → front_of total (spelling entries ++ rest) ≡ Ok (entries, rest)
front_again total entries rest m =
    let good : AreGood entries = record { each = m.each; rising = m.rising; apart = m.apart } in
    let regrouped : spelling entries ++ rest ≡ head (length entries) ++ (flat_map entry_bytes entries ++ rest) = append_assoc (head (length entries)) (flat_map entry_bytes entries) rest in
    ap (front_of total) regrouped
    ∙ (ap (λ (r : Result (ℕ × List ℕ) TreeFault). r >>= λ count. entries_at count.0 total [] count.1) (header_again total (length entries) (flat_map entry_bytes entries ++ rest) m.few)
    ∙ entries_again total [] entries rest (all_of_good [] entries good))

pub one_front : (a b : List Entry) (x y : List ℕ) → IsManifest a → IsManifest b → spelling a ++ x ≡ spelling b ++ y → (a ≡ b) × (x ≡ y)
one_front a b x y ma mb e =
    let both : done_with a x ≡ done_with b y = sym (front_again 0 a x ma) ∙ (ap (front_of 0) e ∙ front_again 0 b y mb) in
    let pair = ok_is (a, x) (b, y) both in
    (ap (λ (p : List Entry × List ℕ). p.0) pair, ap (λ (p : List Entry × List ℕ). p.1) pair)

pub read_spells : (bytes : List ℕ) (entries : List Entry) → Spells bytes entries → read_manifest bytes ≡ Ok entries
read_spells bytes entries s = ap read_manifest s.spelled ∙ read_again entries s.manifest
