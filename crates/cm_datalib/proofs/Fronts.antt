-- More bytes than a manifest has are refused as their front is.
use Rattle.std.proofs.Common.{◌≡◌, ◌⊎◌, inl, inr, ℕ, zero, suc, ◌+◌, ◌-◌, ◌*◌, ◌≤◌, Bool, true, false, cond, ltb, eqb, ◌||◌, List, [], ◌∷◌, ◌++◌, length, take, drop, Result, Ok, Err, refl, sym, ◌∙◌, ap, subst, arith, length-append, length-drop}
use Rattle.std.specs.Prelude.{MatchResult}
use Rattle.std.specs.Str.{bytes_eq}
use Rattle.std.specs.Int.{Width, w8, w32, byte_len, from_le_bytes}
use Rattle.std.proofs.lemmas.Bool.{le-ltb, ltb-false, eqb-true, ne_eqb}
use Rattle.std.proofs.lemmas.List.{take-append-le, drop-append-le}
use Rattle.cm_tree.specs.declared.entry.Entry.{Entry}
use Rattle.cm_tree.specs.declared.tree_fault.TreeFault.{TreeFault}
use Rattle.cm_tree.specs.declared.tree_fault.TreeFault.TheVariants.{BadForm, BadPath, Unsorted, SamePath, TooManyFiles, Memory as TreeMemory}
use Rattle.cm_tree.specs.Manifests.{magic}
use Rattle.cm_tree.specs.Reading.{◌>>=◌, number_at, bytes_at, text_at, row_at, joined, entry_at, entries_at, magic_at, form_at, count_at, header_at, end_at, read_manifest, Fails, Gives}
use Rattle.cm_datalib.specs.declared.faults.DataFault.{DataFault}
use Rattle.cm_datalib.specs.declared.faults.DataFault.TheVariants.{BadManifest}
use Rattle.cm_datalib.specs.Loads.{as_data, Answers, bad_manifest}

-- both fail alike, or both give values of which this holds
abbrev IsAlike : {A B : Type 0} → (A → B → Type 0) → Result A TreeFault → Result B TreeFault → Type 0
IsAlike {A} {B} R all front = ((fault : TreeFault) × (all ≡ Err fault) × (front ≡ Err fault)) ⊎ ((a : A) × (b : B) × (all ≡ Ok a) × (front ≡ Ok b) × R a b)

alike_err : {A B : Type 0} (R : A → B → Type 0) (fault : TreeFault) → IsAlike R (Err fault) (Err fault)
alike_err R fault = inl (fault, refl, refl)

-- one step after another
then_by : {A B C D : Type 0} (R : A → B → Type 0) (Q : Result C TreeFault → Result D TreeFault → Type 0) (all : Result A TreeFault) (front : Result B TreeFault) (f : A → Result C TreeFault) (g : B → Result D TreeFault)
    → ((fault : TreeFault) → Q (Err fault) (Err fault)) → IsAlike R all front → ((a : A) (b : B) → R a b → Q (f a) (g b)) → Q (all >>= f) (front >>= g)
then_by {A} {B} R Q all front f g fails (inl x) next = subst (λ (m : Result A TreeFault). Q (m >>= f) (front >>= g)) (sym x.1) (subst (λ (m : Result B TreeFault). Q (Err x.0) (m >>= g)) (sym x.2) (fails x.0))
then_by {A} {B} R Q all front f g fails (inr x) next = subst (λ (m : Result A TreeFault). Q (m >>= f) (front >>= g)) (sym x.2) (subst (λ (m : Result B TreeFault). Q (f x.0) (m >>= g)) (sym x.3) (next x.0 x.1 x.4))

then_alike : {A B C D : Type 0} (R : A → B → Type 0) (S : C → D → Type 0) (all : Result A TreeFault) (front : Result B TreeFault) (f : A → Result C TreeFault) (g : B → Result D TreeFault)
    → IsAlike R all front → ((a : A) (b : B) → R a b → IsAlike S (f a) (g b)) → IsAlike S (all >>= f) (front >>= g)
then_alike R S all front f g alike next = then_by R (IsAlike S) all front f g (alike_err S) alike next

same_alike : {A : Type 0} (x y : Result A TreeFault) → x ≡ y → IsAlike (λ (a b : A). a ≡ b) x y
same_alike (Ok a) y is = inr (a, a, refl, sym is, refl)
same_alike (Err fault) y is = inl (fault, refl, sym is)

-- a test that refuses, or one that lets pass
refuses_alike : {C D : Type 0} (S : C → D → Type 0) (b : Bool) (one two : TreeFault) (x : Result C TreeFault) (y : Result D TreeFault) → one ≡ two → (b ≡ false → IsAlike S x y) → IsAlike S (cond b (Err one) x) (cond b (Err two) y)
refuses_alike S true one two x y same go = inl (one, refl, ap (λ (f : TreeFault). Err f) (sym same))
refuses_alike S false one two x y same go = go refl

passes_alike : {C D : Type 0} (S : C → D → Type 0) (b : Bool) (one two : TreeFault) (x : Result C TreeFault) (y : Result D TreeFault) → one ≡ two → IsAlike S x y → IsAlike S (cond b x (Err one)) (cond b y (Err two))
passes_alike S true one two x y same go = go
passes_alike S false one two x y same go = inl (one, refl, ap (λ (f : TreeFault). Err f) (sym same))

either_false : (a b : Bool) → (a || b) ≡ false → b ≡ false
either_false false b is = is
either_false true b is = absurd (cc)

-- a value, and what is left: of the front at least so many bytes, and of all of them the tail behind
record Left {X : Type 0} (tail : List ℕ) (least : ℕ) (all front : X × List ℕ) : Type 0 where
  same : all.0 ≡ front.0
  rest : all.1 ≡ front.1 ++ tail
  many : least ≤ length front.1

record LeftAlone (tail : List ℕ) (least : ℕ) (all front : List ℕ) : Type 0 where
  rest : all ≡ front ++ tail
  many : least ≤ length front

record LeftRow (tail : List ℕ) (least : ℕ) (all front : List ℕ × ℕ × List ℕ × List ℕ) : Type 0 where
  path : all.0 ≡ front.0
  size : all.1 ≡ front.1
  hash : all.2 ≡ front.2
  rest : all.3 ≡ front.3 ++ tail
  many : least ≤ length front.3

record LeftCount (tail : List ℕ) (least : ℕ) (all front : ℕ × List ℕ) : Type 0 where
  left : Left {X = ℕ} tail least all front
  few : front.0 ≤ 20000

module _ (tail : List ℕ) (total some : ℕ) (totals : total ≡ some + length tail) where
  long_all : (all front : List ℕ) → all ≡ front ++ tail → length all ≡ length front + length tail
  long_all all front is = ap length is ∙ length-append front tail

  -- the same place in both
  place_is : (all front : List ℕ) → all ≡ front ++ tail → BadForm (total - length all) ≡ BadForm (some - length front)
  place_is all front is =
      let at : total - length all ≡ some - length front = omega (arith, long_all all front is, totals) in
      ap (λ (n : ℕ). BadForm n) at

  number_alike : (w : Width) (least : ℕ) (all front : List ℕ) → all ≡ front ++ tail → byte_len w + least ≤ length front → IsAlike (Left {X = ℕ} tail least) (number_at w total all) (number_at w some front)
  unfolding number_at
  number_alike w least all front is many =
      let within : byte_len w ≤ length front = omega (arith, many) in
      let all_long : ltb (length all) (byte_len w) ≡ false = le-ltb _ _ (omega (arith, long_all all front is, within)) in
      let front_long : ltb (length front) (byte_len w) ≡ false = le-ltb _ _ within in
      inr (
        (from_le_bytes w (take (byte_len w) all), drop (byte_len w) all),
        (from_le_bytes w (take (byte_len w) front), drop (byte_len w) front),
        ap (λ (b : Bool). cond b (Err (BadForm total)) (Ok (from_le_bytes w (take (byte_len w) all), drop (byte_len w) all))) all_long,
        ap (λ (b : Bool). cond b (Err (BadForm some)) (Ok (from_le_bytes w (take (byte_len w) front), drop (byte_len w) front))) front_long,
        record {
          same = ap (λ (l : List ℕ). from_le_bytes w (take (byte_len w) l)) is ∙ ap (from_le_bytes w) (take-append-le (byte_len w) front tail within);
          rest = ap (drop (byte_len w)) is ∙ drop-append-le (byte_len w) front tail within;
          many = omega (arith, length-drop (byte_len w) front, many);
        },
      )

  bytes_alike : (count least : ℕ) (all front : List ℕ) → all ≡ front ++ tail → count + least ≤ length front → IsAlike (Left {X = List ℕ} tail least) (bytes_at count total all) (bytes_at count some front)
  unfolding bytes_at
  bytes_alike count least all front is many =
      let within : count ≤ length front = omega (arith, many) in
      let all_long : ltb (length all) count ≡ false = le-ltb _ _ (omega (arith, long_all all front is, within)) in
      let front_long : ltb (length front) count ≡ false = le-ltb _ _ within in
      inr (
        (take count all, drop count all),
        (take count front, drop count front),
        ap (λ (b : Bool). cond b (Err (BadForm total)) (Ok (take count all, drop count all))) all_long,
        ap (λ (b : Bool). cond b (Err (BadForm some)) (Ok (take count front, drop count front))) front_long,
        record {
          same = ap (take count) is ∙ take-append-le count front tail within;
          rest = ap (drop count) is ∙ drop-append-le count front tail within;
          many = omega (arith, length-drop count front, many);
        },
      )

  text_alike : (least : ℕ) (all front : List ℕ) → all ≡ front ++ tail → 241 + least ≤ length front → IsAlike (Left {X = List ℕ} tail least) (text_at total all) (text_at some front)
  unfolding text_at
  text_alike least all front is many =
      then_alike (Left {X = ℕ} tail (240 + least)) (Left {X = List ℕ} tail least) (number_at w8 total all) (number_at w8 some front)
      (λ len. cond (eqb len.0 0 || ltb 240 len.0) (Err (BadForm (total - length all))) (bytes_at len.0 total len.1))
      (λ len. cond (eqb len.0 0 || ltb 240 len.0) (Err (BadForm (some - length front))) (bytes_at len.0 some len.1))
      (number_alike w8 (240 + least) all front is (omega (arith, many)))
      (λ a b left.
      subst
      (λ (n : ℕ). IsAlike (Left {X = List ℕ} tail least) (cond (eqb n 0 || ltb 240 n) (Err (BadForm (total - length all))) (bytes_at n total a.1)) (cond (eqb b.0 0 || ltb 240 b.0) (Err (BadForm (some - length front))) (bytes_at b.0 some b.1)))
      (sym left.same)
      (refuses_alike (Left {X = List ℕ} tail least) (eqb b.0 0 || ltb 240 b.0) (BadForm (total - length all)) (BadForm (some - length front)) (bytes_at b.0 total a.1) (bytes_at b.0 some b.1) (place_is all front is)
      (λ small. bytes_alike b.0 least a.1 b.1 left.rest (omega (arith, ltb-false _ _ (either_false (eqb b.0 0) (ltb 240 b.0) small), left.many)))))

  row_alike : (least : ℕ) (all front : List ℕ) → all ≡ front ++ tail → 277 + least ≤ length front → IsAlike (LeftRow tail least) (row_at total all) (row_at some front)
  unfolding row_at
  row_alike least all front is many =
      then_alike (Left {X = List ℕ} tail (36 + least)) (LeftRow tail least) (text_at total all) (text_at some front)
      (λ path. number_at w32 total path.1 >>= λ size. bytes_at 32 total size.1 >>= λ hash. Ok (path.0, size.0, hash.0, hash.1))
      (λ path. number_at w32 some path.1 >>= λ size. bytes_at 32 some size.1 >>= λ hash. Ok (path.0, size.0, hash.0, hash.1))
      (text_alike (36 + least) all front is (omega (arith, many)))
      (λ p q path.
      then_alike (Left {X = ℕ} tail (32 + least)) (LeftRow tail least) (number_at w32 total p.1) (number_at w32 some q.1)
      (λ size. bytes_at 32 total size.1 >>= λ hash. Ok (p.0, size.0, hash.0, hash.1))
      (λ size. bytes_at 32 some size.1 >>= λ hash. Ok (q.0, size.0, hash.0, hash.1))
      (number_alike w32 (32 + least) p.1 q.1 path.rest (omega (arith, path.many)))
      (λ s t size.
      then_alike (Left {X = List ℕ} tail least) (LeftRow tail least) (bytes_at 32 total s.1) (bytes_at 32 some t.1)
      (λ hash. Ok (p.0, s.0, hash.0, hash.1))
      (λ hash. Ok (q.0, t.0, hash.0, hash.1))
      (bytes_alike 32 least s.1 t.1 size.rest (omega (arith, size.many)))
      (λ h k hash. inr ((p.0, s.0, h.0, h.1), (q.0, t.0, k.0, k.1), refl, refl, record { path = path.same; size = size.same; hash = hash.same; rest = hash.rest; many = hash.many }))))

  entry_alike : (before : List Entry) (least : ℕ) (all front : List ℕ) → all ≡ front ++ tail → 277 + least ≤ length front → IsAlike (Left {X = Entry} tail least) (entry_at before total all) (entry_at before some front)
  unfolding entry_at
  entry_alike before least all front is many =
      then_alike (LeftRow tail least) (Left {X = Entry} tail least) (row_at total all) (row_at some front)
      (λ row. joined before row.0 row.1 row.2 >>= λ entry. Ok (entry, row.3))
      (λ row. joined before row.0 row.1 row.2 >>= λ entry. Ok (entry, row.3))
      (row_alike least all front is many)
      (λ r s row.
      then_alike (λ (a b : Entry). a ≡ b) (Left {X = Entry} tail least) (joined before r.0 r.1 r.2) (joined before s.0 s.1 s.2)
      (λ entry. Ok (entry, r.3))
      (λ entry. Ok (entry, s.3))
      (same_alike (joined before r.0 r.1 r.2) (joined before s.0 s.1 s.2)
      (ap (λ (l : List ℕ). joined before l r.1 r.2) row.path ∙ ap (λ (n : ℕ). joined before s.0 n r.2) row.size ∙ ap (λ (l : List ℕ). joined before s.0 s.1 l) row.hash))
      (λ a b same. inr ((a, r.3), (b, s.3), refl, refl, record { same = same; rest = row.rest; many = row.many })))

  entries_alike : (count least : ℕ) (before : List Entry) (all front : List ℕ) → all ≡ front ++ tail → 277 * count + least ≤ length front → IsAlike (Left {X = List Entry} tail least) (entries_at count total before all) (entries_at count some before front)
  unfolding entries_at
  entries_alike zero least before all front is many = inr ((before, all), (before, front), refl, refl, record { same = refl; rest = is; many = omega (arith, many) })
  entries_alike (suc count) least before all front is many =
      then_alike (Left {X = Entry} tail (277 * count + least)) (Left {X = List Entry} tail least) (entry_at before total all) (entry_at before some front)
      (λ entry. entries_at count total (before ++ entry.0 ∷ []) entry.1)
      (λ entry. entries_at count some (before ++ entry.0 ∷ []) entry.1)
      (entry_alike before (277 * count + least) all front is (omega (arith, many)))
      (λ a b left.
      subst (λ (e : Entry). IsAlike (Left {X = List Entry} tail least) (entries_at count total (before ++ e ∷ []) a.1) (entries_at count some (before ++ b.0 ∷ []) b.1)) (sym left.same)
      (entries_alike count least (before ++ b.0 ∷ []) a.1 b.1 left.rest left.many))

  magic_alike : (least : ℕ) (all front : List ℕ) → all ≡ front ++ tail → 4 + least ≤ length front → IsAlike (LeftAlone tail least) (magic_at total all) (magic_at some front)
  unfolding magic_at
  magic_alike least all front is many =
      then_alike (Left {X = List ℕ} tail least) (LeftAlone tail least) (bytes_at 4 total all) (bytes_at 4 some front)
      (λ found. cond (bytes_eq found.0 magic) (Ok found.1) (Err (BadForm (total - length all))))
      (λ found. cond (bytes_eq found.0 magic) (Ok found.1) (Err (BadForm (some - length front))))
      (bytes_alike 4 least all front is many)
      (λ a b left.
      subst (λ (l : List ℕ). IsAlike (LeftAlone tail least) (cond (bytes_eq l magic) (Ok a.1) (Err (BadForm (total - length all)))) (cond (bytes_eq b.0 magic) (Ok b.1) (Err (BadForm (some - length front))))) (sym left.same)
      (passes_alike (LeftAlone tail least) (bytes_eq b.0 magic) (BadForm (total - length all)) (BadForm (some - length front)) (Ok a.1) (Ok b.1) (place_is all front is)
      (inr (a.1, b.1, refl, refl, record { rest = left.rest; many = left.many }))))

  form_alike : (least : ℕ) (all front : List ℕ) → all ≡ front ++ tail → 1 + least ≤ length front → IsAlike (LeftAlone tail least) (form_at total all) (form_at some front)
  unfolding form_at
  form_alike least all front is many =
      then_alike (Left {X = ℕ} tail least) (LeftAlone tail least) (number_at w8 total all) (number_at w8 some front)
      (λ form. cond (eqb form.0 1) (Ok form.1) (Err (BadForm (total - length all))))
      (λ form. cond (eqb form.0 1) (Ok form.1) (Err (BadForm (some - length front))))
      (number_alike w8 least all front is many)
      (λ a b left.
      subst (λ (n : ℕ). IsAlike (LeftAlone tail least) (cond (eqb n 1) (Ok a.1) (Err (BadForm (total - length all)))) (cond (eqb b.0 1) (Ok b.1) (Err (BadForm (some - length front))))) (sym left.same)
      (passes_alike (LeftAlone tail least) (eqb b.0 1) (BadForm (total - length all)) (BadForm (some - length front)) (Ok a.1) (Ok b.1) (place_is all front is)
      (inr (a.1, b.1, refl, refl, record { rest = left.rest; many = left.many }))))

  count_alike : (least : ℕ) (all front : List ℕ) → all ≡ front ++ tail → 4 + least ≤ length front → IsAlike (LeftCount tail least) (count_at total all) (count_at some front)
  unfolding count_at
  count_alike least all front is many =
      then_alike (Left {X = ℕ} tail least) (LeftCount tail least) (number_at w32 total all) (number_at w32 some front)
      (λ count. cond (ltb 20000 count.0) (Err TooManyFiles) (Ok count))
      (λ count. cond (ltb 20000 count.0) (Err TooManyFiles) (Ok count))
      (number_alike w32 least all front is many)
      (λ a b left.
      subst (λ (n : ℕ). IsAlike (LeftCount tail least) (cond (ltb 20000 n) (Err TooManyFiles) (Ok a)) (cond (ltb 20000 b.0) (Err TooManyFiles) (Ok b))) (sym left.same)
      (refuses_alike (LeftCount tail least) (ltb 20000 b.0) TooManyFiles TooManyFiles (Ok a) (Ok b) refl
      (λ small. inr (a, b, refl, refl, record { left = left; few = ltb-false _ _ small }))))

  header_alike : (least : ℕ) (all front : List ℕ) → all ≡ front ++ tail → 9 + least ≤ length front → IsAlike (LeftCount tail least) (header_at total all) (header_at some front)
  unfolding header_at
  header_alike least all front is many =
      then_alike (LeftAlone tail (5 + least)) (LeftCount tail least) (magic_at total all) (magic_at some front)
      (λ rest. form_at total rest >>= λ rest. count_at total rest)
      (λ rest. form_at some rest >>= λ rest. count_at some rest)
      (magic_alike (5 + least) all front is (omega (arith, many)))
      (λ a b left.
      then_alike (LeftAlone tail (4 + least)) (LeftCount tail least) (form_at total a) (form_at some b)
      (λ rest. count_at total rest)
      (λ rest. count_at some rest)
      (form_alike (4 + least) a b left.rest (omega (arith, left.many)))
      (λ c d left. count_alike least c d left.rest left.many))

-- what all of the bytes are refused for, where their front is read so
abbrev pub IsLonger : ℕ → Result (List Entry) TreeFault → Result (List Entry) TreeFault → Type 0
IsLonger many all front = MatchResult front (λ _. all ≡ Err (BadForm many)) (λ fault. all ≡ Err fault)

end_longer : (many : ℕ) (b : Bool) (at : ℕ) (entries : List Entry) (all : Result (List Entry) TreeFault) → (b ≡ true → at ≡ many) → all ≡ Err (BadForm at) → IsLonger many all (cond b (Ok entries) (Err (BadForm at)))
end_longer many true at entries all whole is = is ∙ ap (λ (n : ℕ). Err (BadForm n)) (whole refl)
end_longer many false at entries all whole is = is

pub read_manifest-longer : (front tail : List ℕ) → 5540009 ≤ length front → 1 ≤ length tail → IsLonger (length front) (read_manifest (front ++ tail)) (read_manifest front)
unfolding read_manifest end_at
read_manifest-longer front tail long more =
    let totals : length (front ++ tail) ≡ length front + length tail = length-append front tail in
    then_by (LeftCount tail 5540000) (IsLonger (length front)) (header_at (length (front ++ tail)) (front ++ tail)) (header_at (length front) front)
    (λ count. entries_at count.0 (length (front ++ tail)) [] count.1 >>= λ all. end_at (length (front ++ tail)) all.0 all.1)
    (λ count. entries_at count.0 (length front) [] count.1 >>= λ all. end_at (length front) all.0 all.1)
    (λ fault. refl)
    (header_alike tail (length (front ++ tail)) (length front) totals 5540000 (front ++ tail) front refl long)
    (λ a b count.
    subst (λ (n : ℕ). IsLonger (length front) (entries_at n (length (front ++ tail)) [] a.1 >>= λ all. end_at (length (front ++ tail)) all.0 all.1) (entries_at b.0 (length front) [] b.1 >>= λ all. end_at (length front) all.0 all.1)) (sym count.left.same)
    (then_by (Left {X = List Entry} tail 0) (IsLonger (length front)) (entries_at b.0 (length (front ++ tail)) [] a.1) (entries_at b.0 (length front) [] b.1)
    (λ all. end_at (length (front ++ tail)) all.0 all.1)
    (λ all. end_at (length front) all.0 all.1)
    (λ fault. refl)
    (entries_alike tail (length (front ++ tail)) (length front) totals b.0 0 [] a.1 b.1 count.left.rest (omega (arith, count.few, count.left.many)))
    (λ c d left.
    let lasts : length c.1 ≡ length d.1 + length tail = ap length left.rest ∙ length-append d.1 tail in
    let none : eqb (length c.1) 0 ≡ false = ne_eqb (length c.1) 0 (λ z. omega (arith, z, lasts, more)) in
    let at : length (front ++ tail) - length c.1 ≡ length front - length d.1 = omega (arith, totals, lasts) in
    end_longer (length front) (eqb (length d.1) 0) (length front - length d.1) d.0 (end_at (length (front ++ tail)) c.0 c.1)
    (λ empty. omega (arith, eqb-true (length d.1) 0 empty))
    (ap (λ (b : Bool). cond b (Ok c.0) (Err (BadForm (length (front ++ tail) - length c.1)))) none ∙ ap (λ (n : ℕ). Err (BadForm n)) at))))

-- the fault by what the front was decoded as
abbrev pub fault_by : Result (List Entry) TreeFault → DataFault
fault_by (Ok entries) = BadManifest (BadForm 5540009)
fault_by (Err fault) = bad_manifest fault

module _ (front : List ℕ) (many : length front ≡ 5540009) (tail : List ℕ) (more : 1 ≤ length tail) where
  longer : IsLonger (length front) (read_manifest (front ++ tail)) (read_manifest front)
  longer = read_manifest-longer front tail (omega (arith, many)) more

  longer-whole : (entries : List Entry) → read_manifest front ≡ Ok entries → as_data (read_manifest (front ++ tail)) ≡ Err (BadManifest (BadForm 5540009))
  longer-whole entries is =
      let all : read_manifest (front ++ tail) ≡ Err (BadForm (length front)) = subst (λ (r : Result (List Entry) TreeFault). IsLonger (length front) (read_manifest (front ++ tail)) r) is longer in
      ap as_data all ∙ ap (λ (n : ℕ). Err (BadManifest (BadForm n))) many

  longer-fault : (fault : TreeFault) → read_manifest front ≡ Err fault → as_data (read_manifest (front ++ tail)) ≡ Err (BadManifest fault)
  longer-fault fault is = ap as_data (subst (λ (r : Result (List Entry) TreeFault). IsLonger (length front) (read_manifest (front ++ tail)) r) is longer)

  longer-refused : (fault : TreeFault) → Fails fault (read_manifest front) → Answers (Err (bad_manifest fault)) (as_data (read_manifest (front ++ tail)))
  longer-refused TreeMemory is = tt
  longer-refused (BadForm at) is = longer-fault (BadForm at) is
  longer-refused (BadPath entry) is = longer-fault (BadPath entry) is
  longer-refused (Unsorted entry) is = longer-fault (Unsorted entry) is
  longer-refused (SamePath entry) is = longer-fault (SamePath entry) is
  longer-refused TooManyFiles is = longer-fault TooManyFiles is

  -- what is answered by the decoded front
  pub decoded-refused : (decoded : Result (List Entry) TreeFault) (fault : DataFault) → Gives (λ (entries : List Entry). entries) decoded (read_manifest front) → fault ≡ fault_by decoded → Answers (Err fault) (as_data (read_manifest (front ++ tail)))
  decoded-refused (Ok entries) fault gives is = subst (λ (f : DataFault). Answers (Err f) (as_data (read_manifest (front ++ tail)))) (sym is) (longer-whole entries gives)
  decoded-refused (Err e) fault gives is = subst (λ (f : DataFault). Answers (Err f) (as_data (read_manifest (front ++ tail)))) (sym is) (longer-refused e gives)
