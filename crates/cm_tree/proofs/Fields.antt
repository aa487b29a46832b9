-- A field that is read is the field that was written, and what was written is read again.
use Rattle.std.proofs.Common.{◌≡◌, ℕ, suc, ◌+◌, ◌^◌, ◌<◌, ◌≤◌, Bool, true, false, cond, ltb, List, [], ◌∷◌, ◌++◌, length, get_or, take, drop, Result, Ok, Err, refl, sym, ap, subst, ◌∙◌, append_assoc, arith, inl, inr}
use Rattle.std.specs.Int.{Width, w8, w32, byte_len, from_le_bytes, to_le_bytes}
use Rattle.std.proofs.lemmas.Bool.{cases_lt, ltb-false, le-ltb}
use Rattle.std.proofs.lemmas.List.{take_at, drop_at, take-append-drop, length-append, length-take, get_or-drop, get_or-take, get_or_past}
use Rattle.std.proofs.lemmas.Nat.{le_bytes_4, from_le_bytes-to_le_bytes_4}
use Rattle.cm_tree.specs.declared.tree_fault.TreeFault.{TreeFault}
use Rattle.cm_tree.specs.declared.tree_fault.TreeFault.TheVariants.{BadForm}
use Rattle.cm_tree.specs.Reading.{◌>>=◌, number_at, bytes_at}

abbrev pub IsBytes : List ℕ → Type 0
IsBytes bytes = (i : ℕ) → get_or bytes i 0 < 256

pub IsBytes-drop : (n : ℕ) (bytes : List ℕ) → IsBytes bytes → IsBytes (drop n bytes)
IsBytes-drop n bytes h i = rw get_or-drop (h (n + i))

pub IsBytes-take : (n : ℕ) (bytes : List ℕ) → IsBytes bytes → IsBytes (take n bytes)
IsBytes-take n bytes h i =
    elim (cases_lt i n) [
      | inl lt ↦ rw (get_or-take n bytes i 0 lt) (h i)
      | inr le ↦ rw (get_or_past (take n bytes) i 0 (omega (arith, length-take n bytes))) (omega arith)
    ]

-- the value of a step that did not fail
pub bind_ok : {A B : Type 0} (r : Result A TreeFault) (f : A → Result B TreeFault) (y : B) → (r >>= f) ≡ Ok y → (x : A) × (r ≡ Ok x) × (f x ≡ Ok y)
bind_ok (Ok x) f y e = (x, refl, e)
bind_ok (Err d) f y e = absurd cc

-- a test that did not fail
pub passed : {A : Type 0} (b : Bool) (d : TreeFault) (r : Result A TreeFault) (y : A) → cond b (Err d) r ≡ Ok y → (b ≡ false) × (r ≡ Ok y)
passed true d r y e = absurd cc
passed false d r y e = (refl, e)

pub held : {A : Type 0} (b : Bool) (d : TreeFault) (r : Result A TreeFault) (y : A) → cond b r (Err d) ≡ Ok y → (b ≡ true) × (r ≡ Ok y)
held true d r y e = (refl, e)
held false d r y e = absurd cc

abbrev done : {A : Type 0} → A → Result A TreeFault
done x = Ok x

pub ok_is : {A : Type 0} (x y : A) → done x ≡ done y → x ≡ y
ok_is x y e = cc

-- what a reader took from the front
pub record Takes (bytes text rest : List ℕ) : Type 0 where
  pub parts : bytes ≡ text ++ rest
  pub rest_fits : IsBytes rest

pub Takes-then : (a x b y c : List ℕ) → Takes a x b → Takes b y c → Takes a (x ++ y) c
Takes-then a x b y c p q = record { parts = p.parts ∙ ap (λ (t : List ℕ). x ++ t) q.parts ∙ sym (append_assoc x y c); rest_fits = q.rest_fits }

-- ---- so many bytes

pub bytes_take : (count total : ℕ) (bytes text rest : List ℕ) → IsBytes bytes → bytes_at count total bytes ≡ Ok (text, rest) → Takes bytes text rest × (length text ≡ count)
unfolding bytes_at
bytes_take count total bytes text rest fits e =
    let g = passed (ltb (length bytes) count) (BadForm total) (Ok (take count bytes, drop count bytes)) (text, rest) e in
    let long : count ≤ length bytes = ltb-false _ _ g.0 in
    let both = ok_is (take count bytes, drop count bytes) (text, rest) g.1 in
    let made : Takes bytes (take count bytes) (drop count bytes) × (length (take count bytes) ≡ count) =
    (record { parts = sym (take-append-drop count bytes); rest_fits = IsBytes-drop count bytes fits }, omega (arith, length-take count bytes)) in
    subst (λ (p : List ℕ × List ℕ). Takes bytes p.0 p.1 × (length p.0 ≡ count)) both made

pub bytes_again : (count total : ℕ) (text rest : List ℕ) → length text ≡ count → bytes_at count total (text ++ rest) ≡ Ok (text, rest)
unfolding bytes_at
bytes_again count total text rest len =
    let long : ltb (length (text ++ rest)) count ≡ false = le-ltb _ _ (omega (arith, length-append text rest)) in
    rw (long, take_at text rest count len, drop_at text rest count len) refl

-- ---- numbers

pub record IsWide (w : Width) (limit : ℕ) : Type 0 where
  pub len : (n : ℕ) → length (to_le_bytes w n) ≡ byte_len w
  pub back : (bytes : List ℕ) → length bytes ≡ byte_len w → IsBytes bytes → to_le_bytes w (from_le_bytes w bytes) ≡ bytes
  pub again : (n : ℕ) → n < limit → from_le_bytes w (to_le_bytes w n) ≡ n
  pub below : (bytes : List ℕ) → IsBytes bytes → from_le_bytes w bytes < limit

pub wide32 : IsWide w32 (2 ^ 32)
wide32 = record {
  len = λ n. refl;
  back = λ bytes len fits. le_bytes_4 bytes _ len fits refl;
  again = λ n lt. from_le_bytes-to_le_bytes_4 n lt;
  below = λ bytes fits. omega (arith, fits 0, fits 1, fits 2, fits 3);
}

pub number_takes : (w : Width) (limit : ℕ) (wide : IsWide w limit) (total : ℕ) (bytes : List ℕ) (n : ℕ) (rest : List ℕ) → IsBytes bytes → number_at w total bytes ≡ Ok (n, rest) → Takes bytes (to_le_bytes w n) rest × (n < limit)
unfolding number_at
number_takes w limit wide total bytes n rest fits e =
    let g = passed (ltb (length bytes) (byte_len w)) (BadForm total) (Ok (from_le_bytes w (take (byte_len w) bytes), drop (byte_len w) bytes)) (n, rest) e in
    let long : byte_len w ≤ length bytes = ltb-false _ _ g.0 in
    let both = ok_is (from_le_bytes w (take (byte_len w) bytes), drop (byte_len w) bytes) (n, rest) g.1 in
    let n-is : from_le_bytes w (take (byte_len w) bytes) ≡ n = ap (λ (p : ℕ × List ℕ). p.0) both in
    let rest-is : drop (byte_len w) bytes ≡ rest = ap (λ (p : ℕ × List ℕ). p.1) both in
    let front : to_le_bytes w n ≡ take (byte_len w) bytes = rw (← n-is) (wide.back (take (byte_len w) bytes) (omega (arith, length-take (byte_len w) bytes)) (IsBytes-take (byte_len w) bytes fits)) in
    (record { parts = rw (front, ← rest-is) (sym (take-append-drop (byte_len w) bytes)); rest_fits = rw (← rest-is) (IsBytes-drop (byte_len w) bytes fits) }, rw (← n-is) (wide.below (take (byte_len w) bytes) (IsBytes-take (byte_len w) bytes fits)))

pub number_again : (w : Width) (limit : ℕ) (wide : IsWide w limit) (total n : ℕ) (rest : List ℕ) → n < limit → number_at w total (to_le_bytes w n ++ rest) ≡ Ok (n, rest)
unfolding number_at
number_again w limit wide total n rest lt =
    let len = wide.len n in
    let long : ltb (length (to_le_bytes w n ++ rest)) (byte_len w) ≡ false = le-ltb _ _ (omega (arith, length-append (to_le_bytes w n) rest)) in
    rw (long, take_at (to_le_bytes w n) rest (byte_len w) len, drop_at (to_le_bytes w n) rest (byte_len w) len, wide.again n lt) refl

-- the one byte of a number
pub byte_takes : (total : ℕ) (bytes : List ℕ) (n : ℕ) (rest : List ℕ) → IsBytes bytes → number_at w8 total bytes ≡ Ok (n, rest) → Takes bytes (n ∷ []) rest
unfolding number_at
byte_takes total [] n rest fits e = absurd cc
byte_takes total (b ∷ bytes) n rest fits e =
    let g = passed (ltb (length (b ∷ bytes)) 1) (BadForm total) (Ok (from_le_bytes w8 (take 1 (b ∷ bytes)), bytes)) (n, rest) e in
    let both = ok_is (from_le_bytes w8 (take 1 (b ∷ bytes)), bytes) (n, rest) g.1 in
    let one : from_le_bytes w8 (take 1 (b ∷ bytes)) ≡ b = omega arith in
    let n-is : b ≡ n = sym one ∙ ap (λ (p : ℕ × List ℕ). p.0) both in
    let rest-is : bytes ≡ rest = ap (λ (p : ℕ × List ℕ). p.1) both in
    record { parts = cc; rest_fits = subst (λ (r : List ℕ). IsBytes r) rest-is (λ i. fits (suc i)) }

pub byte_again : (total n : ℕ) (rest : List ℕ) → number_at w8 total (n ∷ rest) ≡ Ok (n, rest)
unfolding number_at
byte_again total n rest =
    let long : ltb (length (n ∷ rest)) 1 ≡ false = le-ltb _ _ (omega arith) in
    let one : from_le_bytes w8 (take 1 (n ∷ rest)) ≡ n = omega arith in
    rw (long, one) refl
