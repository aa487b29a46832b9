-- The text of a hash is read back, and each text of a hash is that of one.
use Rattle.std.proofs.Common.{◌≡◌, ℕ, zero, suc, ◌+◌, ◌-◌, ◌*◌, ◌/◌, ◌%◌, ◌<◌, ◌≤◌, Bool, true, false, List, [], ◌∷◌, ◌++◌, length, get_or, refl, sym, ◌∙◌, ap, arith}
use Rattle.std.specs.Prelude.{◌&&◌, ◌||◌, ◌==◌, nat_le, None, Some, cond, Ok, codes}
use Rattle.std.specs.List.{list_all}
use Rattle.std.specs.Result.{result_ok}
use Rattle.std.proofs.lemmas.Bool.{false≢true, eqb-true, leb-true}
use Rattle.std.proofs.lemmas.Option.{same_Some, none-some}
use Rattle.std.proofs.lemmas.List.Folds.{list_all_at}
use Rattle.hex.specs.Hex.{IsBytes, lower_digits, encode_with, encode_lower, decode_of}
use Rattle.hex.proofs.HexLemmas.{decode_of-encode_lower, length-encode_with}
use Rattle.cm_base.specs.Names.{is_digit, is_lower_hex, is_hash_text}
use Rattle.cm_base.specs.Hashes.{hash_of_text}

pub both : (a b : Bool) → (a && b) ≡ true → (a ≡ true) × (b ≡ true)
both true true is = (refl, refl)
both true false is = absurd (false≢true is)
both false b is = absurd (false≢true is)

either_ : (a b : Bool) (P : Type 0) → (a ≡ true → P) → (b ≡ true → P) → (a || b) ≡ true → P
either_ true b P f g is = f refl
either_ false b P f g is = g is

digit_is : (k : ℕ) → k < 10 → get_or lower_digits k 0 ≡ 48 + k
digit_is zero lt = refl
digit_is (suc zero) lt = refl
digit_is (suc (suc zero)) lt = refl
digit_is (suc (suc (suc zero))) lt = refl
digit_is (suc (suc (suc (suc zero)))) lt = refl
digit_is (suc (suc (suc (suc (suc zero))))) lt = refl
digit_is (suc (suc (suc (suc (suc (suc zero)))))) lt = refl
digit_is (suc (suc (suc (suc (suc (suc (suc zero))))))) lt = refl
digit_is (suc (suc (suc (suc (suc (suc (suc (suc zero)))))))) lt = refl
digit_is (suc (suc (suc (suc (suc (suc (suc (suc (suc zero))))))))) lt = refl
digit_is (suc (suc (suc (suc (suc (suc (suc (suc (suc (suc k)))))))))) lt = absurd (omega arith)

letter_is : (k : ℕ) → k < 6 → get_or lower_digits (10 + k) 0 ≡ 97 + k
letter_is zero lt = refl
letter_is (suc zero) lt = refl
letter_is (suc (suc zero)) lt = refl
letter_is (suc (suc (suc zero))) lt = refl
letter_is (suc (suc (suc (suc zero)))) lt = refl
letter_is (suc (suc (suc (suc (suc zero))))) lt = refl
letter_is (suc (suc (suc (suc (suc (suc k)))))) lt = absurd (omega arith)

-- the number that a digit stands for
value : (c : ℕ) → is_lower_hex c ≡ true → (v : ℕ) × (v < 16) × (get_or lower_digits v 0 ≡ c)
value c is = either_ (is_digit c) (nat_le 97 c && nat_le c 102) _ low high is
  where
    low : is_digit c ≡ true → (v : ℕ) × (v < 16) × (get_or lower_digits v 0 ≡ c)
    low d =
        let b = both (nat_le 48 c) (nat_le c 57) d in
        let from : 48 ≤ c = leb-true 48 c b.0 in
        let to : c ≤ 57 = leb-true c 57 b.1 in
        let back : 48 + (c - 48) ≡ c = omega arith in
        (c - 48, omega arith, digit_is (c - 48) (omega arith) ∙ back)

    high : (nat_le 97 c && nat_le c 102) ≡ true → (v : ℕ) × (v < 16) × (get_or lower_digits v 0 ≡ c)
    high d =
        let b = both (nat_le 97 c) (nat_le c 102) d in
        let from : 97 ≤ c = leb-true 97 c b.0 in
        let to : c ≤ 102 = leb-true c 102 b.1 in
        let back : 97 + (c - 97) ≡ c = omega arith in
        (10 + (c - 97), omega arith, letter_is (c - 97) (omega arith) ∙ back)

bytes_cons : (b : ℕ) (rest : List ℕ) → b < 256 → IsBytes rest → IsBytes (b ∷ rest)
bytes_cons b rest h hs zero = h
bytes_cons b rest h hs (suc i) = hs i

-- pairs of digits are the text of some bytes
spelled : (text : List ℕ) → length text % 2 ≡ 0 → list_all is_lower_hex text ≡ true → (xs : List ℕ) × IsBytes xs × (text ≡ encode_lower xs)
unfolding encode_with
spelled [] even all = ([], λ i. omega arith, refl)
spelled (a ∷ []) even all = absurd (omega arith)
spelled (a ∷ b ∷ text) even all =
    let first = both (is_lower_hex a) (list_all is_lower_hex (b ∷ text)) all in
    let second = both (is_lower_hex b) (list_all is_lower_hex text) first.1 in
    let va = value a first.0 in
    let vb = value b second.0 in
    let rest = spelled text (omega arith) second.1 in
    let above : va.0 < 16 = va.1 in
    let under : vb.0 < 16 = vb.1 in
    let high : (va.0 * 16 + vb.0) / 16 ≡ va.0 = omega arith in
    let low : (va.0 * 16 + vb.0) % 16 ≡ vb.0 = omega arith in
    let ea : a ≡ get_or lower_digits ((va.0 * 16 + vb.0) / 16) 0 = sym va.2 ∙ ap (λ (k : ℕ). get_or lower_digits k 0) (sym high) in
    let eb : b ≡ get_or lower_digits ((va.0 * 16 + vb.0) % 16) 0 = sym vb.2 ∙ ap (λ (k : ℕ). get_or lower_digits k 0) (sym low) in
    ((va.0 * 16 + vb.0) ∷ rest.0, bytes_cons (va.0 * 16 + vb.0) rest.0 (omega arith) rest.1, λ i. ea i ∷ eb i ∷ rest.2 i)

pub text_of_hash : (text hash : List ℕ) → hash_of_text text ≡ Some hash → text ≡ encode_lower hash
text_of_hash text hash is = by (is_hash_text text) refl
  where
    by : (b : Bool) → is_hash_text text ≡ b → text ≡ encode_lower hash
    by false bad =
        let clash : None ≡ Some hash = sym (ap (λ (b : Bool). cond b (result_ok (decode_of text)) None) bad) ∙ is in
        absurd (none-some hash clash)
    by true good =
        let parts = both (length text == 64) (list_all is_lower_hex text) good in
        let long : length text ≡ 64 = eqb-true (length text) 64 parts.0 in
        let s = spelled text (ap (λ (n : ℕ). n % 2) long) parts.1 in
        let read : decode_of text ≡ Ok s.0 = ap decode_of s.2 ∙ decode_of-encode_lower s.0 s.1 in
        let found : Some s.0 ≡ Some hash = sym (ap (λ r. result_ok r) read) ∙ sym (ap (λ (b : Bool). cond b (result_ok (decode_of text)) None) good) ∙ is in
        s.2 ∙ ap encode_lower (same_Some s.0 hash found)

pub text_long : (text hash : List ℕ) → hash_of_text text ≡ Some hash → length text ≡ 64
text_long text hash is = by (is_hash_text text) refl
  where
    by : (b : Bool) → is_hash_text text ≡ b → length text ≡ 64
    by false bad =
        let clash : None ≡ Some hash = sym (ap (λ (b : Bool). cond b (result_ok (decode_of text)) None) bad) ∙ is in
        absurd (none-some hash clash)
    by true good = eqb-true (length text) 64 (both (length text == 64) (list_all is_lower_hex text) good).0

digit_good : (k : ℕ) → k < 16 → is_lower_hex (get_or lower_digits k 0) ≡ true
digit_good k lt = by (is_lower_hex (get_or lower_digits k 0)) refl
  where
    by : (b : Bool) → is_lower_hex (get_or lower_digits k 0) ≡ b → b ≡ true
    by true is = refl
    by false is = absurd (false≢true (sym (list_all_at is_lower_hex lower_digits k 0 lt is)))

digits_good : (xs : List ℕ) → IsBytes xs → list_all is_lower_hex (encode_lower xs) ≡ true
unfolding encode_with
digits_good [] bytes = refl
digits_good (b ∷ xs) bytes =
    let fits : b < 256 = bytes 0 in
    let high = digit_good (b / 16) (omega arith) in
    let low = digit_good (b % 16) (omega arith) in
    ap (λ (c : Bool). c && (is_lower_hex (get_or lower_digits (b % 16) 0) && list_all is_lower_hex (encode_lower xs))) high
    ∙ ap (λ (c : Bool). c && list_all is_lower_hex (encode_lower xs)) low
    ∙ digits_good xs (λ i. bytes (suc i))

pub hash_again : (hash : List ℕ) → IsBytes hash → length hash ≡ 32 → hash_of_text (encode_lower hash) ≡ Some hash
hash_again hash bytes long =
    let size : length (encode_lower hash) ≡ 64 = length-encode_with lower_digits hash ∙ ap (λ (n : ℕ). 2 * n) long in
    let good : is_hash_text (encode_lower hash) ≡ true = ap (λ (n : ℕ). (n == 64) && list_all is_lower_hex (encode_lower hash)) size ∙ digits_good hash bytes in
    ap (λ (b : Bool). cond b (result_ok (decode_of (encode_lower hash))) None) good ∙ ap (λ r. result_ok r) (decode_of-encode_lower hash bytes)

-- a text of bytes below a limit
below_all : (xs : List ℕ) → list_all (λ b. nat_le b 255) xs ≡ true → (k : ℕ) → get_or xs k 0 < 256
below_all [] all k = omega arith
below_all (x ∷ xs) all zero = let h = leb-true x 255 (both (nat_le x 255) (list_all (λ b. nat_le b 255) xs) all).0 in omega (arith, h)
below_all (x ∷ xs) all (suc k) = below_all xs (both (nat_le x 255) (list_all (λ b. nat_le b 255) xs) all).1 k

text_bytes : (xs : List ℕ) → IsBytes (encode_lower xs)
unfolding encode_with
text_bytes [] i = omega arith
text_bytes (b ∷ xs) zero = below_all lower_digits refl (b / 16)
text_bytes (b ∷ xs) (suc zero) = below_all lower_digits refl (b % 16)
text_bytes (b ∷ xs) (suc (suc i)) = text_bytes xs i

front_bytes : (xs ys : List ℕ) → list_all (λ b. nat_le b 255) xs ≡ true → IsBytes ys → IsBytes (xs ++ ys)
front_bytes [] ys all bytes i = bytes i
front_bytes (x ∷ xs) ys all bytes zero = let h = leb-true x 255 (both (nat_le x 255) (list_all (λ b. nat_le b 255) xs) all).0 in omega (arith, h)
front_bytes (x ∷ xs) ys all bytes (suc i) = front_bytes xs ys (both (nat_le x 255) (list_all (λ b. nat_le b 255) xs) all).1 bytes i

pub place_bytes : (hash : List ℕ) → IsBytes (codes "FileLib/" ++ encode_lower hash)
place_bytes hash = front_bytes (codes "FileLib/") (encode_lower hash) refl (text_bytes hash)
