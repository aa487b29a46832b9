-- A name is ASCII.
use Rattle.std.proofs.Common.{◌≡◌, ℕ, ◌<◌, ◌≤◌, Bool, true, false, leb, ◌&&◌, List, [], ◌∷◌, length, get_or, sym, ◌∙◌, refl, arith, zero, suc, inl, inr}
use Rattle.std.specs.List.{list_all}
use Rattle.std.specs.Str.{IsAscii}
use Rattle.std.proofs.lemmas.Bool.{cases_lt, and_parts, le-leb, lt-leb, ne_eqb, false≢true}
use Rattle.cm_base.specs.Names.{is_name_byte, is_folded_name}

beyond_ascii : (b : ℕ) → 128 ≤ b → is_name_byte b ≡ false
beyond_ascii b high =
    rw (le-leb 97 b (omega (arith, high)), lt-leb b 122 (omega (arith, high)), le-leb 48 b (omega (arith, high)), lt-leb b 57 (omega (arith, high)), ne_eqb b 45 (λ e. omega (arith, high, e)), ne_eqb b 95 (λ e. omega (arith, high, e)), ne_eqb b 46 (λ e. omega (arith, high, e))) refl

ascii_byte : (b : ℕ) → is_name_byte b ≡ true → b < 128
ascii_byte b name = elim (cases_lt b 128) [ inl low ↦ low | inr high ↦ absurd (false≢true (sym (beyond_ascii b high) ∙ name)) ]

ascii_bytes : (text : List ℕ) → list_all is_name_byte text ≡ true → IsAscii text
ascii_bytes [] all i = omega arith
ascii_bytes (b ∷ text) all zero = ascii_byte b (and_parts (is_name_byte b) (list_all is_name_byte text) all).0
ascii_bytes (b ∷ text) all (suc i) = ascii_bytes text (and_parts (is_name_byte b) (list_all is_name_byte text) all).1 i

pub ascii_name : (text : List ℕ) → is_folded_name text ≡ true → IsAscii text
ascii_name text is = ascii_bytes text (and_parts (leb 1 (length text) && leb (length text) 63) (list_all is_name_byte text) is).1
