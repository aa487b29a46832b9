-- The name of a default group is a label.
use Rattle.std.proofs.Common.{◌≡◌, ℕ, true, ◌&&◌, ◌==◌, List, [], ◌∷◌, length, arith}
use Rattle.std.specs.List.{list_all}
use Rattle.std.proofs.lemmas.Bool.{and_parts, eqb-true}
use Rattle.cm_base.specs.Names.{is_code_byte, is_printable, is_label}
use Rattle.cm_groups.specs.Codes.{is_site_code, default_name}

printable : (b : ℕ) → is_code_byte b ≡ true → is_printable b ≡ true
printable b e = grind arith

three : (code : List ℕ) → length code ≡ 3 → list_all is_code_byte code ≡ true → is_label (default_name code) ≡ true
three [] l e = absurd (omega (arith, l))
three (a ∷ []) l e = absurd (omega (arith, l))
three (a ∷ b ∷ []) l e = absurd (omega (arith, l))
three (a ∷ b ∷ c ∷ []) l e =
    let first = and_parts (is_code_byte a) (is_code_byte b && (is_code_byte c && true)) e in
    let second = and_parts (is_code_byte b) (is_code_byte c && true) first.1 in
    let third = and_parts (is_code_byte c) true second.1 in
    rw (printable a first.0, printable b second.0, printable c third.0)
three (a ∷ b ∷ c ∷ d ∷ rest) l e = absurd (omega (arith, l))

pub default_label : (code : List ℕ) → is_site_code code ≡ true → is_label (default_name code) ≡ true
default_label code e =
    let parts = and_parts (length code == 3) (list_all is_code_byte code) e in
    three code (eqb-true (length code) 3 parts.0) parts.1
