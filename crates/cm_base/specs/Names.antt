-- The texts that are names, ids, labels, places and hashes.
use Rattle.std.specs.Prelude.{ℕ, ◌+◌, ◌||◌, ◌&&◌, ◌==◌, nat_le, Bool, List, length, map, take, drop, Option, Some, None, if◌then◌else◌, cond}
use Rattle.std.specs.List.{list_all}

-- A to Z
abbrev pub is_upper : ℕ → Bool
is_upper b = nat_le 65 b && nat_le b 90

-- a to z
abbrev pub is_lower : ℕ → Bool
is_lower b = nat_le 97 b && nat_le b 122

-- 0 to 9
abbrev pub is_digit : ℕ → Bool
is_digit b = nat_le 48 b && nat_le b 57

-- A to Z becomes a to z
abbrev pub fold_byte : ℕ → ℕ
fold_byte b = if is_upper b then b + 32 else b

-- a byte of a server's name, after folding: a to z, 0 to 9, `-`, `_` and `.`
abbrev pub is_name_byte : ℕ → Bool
is_name_byte b = is_lower b || is_digit b || b == 45 || b == 95 || b == 46

-- the text is a name that is folded: 1 to 63 such bytes
abbrev pub is_folded_name : List ℕ → Bool
is_folded_name text = nat_le 1 (length text) && nat_le (length text) 63 && list_all is_name_byte text

-- the name that a text gives: the text, folded, where that is a name
abbrev pub name_of : List ℕ → Option (List ℕ)
name_of text = cond (is_folded_name (map fold_byte text)) (Some (map fold_byte text)) None

-- printable ASCII, blank among it
abbrev pub is_printable : ℕ → Bool
is_printable b = nat_le 32 b && nat_le b 126

-- a label: 1 to 63 printable bytes
abbrev pub is_label : List ℕ → Bool
is_label text = nat_le 1 (length text) && nat_le (length text) 63 && list_all is_printable text

-- a place: 1 to 120 bytes
abbrev pub is_place : List ℕ → Bool
is_place text = nat_le 1 (length text) && nat_le (length text) 120

-- A to Z or 0 to 9
abbrev pub is_code_byte : ℕ → Bool
is_code_byte b = is_upper b || is_digit b

-- an upper-case hexadecimal digit: 0 to 9 or A to F
abbrev pub is_upper_hex : ℕ → Bool
is_upper_hex b = is_digit b || (nat_le 65 b && nat_le b 70)

-- a package id: three characters A to Z or 0 to 9, then five upper-case hexadecimal digits
abbrev pub is_package_id : List ℕ → Bool
is_package_id text = length text == 8 && list_all is_code_byte (take 3 text) && list_all is_upper_hex (drop 3 text)

-- a lower-case hexadecimal digit: 0 to 9 or a to f
abbrev pub is_lower_hex : ℕ → Bool
is_lower_hex b = is_digit b || (nat_le 97 b && nat_le b 102)

-- the text of a hash: 64 lower-case hexadecimal digits
abbrev pub is_hash_text : List ℕ → Bool
is_hash_text text = length text == 64 && list_all is_lower_hex text

-- the text itself, where it is of its form
abbrev pub text_if : Bool → List ℕ → Option (List ℕ)
text_if good text = cond good (Some text) None
