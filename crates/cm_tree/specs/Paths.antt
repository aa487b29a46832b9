-- The paths of files.
use Rattle.std.specs.Prelude.{ℕ, ◌||◌, ◌&&◌, ◌==◌, nat_le, not, Bool, true, false, List, [], ◌∷◌, length, map}
use Rattle.std.specs.List.{list_all, list_any, slice_split}
use Rattle.std.specs.Ordering.{nat_cmp, is_lt, is_eq}
use Rattle.std.specs.Cmp.Lexicographic.{slice_cmp}
use Rattle.cm_base.specs.Names.{is_printable, fold_byte}

-- a byte that no path holds: `\ : * ? " < > |`
abbrev pub is_barred : ℕ → Bool
is_barred b = b == 92 || b == 58 || b == 42 || b == 63 || b == 34 || b == 60 || b == 62 || b == 124

-- a byte of a path, `/` among them
abbrev pub is_path_byte : ℕ → Bool
is_path_byte b = is_printable b && not (is_barred b)

-- no bytes, `.` or `..`
abbrev pub is_dots : List ℕ → Bool
is_dots [] = true
is_dots (a ∷ []) = a == 46
is_dots (a ∷ b ∷ []) = a == 46 && b == 46
is_dots (a ∷ b ∷ c ∷ rest) = false

-- the parts between the slashes
abbrev pub parts_of : List ℕ → List (List ℕ)
parts_of text = slice_split (λ b. b == 47) text

-- the path of a file: 1 to 240 bytes, and no part is empty, `.` or `..`
abbrev pub is_file_path : List ℕ → Bool
is_file_path text = nat_le 1 (length text) && nat_le (length text) 240 && list_all is_path_byte text && list_all (λ part. not (is_dots part)) (parts_of text)

-- A to Z become a to z
abbrev pub folded_path : List ℕ → List ℕ
folded_path path = map fold_byte path

-- one path stands before another in the order of bytes
abbrev pub is_before : List ℕ → List ℕ → Bool
is_before a b = is_lt (slice_cmp nat_cmp a b)

-- two paths have the same bytes
abbrev pub is_same : List ℕ → List ℕ → Bool
is_same a b = is_eq (slice_cmp nat_cmp a b)

-- each path stands before the next
abbrev pub is_rising : List (List ℕ) → Bool
is_rising [] = true
is_rising (a ∷ []) = true
is_rising (a ∷ b ∷ rest) = is_before a b && is_rising (b ∷ rest)

-- a path of the list has these bytes
abbrev pub has_path : List (List ℕ) → List ℕ → Bool
has_path paths path = list_any (λ other. is_same path other) paths

-- no two paths have the same bytes
abbrev pub is_distinct : List (List ℕ) → Bool
is_distinct [] = true
is_distinct (a ∷ rest) = not (has_path rest a) && is_distinct rest

-- no two paths are the same after folding
abbrev pub is_apart : List (List ℕ) → Bool
is_apart paths = is_distinct (map folded_path paths)
