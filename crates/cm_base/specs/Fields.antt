-- What a reader of fixed fields does.
use Rattle.std.specs.Prelude.{◌≡◌, ℕ, ◌<◌, ◌≤◌, List, length, take, drop, Option, None, Some}
use Rattle.std.specs.Int.{Width, byte_len, from_le_bytes}
use Rattle.cm_base.specs.declared.field_reader.FieldReader.{FieldReader}

-- all bytes that the reader was made for
abbrev pub whole_of : FieldReader → List ℕ
whole_of reader = reader.bytes.now

-- the bytes that it has not read yet
abbrev pub left_of : FieldReader → List ℕ
left_of reader = drop reader.at reader.bytes.now

-- it took so many bytes from the front of those left
pub record Takes (count : ℕ) (old new : FieldReader) : Type 0 where
  pub enough : count ≤ length (left_of old)
  pub left : left_of new ≡ drop count (left_of old)
  pub whole : whole_of new ≡ whole_of old

-- it took nothing, since fewer are left
pub record TakesNone (count : ℕ) (old new : FieldReader) : Type 0 where
  pub short : length (left_of old) < count
  pub same : new ≡ old

-- it gives the next bytes, or none where fewer are left
abbrev pub ReadsBytes : ℕ → FieldReader → FieldReader → Option (List ℕ) → Type 0
ReadsBytes count old new None = TakesNone count old new
ReadsBytes count old new (Some bytes) = (bytes ≡ take count (left_of old)) × Takes count old new

-- it gives the number in the next bytes, the least byte first, or none where fewer are left
abbrev pub ReadsNumber : Width → FieldReader → FieldReader → Option ℕ → Type 0
ReadsNumber w old new None = TakesNone (byte_len w) old new
ReadsNumber w old new (Some n) = (n ≡ from_le_bytes w (take (byte_len w) (left_of old))) × Takes (byte_len w) old new
