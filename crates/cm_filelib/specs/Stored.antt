-- What stands at the place of a hash.
use Rattle.std.specs.Prelude.{◌≡◌, ℕ, Bool, true, false, ◌==◌, ◌&&◌, List, [], ◌++◌, length, None, Some}
use Rattle.std.specs.Str.{bytes_eq}
use Rattle.sha2.specs.Sha256.{sha256}
use Rattle.cm_disk.specs.Disk.{File, Files, bytes_of, Only}
use Rattle.cm_filelib.specs.Places.{file_place}

-- the bytes have this SHA-256 and this size
abbrev pub is_named : List ℕ → ℕ → List ℕ → Bool
is_named hash size bytes = length bytes == size && bytes_eq (sha256 bytes) hash

-- so has a file that is there
abbrev pub is_file_of : List ℕ → ℕ → File → Bool
is_file_of hash size None = false
is_file_of hash size (Some bytes) = is_named hash size bytes

-- the file of a hash is whole, and whatever a stop leaves it is so
pub record IsKept (files : Files) (may_leave : List ℕ → File → Type 0) (hash : List ℕ) (size : ℕ) : Type 0 where
  pub bytes : List ℕ
  pub reads : files (file_place hash) ≡ Some bytes
  pub hash_is : sha256 bytes ≡ hash
  pub size_is : length bytes ≡ size
  pub leaves : Only (Some bytes) (may_leave (file_place hash))

-- whatever a stop leaves at the place of a hash is a file of this SHA-256 and this size
abbrev pub IsFileSure : (List ℕ → File → Type 0) → List ℕ → ℕ → Type 0
IsFileSure may_leave hash size = (left : File) → may_leave (file_place hash) left → is_file_of hash size left ≡ true

-- a file that is made or made empty, and one with more bytes behind
abbrev pub emptied : File → File
emptied file = Some []

abbrev pub appended : List ℕ → File → File
appended bytes file = Some (bytes_of file ++ bytes)
