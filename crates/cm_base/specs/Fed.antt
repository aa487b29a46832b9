-- What a file hasher was fed.
use Rattle.std.specs.Prelude.{◌≡◌, ℕ, List, length}
use Rattle.sha2.specs.Hashers.{Holds256}
use Rattle.cm_base.specs.declared.file_hasher.FileHasher.{FileHasher}

-- how many bytes it was fed
abbrev pub count_of : FileHasher → ℕ
count_of hasher = hasher.count

-- it was fed these bytes
pub record WasFed (hasher : FileHasher) (bytes : List ℕ) : Type 0 where
  pub holds : Holds256 hasher.hasher bytes
  pub count : hasher.count ≡ length bytes
