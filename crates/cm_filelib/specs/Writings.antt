-- A file that is being written.
use Rattle.std.specs.Prelude.{◌≡◌, ℕ, Bool, List, length, Some}
use Rattle.cm_base.specs.Fed.{WasFed}
use Rattle.cm_base.specs.declared.hash.Hash.{Hash}
use Rattle.cm_disk.specs.Disk.{Files}
use Rattle.cm_filelib.specs.declared.writing.Writing.{Writing}
use Rattle.cm_filelib.specs.Places.{file_place}

-- the hash and the size that it is to have
abbrev pub hash_of : Writing → Hash
hash_of writing = writing.hash

abbrev pub size_of : Writing → ℕ
size_of writing = writing.size

-- its place
abbrev pub place_of : Writing → List ℕ
place_of writing = file_place writing.hash.0

-- where the next piece goes
abbrev pub next_of : Writing → ℕ
next_of writing = writing.next

-- a put has failed
abbrev pub is_spent : Writing → Bool
is_spent writing = writing.spent

-- these bytes were put so far
pub record WasPut (writing : Writing) (bytes : List ℕ) : Type 0 where
  pub fed : WasFed writing.hasher bytes
  pub next : writing.next ≡ length bytes

-- the place has the bytes that were put, and no others
pub record IsWriting (files : Files) (writing : Writing) : Type 0 where
  pub bytes : List ℕ
  pub put : WasPut writing bytes
  pub reads : files (place_of writing) ≡ Some bytes
