-- A file by its size and its hash.
use Rattle.std.proofs.Common.{◌≡◌, ℕ, Bool, false, List, length, refl, sym, ◌∙◌, ap, eq-eqb}
use Rattle.std.specs.Prelude.{◌==◌, ◌&&◌, Option, None, Some}
use Rattle.std.specs.Str.{bytes_eq}
use Rattle.std.proofs.lemmas.Option.{same_Some, none-some}
use Rattle.std.proofs.lemmas.Slice.Eq.{bytes_eq-Decides}
use Rattle.sha2.specs.Sha256.{sha256}
use Rattle.cm_base.specs.declared.hash.Hash.{Hash}
use Rattle.cm_disk.specs.Disk.{File, Files}
use Rattle.cm_disk.specs.Hashed.{hashed}
use Rattle.cm_filelib.specs.Stored.{is_file_of, IsKept, IsFileSure}

-- a file that was found is judged by its size and its hash
pub is_file_of-hashed : (file : File) (read : ℕ) (got : Hash) (hash : List ℕ) (size : ℕ) → Some (read, got) ≡ hashed file → is_file_of hash size file ≡ ((read == size) && bytes_eq got.0 hash)
is_file_of-hashed None read got hash size is = absurd (none-some (read, got) (sym is))
is_file_of-hashed (Some bytes) read got hash size is =
    let same : (read, got) ≡ (length bytes, record { 0 = sha256 bytes }) = same_Some (read, got) (length bytes, record { 0 = sha256 bytes }) is in
    ap (λ (found : ℕ × Hash). (found.0 == size) && bytes_eq found.1.0 hash) (sym same)

-- no file was found
pub is_file_of-absent : (file : File) (hash : List ℕ) (size : ℕ) → None ≡ hashed file → is_file_of hash size file ≡ false
is_file_of-absent None hash size is = refl
is_file_of-absent (Some bytes) hash size is = absurd (none-some (length bytes, record { 0 = sha256 bytes }) is)

-- a file that is kept is sure
pub is_sure : (files : Files) (may_leave : List ℕ → File → Type 0) (hash : List ℕ) (size : ℕ) → IsKept files may_leave hash size → IsFileSure may_leave hash size
is_sure files may_leave hash size kept left may =
    ap (is_file_of hash size) (kept.leaves left may)
    ∙ ap (λ (b : Bool). b && bytes_eq (sha256 kept.bytes) hash) (eq-eqb (length kept.bytes) size kept.size_is)
    ∙ (bytes_eq-Decides (sha256 kept.bytes) hash).1 kept.hash_is
