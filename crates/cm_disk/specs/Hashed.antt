-- What hashing a file gives.
use Rattle.std.specs.Prelude.{ℕ, length, Option, None, Some}
use Rattle.sha2.specs.Sha256.{sha256}
use Rattle.cm_base.specs.declared.hash.Hash.{Hash}
use Rattle.cm_disk.specs.Disk.{File}

-- the size and the SHA-256 (FIPS 180-4) of a file that is there
abbrev pub hashed : File → Option (ℕ × Hash)
hashed None = None
hashed (Some bytes) = Some (length bytes, record { 0 = sha256 bytes })
