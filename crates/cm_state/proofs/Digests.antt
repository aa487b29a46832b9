-- A digest is a list of bytes.
use Rattle.std.proofs.Common.{ℕ, zero, suc, ◌<◌, List, [], ◌∷◌, arith}
use Rattle.std.specs.Prelude.{slice_index}
use Rattle.std.specs.List.{AllByRecursion}
use Rattle.std.specs.Int.{to_be_bytes, w32}
use Rattle.sha2.specs.Sha256.{digest_bytes, final_hash, initial_hash_256, sha256}
use Rattle.hex.specs.Hex.{IsBytes}
use Rattle.cm_pkglib.proofs.Among.{All-append}

abbrev Small : ℕ → Type 0
Small n = n < 256

word_small : (n : ℕ) → AllByRecursion Small (to_be_bytes w32 n)
word_small n = (omega arith, (omega arith, (omega arith, (omega arith, tt))))

digest_small : (h : List ℕ) (n : ℕ) → AllByRecursion Small (digest_bytes h n)
unfolding digest_bytes
digest_small h zero = tt
digest_small h (suc n) = All-append Small (digest_bytes h n) (to_be_bytes w32 (slice_index h n)) (digest_small h n) (word_small (slice_index h n))

at_small : (xs : List ℕ) → AllByRecursion Small xs → IsBytes xs
at_small [] all i = omega arith
at_small (x ∷ xs) all zero = all.0
at_small (x ∷ xs) all (suc i) = at_small xs all.1 i

pub sha256_bytes : (m : List ℕ) → IsBytes (sha256 m)
unfolding sha256
sha256_bytes m = at_small _ (digest_small (final_hash initial_hash_256 m) 8)
