-- A file is hashed whole.
use Rattle.std.proofs.Common.{◌≡◌, ℕ, ◌≤◌, List, length, take, sym, ◌∙◌, ap, subst, arith}
use Rattle.std.specs.Prelude.{Option, None, Some, option_map}
use Rattle.std.proofs.lemmas.List.{take_all}
use Rattle.std.proofs.lemmas.Option.{same_Some, none-some}
use Rattle.sha2.specs.Sha256.{sha256}
use Rattle.cm_base.specs.declared.hash.Hash.{Hash}
use Rattle.cm_base.specs.Fed.{WasFed}
use Rattle.cm_base.specs.declared.file_hasher.FileHasher.{FileHasher}
use Rattle.cm_disk.specs.Disk.{File, bytes_of}
use Rattle.cm_disk.specs.Hashed.{hashed}

-- a file of the size that was told, all of which was fed
pub hashed-fed : (file : File) (told : Option ℕ) (size : ℕ) (hasher : FileHasher) (got : ℕ × Hash) → told ≡ Some size → told ≡ option_map length file
    → (size ≤ length (bytes_of file) → WasFed hasher (take size (bytes_of file))) → ((fed : List ℕ) → WasFed hasher fed → (got.0 ≡ length fed) × (got.1.0 ≡ sha256 fed)) → Some got ≡ hashed file
hashed-fed None told size hasher got some value fed done = absurd (none-some size (sym value ∙ some))
hashed-fed (Some bytes) told size hasher got some value fed done =
    let long : length bytes ≡ size = same_Some (length bytes) size (sym value ∙ some) in
    let all : take size bytes ≡ bytes = take_all size bytes (omega (arith, long)) in
    let whole : WasFed hasher bytes = subst (λ (l : List ℕ). WasFed hasher l) all (fed (omega (arith, long))) in
    let is = done bytes whole in
    ap (λ (n : ℕ). Some (n, got.1)) is.0 ∙ ap (λ (l : List ℕ). Some (length bytes, record { 0 = l })) is.1
