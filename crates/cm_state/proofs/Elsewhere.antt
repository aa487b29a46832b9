-- The places of manifests, of files and of the log are apart.
use Rattle.std.proofs.Common.{◌≡◌, ℕ, ◌+◌, ◌<◌, ◌^◌, List, [], ◌∷◌, ◌++◌, length, take, drop, get_or, sym, ◌∙◌, ap, arith, length-append}
use Rattle.std.specs.Prelude.{◌≢◌, codes}
use Rattle.std.specs.Fmt.{decimal}
use Rattle.std.specs.Result.{result_ok}
use Rattle.std.proofs.lemmas.Fmt.{decimal_injective}
use Rattle.std.proofs.lemmas.List.{append_cancel_left}
use Rattle.std.proofs.lemmas.Option.{same_Some}
use Rattle.std.proofs.Math.Seq.{take-append_seam, drop-append_seam}
use Rattle.hex.specs.Hex.{IsBytes, encode_lower, decode_of}
use Rattle.hex.proofs.HexLemmas.{decode_of-encode_lower}
use Rattle.cm_log.specs.declared.shelf.Shelf.TheVariants.{PkgLib}
use Rattle.cm_log.specs.declared.shelf.Side.{Side}
use Rattle.cm_log.specs.declared.shelf.Side.TheVariants.{First, Second}
use Rattle.cm_log.specs.Shelves.{ready_place, log_place}
use Rattle.cm_filelib.specs.Places.{file_place}
use Rattle.cm_datalib.specs.Places.{manifest_place}

-- by their first letters: D, F, P
pub manifest_no_file : (id : List ℕ) (version : ℕ) (hash : List ℕ) → manifest_place id version ≢ file_place hash
manifest_no_file id version hash same = let e : 68 ≡ 70 = ap (λ (l : List ℕ). get_or l 0 0) same in absurd (omega (arith, e))

pub manifest_no_ready : (id : List ℕ) (version : ℕ) → manifest_place id version ≢ ready_place PkgLib
manifest_no_ready id version same = let e : 68 ≡ 80 = ap (λ (l : List ℕ). get_or l 0 0) same in absurd (omega (arith, e))

pub manifest_no_log : (id : List ℕ) (version : ℕ) (side : Side) → manifest_place id version ≢ log_place PkgLib side
manifest_no_log id version First same = let e : 68 ≡ 80 = ap (λ (l : List ℕ). get_or l 0 0) same in absurd (omega (arith, e))
manifest_no_log id version Second same = let e : 68 ≡ 80 = ap (λ (l : List ℕ). get_or l 0 0) same in absurd (omega (arith, e))

pub file_no_ready : (hash : List ℕ) → file_place hash ≢ ready_place PkgLib
file_no_ready hash same = let e : 70 ≡ 80 = ap (λ (l : List ℕ). get_or l 0 0) same in absurd (omega (arith, e))

pub file_no_log : (hash : List ℕ) (side : Side) → file_place hash ≢ log_place PkgLib side
file_no_log hash First same = let e : 70 ≡ 80 = ap (λ (l : List ℕ). get_or l 0 0) same in absurd (omega (arith, e))
file_no_log hash Second same = let e : 70 ≡ 80 = ap (λ (l : List ℕ). get_or l 0 0) same in absurd (omega (arith, e))

-- two lists whose fronts are as long
fronts : (a b c d : List ℕ) → length a ≡ length b → a ++ c ≡ b ++ d → a ≡ b
fronts a b c d long same = sym (take-append_seam a c) ∙ ap (λ (l : List ℕ). take (length a) l) same ∙ ap (λ (n : ℕ). take n (b ++ d)) long ∙ take-append_seam b d

backs : (a b c d : List ℕ) → length a ≡ length b → a ++ c ≡ b ++ d → c ≡ d
backs a b c d long same = sym (drop-append_seam a c) ∙ ap (λ (l : List ℕ). drop (length a) l) same ∙ ap (λ (n : ℕ). drop n (b ++ d)) long ∙ drop-append_seam b d

-- a manifest's place names its package and version
pub manifest_names : (id : List ℕ) (version : ℕ) (other : List ℕ) (number : ℕ) → length id ≡ 8 → length other ≡ 8 → version < 2 ^ 64 → number < 2 ^ 64
    → manifest_place id version ≡ manifest_place other number → (id ≡ other) × (version ≡ number)
manifest_names id version other number long long' below below' same =
    let text = codes "DataLib/" in
    let as_long : length (text ++ id) ≡ length (text ++ other) = length-append text id ∙ ap (λ (n : ℕ). length text + n) (long ∙ sym long') ∙ sym (length-append text other) in
    let front = fronts (text ++ id) (text ++ other) (46 ∷ decimal version) (46 ∷ decimal number) as_long same in
    let back = backs (text ++ id) (text ++ other) (46 ∷ decimal version) (46 ∷ decimal number) as_long same in
    (append_cancel_left text id other front, decimal_injective version number below below' (append_cancel_left (46 ∷ []) (decimal version) (decimal number) back))

-- a file's place names its hash
pub file_names : (hash other : List ℕ) → IsBytes hash → IsBytes other → file_place hash ≡ file_place other → hash ≡ other
file_names hash other bytes bytes' same =
    let text = append_cancel_left (codes "FileLib/") (encode_lower hash) (encode_lower other) same in
    same_Some hash other (sym (ap result_ok (decode_of-encode_lower hash bytes)) ∙ ap (λ (l : List ℕ). result_ok (decode_of l)) text ∙ ap result_ok (decode_of-encode_lower other bytes'))
