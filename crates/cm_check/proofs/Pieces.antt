-- A file is hashed, piece by piece.
use Rattle.std.proofs.Common.{◌≡◌, ℕ, ◌+◌, ◌-◌, ◌<◌, ◌≤◌, false, List, ◌++◌, length, take, drop, sym, ◌∙◌, ap, subst, arith}
use Rattle.std.specs.Prelude.{is_some, min, slice_get, Option, None, Some}
use Rattle.std.proofs.Math.Seq.{take-add}
use Rattle.std.proofs.lemmas.List.{length-take-le}
use Rattle.cm_base.specs.Fed.{WasFed}
use Rattle.cm_base.specs.declared.file_hasher.FileHasher.{FileHasher}
use Rattle.cm_contents.specs.Seals.{version_manifest}
use Rattle.cm_disk.specs.Disk.{File, Files, bytes_of}
use Rattle.cm_filelib.specs.Places.{file_place}
use Rattle.cm_library.specs.Kept.{Seen}
use Rattle.cm_state.specs.State.{State}
use Rattle.cm_check.specs.Looks.{Looks, OfFile}

-- where there is no file, none is read
pub number_none : (file : File) (offset most : ℕ) → false ≡ is_some file → 0 ≡ min most (length (bytes_of file) - offset)
number_none None offset most is = omega arith
number_none (Some bytes) offset most is = absurd (cc)

-- a front of a file was fed, and a piece more
pub front_more : (file : File) (size offset count : ℕ) (old new : FileHasher) → (size ≤ length (bytes_of file) → WasFed old (take offset (bytes_of file))) → ((before : List ℕ) → WasFed old before → WasFed new (before ++ take count (drop offset (bytes_of file))))
    → size ≤ length (bytes_of file) → WasFed new (take (offset + count) (bytes_of file))
front_more file size offset count old new so_far more le =
    subst (λ (l : List ℕ). WasFed new l) (sym (take-add offset count (bytes_of file))) (more (take offset (bytes_of file)) (so_far le))

-- what is read goes no further than the size
pub within_left : (offset size left count : ℕ) (piece : List ℕ) → offset < size → left ≡ min (size - offset) 65536 → length piece ≡ 65536 → count ≤ length (take left piece) → offset + count ≤ size
within_left offset size left count piece lt is room fits =
    let few : left ≤ length piece = omega (arith, is, room) in
    let long = length-take-le left piece few in
    omega (arith, long, is, lt, fits)

module _ {D : Type 0} (reads : D → Option Files) (id : List ℕ) (version n : ℕ) where
  -- the file of the entry, by a library that was looked at
  pub of_then : (first now : Seen D) (P : File → Type 0) → Looks reads first now → OfFile (reads now.disk) (version_manifest id version now.state) n P → OfFile (reads first.disk) (version_manifest id version first.state) n P
  of_then first now P looks here = λ e at files told. here e (ap (λ (s : State). slice_get (version_manifest id version s) n) looks.rows.state ∙ at) files (looks.same ∙ told)

  pub of_both : (first : Seen D) (P Q R : File → Type 0) → OfFile (reads first.disk) (version_manifest id version first.state) n P → OfFile (reads first.disk) (version_manifest id version first.state) n Q → ((file : File) → P file → Q file → R file)
      → OfFile (reads first.disk) (version_manifest id version first.state) n R
  of_both first P Q R p q gives = λ e at files told. gives (files (file_place e.hash.0)) (p e at files told) (q e at files told)
