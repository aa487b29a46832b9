-- A file that is read in pieces.
use Rattle.std.proofs.Common.{◌≡◌, ℕ, ◌+◌, ◌<◌, ◌≤◌, List, [], ◌++◌, length, take, drop, Option, None, Some, refl, sym, ap, ◌∙◌, subst, arith, length-append, inl, inr}
use Rattle.std.proofs.lemmas.Bool.{cases_lt}
use Rattle.std.specs.Option.{ForSome}
use Rattle.std.proofs.lemmas.List.{take_all, length-take-le}
use Rattle.std.proofs.Math.Seq.{take-add}
use Rattle.cm_tree.specs.Folders.{GivesPart}
use Rattle.sha2.specs.Sha256.{sha256}
use Rattle.cm_base.specs.declared.file_hasher.FileHasher.{FileHasher}
use Rattle.cm_base.specs.Fed.{WasFed}
use Rattle.cm_tree.specs.Walks.{AreBytes, IsHashOf}

-- the front of a file
pub record IsPart (file bytes : List ℕ) : Type 0 where
  pub long : length file ≤ length bytes
  pub front : file ≡ take (length file) bytes

pub part_none : (bytes : List ℕ) → IsPart [] bytes
part_none bytes = record { long = omega arith; front = refl }

-- one piece more
pub part_more : (file bytes buffer : List ℕ) (count : ℕ) → IsPart file bytes → GivesPart bytes (length file) buffer count → 0 < count → count ≤ length buffer
    → IsPart (file ++ take count buffer) bytes
part_more file bytes buffer count part gives some fits =
    let within = gives.within some in
    let len : length (take count buffer) ≡ count = length-take-le count buffer fits in
    let whole : length (file ++ take count buffer) ≡ length file + count = omega (arith, len, length-append file (take count buffer)) in
    record {
      long = omega (arith, whole, within);
      front =
          ap (λ (x : List ℕ). file ++ x) gives.part
          ∙ (ap (λ (x : List ℕ). x ++ take count (drop (length file) bytes)) part.front
          ∙ (sym (take-add (length file) count bytes) ∙ ap (λ k. take k bytes) (sym whole)));
    }

at_end : (m n : ℕ) → (m < n → 0 < 0) → n ≤ m
at_end m n h = elim (cases_lt m n) [ inl lt ↦ absurd (not_below (h lt)) | inr le ↦ le ]
  where
    not_below : 0 < 0 → ⊥
    not_below h = omega arith

-- no piece more
pub part_all : (file bytes buffer : List ℕ) → IsPart file bytes → GivesPart bytes (length file) buffer 0 → 0 < length buffer → file ≡ bytes
part_all file bytes buffer part gives room = part.front ∙ take_all (length file) bytes (at_end (length file) (length bytes) (gives.some room))

pub told_more : (told now : Option (List ℕ)) (file buffer : List ℕ) (count : ℕ) → now ≡ told → ForSome told (λ bytes. IsPart file bytes)
    → ForSome now (λ bytes. GivesPart bytes (length file) buffer count) → 0 < count → count ≤ length buffer → ForSome told (λ bytes. IsPart (file ++ take count buffer) bytes)
told_more told now file buffer count same part gives some fits = λ bytes is. part_more file bytes buffer count (part bytes is) (gives bytes (same ∙ is)) some fits

pub told_all : (told now : Option (List ℕ)) (file buffer : List ℕ) → now ≡ told → ForSome told (λ bytes. IsPart file bytes)
    → ForSome now (λ bytes. GivesPart bytes (length file) buffer 0) → 0 < length buffer → AreBytes told file
told_all told now file buffer same part gives room = λ bytes is. part_all file bytes buffer (part bytes is) (gives bytes (same ∙ is)) room

-- some bytes that agree with what is told, and are no fewer than those that came
pub told_long : (told : Option (List ℕ)) (file : List ℕ) (most : ℕ) → ForSome told (λ bytes. IsPart file bytes) → most < length file → (bytes : List ℕ) × (most < length bytes) × AreBytes told bytes
told_long None file most part long = (file, long, λ bytes is. absurd cc)
told_long (Some all) file most part long = (all, omega (arith, (part all refl).long), λ bytes is. cc)

-- a hasher that was fed the front of a file
pub record IsFed (told : Option (List ℕ)) (hasher : FileHasher) (at : ℕ) : Type 0 where
  pub fed : List ℕ
  pub was : WasFed hasher fed
  pub part : ForSome told (λ bytes. IsPart fed bytes)
  pub count : at ≡ length fed

pub fed_none : (told : Option (List ℕ)) (hasher : FileHasher) → WasFed hasher [] → IsFed told hasher 0
fed_none told hasher was = record { fed = []; was = was; part = λ bytes is. part_none bytes; count = refl }

pub fed_more : (told now : Option (List ℕ)) (old new : FileHasher) (at : ℕ) (buffer : List ℕ) (count : ℕ) → IsFed told old at → now ≡ told
    → ForSome now (λ bytes. GivesPart bytes at buffer count) → 0 < count → count ≤ length buffer
    → ((before : List ℕ) → WasFed old before → WasFed new (before ++ take count buffer)) → IsFed told new (at + count)
fed_more told now old new at buffer count is same gives some fits feeds = record {
  fed = is.fed ++ take count buffer;
  was = feeds is.fed is.was;
  part = told_more told now is.fed buffer count same is.part (subst (λ k. ForSome now (λ bytes. GivesPart bytes k buffer count)) is.count gives) some fits;
  count = omega (arith, is.count, length-take-le count buffer fits, length-append is.fed (take count buffer));
}

pub fed_all : (told now : Option (List ℕ)) (hasher : FileHasher) (at most : ℕ) (buffer hash : List ℕ) → IsFed told hasher at → now ≡ told → at ≤ most
    → ForSome now (λ bytes. GivesPart bytes at buffer 0) → 0 < length buffer
    → ((fed : List ℕ) → WasFed hasher fed → hash ≡ sha256 fed) → IsHashOf told most at hash
fed_all told now hasher at most buffer hash is same few gives room done = record {
  bytes = is.fed;
  told_so = told_all told now is.fed buffer same is.part (subst (λ k. ForSome now (λ bytes. GivesPart bytes k buffer 0)) is.count gives) room;
  few = omega (arith, is.count);
  size_is = is.count;
  hash_is = done is.fed is.was;
}

pub fed_long : (told : Option (List ℕ)) (hasher : FileHasher) (at most : ℕ) → IsFed told hasher at → most < at → (bytes : List ℕ) × (most < length bytes) × AreBytes told bytes
fed_long told hasher at most is long = told_long told is.fed most is.part (omega (arith, is.count))
