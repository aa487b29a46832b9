-- A file that grows at its end.
use Rattle.std.proofs.Common.{◌≡◌, ◌⊎◌, inl, inr, ℕ, ◌+◌, Bool, true, false, List, [], ◌++◌, length, take, drop, refl, sym, ◌∙◌, ap, subst, arith, length-append}
use Rattle.std.specs.Prelude.{◌==◌, ◌&&◌, Option, None, Some, is_some, if◌then◌else◌, Result, Ok, Err, IsErr}
use Rattle.std.specs.Str.{bytes_eq}
use Rattle.std.proofs.lemmas.Bool.{false≢true, eqb-true}
use Rattle.std.proofs.lemmas.List.{take_all, drop_all, append-nil}
use Rattle.std.proofs.lemmas.Slice.Eq.{bytes_eq-Decides}
use Rattle.sha2.specs.Sha256.{sha256}
use Rattle.cm_base.specs.Fed.{WasFed}
use Rattle.cm_disk.specs.Disk.{File, Files, bytes_of, put, written, shortened, IsPartly, Does, Only}
use Rattle.cm_disk.proofs.Puts.{put_here, put_put}
use Rattle.cm_filelib.specs.declared.writing.Writing.{Writing}
use Rattle.cm_filelib.specs.Places.{file_place}
use Rattle.cm_filelib.specs.Stored.{is_file_of, IsKept, emptied, appended}
use Rattle.cm_filelib.specs.Writings.{place_of, next_of, IsWriting}

-- the same file at a place
put_same : (files : Files) (place : List ℕ) → put files place (files place) ≡ files
put_same files place = λ i q. at q (bytes_eq place q) refl i
  where
    at : (q : List ℕ) (b : Bool) → bytes_eq place q ≡ b → put files place (files place) q ≡ files q
    at q true is = ap (λ (b : Bool). if b then files place else files q) is ∙ ap files ((bytes_eq-Decides place q).0 is)
    at q false is = ap (λ (b : Bool). if b then files place else files q) is

-- nothing is done
pub unchanged : {T E : Type 0} (told : Option Files) (place : List ℕ) (work : File → File) (fault : E) → Does {T = T} {E = E} told told place work (Err fault)
unchanged told place work fault = record {
  ok = tt;
  err = λ files is. (files place, is ∙ ap (λ (f : Files). Some f) (sym (put_same files place)), record { bytes = λ i. inl refl; there = inl refl });
  silent = λ none. none;
}

written_end : (file : File) (offset : ℕ) (bytes : List ℕ) → length (bytes_of file) ≡ offset → written offset bytes file ≡ appended bytes file
written_end file offset bytes long =
    let front : take offset (bytes_of file) ≡ bytes_of file = take_all offset (bytes_of file) (omega (arith, long)) in
    let back : drop (offset + length bytes) (bytes_of file) ≡ [] = drop_all (offset + length bytes) (bytes_of file) (omega (arith, long)) in
    ap (λ (l : List ℕ). Some ((l ++ bytes) ++ drop (offset + length bytes) (bytes_of file))) front
    ∙ ap (λ (l : List ℕ). Some ((bytes_of file ++ bytes) ++ l)) back
    ∙ ap (λ (l : List ℕ). Some l) (append-nil (bytes_of file ++ bytes))

abbrev pub EndsAt : Option Files → List ℕ → ℕ → Type 0
EndsAt told place offset = (files : Files) → told ≡ Some files → length (bytes_of (files place)) ≡ offset

moved : {T E : Type 0} (old new : Option Files) (at place : List ℕ) (work : File → File) (r : Result T E) → at ≡ place → Does old new at work r → Does old new place work r
moved old new at place work r is does = subst (λ (p : List ℕ). Does old new p work r) is does

pub appends_ok : {T E : Type 0} (old new : Option Files) (at place bytes : List ℕ) (offset : ℕ) (t : T) → at ≡ place → EndsAt old at offset
    → ((files : Files) → old ≡ Some files → new ≡ Some (put files at (written offset bytes (files at)))) → (old ≡ None → new ≡ None) → Does {T = T} {E = E} old new place (appended bytes) (Ok t)
appends_ok old new at place bytes offset t is end work silent = moved old new at place (appended bytes) (Ok t) is (record {
  ok = λ files told. work files told ∙ ap (λ (f : File). Some (put files at f)) (written_end (files at) offset bytes (end files told));
  err = tt;
  silent = silent;
})

pub appends_err : {T E : Type 0} (old new : Option Files) (at place bytes : List ℕ) (offset : ℕ) (e : E) → at ≡ place → EndsAt old at offset
    → ((files : Files) → old ≡ Some files → (file : File) × (new ≡ Some (put files at file)) × IsPartly (files at) (written offset bytes (files at)) file) → (old ≡ None → new ≡ None) → Does {T = T} {E = E} old new place (appended bytes) (Err e)
appends_err old new at place bytes offset e is end work silent = moved old new at place (appended bytes) (Err e) is (record {
  ok = tt;
  err = λ files told.
      let w = work files told in
      (w.0, w.1, subst (λ (f : File). IsPartly (files at) f w.0) (written_end (files at) offset bytes (end files told)) w.2);
  silent = silent;
})

-- where a file that is written ends
pub ends_at : (files : Files) (writing : Writing) (at : List ℕ) (offset : ℕ) → at ≡ place_of writing → offset ≡ next_of writing → IsWriting files writing → length (bytes_of (files at)) ≡ offset
ends_at files writing at offset is next w =
    ap (λ (q : List ℕ). length (bytes_of (files q))) is ∙ ap (λ (f : File). length (bytes_of f)) w.reads ∙ sym w.put.next ∙ sym next

pub writes_on : (y x : Files) (old new : Writing) (at bytes : List ℕ) (offset : ℕ) → at ≡ place_of old → place_of new ≡ place_of old → offset ≡ next_of old → IsWriting y old → put y at (written offset bytes (y at)) ≡ x
    → next_of new ≡ next_of old + length bytes → ((before : List ℕ) → WasFed old.hasher before → WasFed new.hasher (before ++ bytes)) → IsWriting x new
writes_on y x old new at bytes offset is same next w files long feeds = record {
  bytes = w.bytes ++ bytes;
  put = record { fed = feeds w.bytes w.put.fed; next = long ∙ ap (λ (n : ℕ). n + length bytes) w.put.next ∙ sym (length-append w.bytes bytes) };
  reads =
      ap x (same ∙ sym is) ∙ ap (λ (f : Files). f at) (sym files) ∙ put_here y at (written offset bytes (y at))
      ∙ written_end (y at) offset bytes (ends_at y old at offset is next w)
      ∙ ap (λ (q : List ℕ). appended bytes (y q)) is ∙ ap (λ (f : File). appended bytes f) w.reads;
}

-- a file that is durable, with its hash and its size
pub kept_by : (files : Files) (may_leave : List ℕ → File → Type 0) (at hash bytes : List ℕ) (size : ℕ) → at ≡ file_place hash → files (file_place hash) ≡ Some bytes → sha256 bytes ≡ hash → length bytes ≡ size
    → Only (files at) (may_leave at) → IsKept files may_leave hash size
kept_by files may_leave at hash bytes size is reads named long only = record {
  bytes = bytes;
  reads = reads;
  hash_is = named;
  size_is = long;
  leaves = subst (λ (f : File). Only f (may_leave (file_place hash))) reads (subst (λ (p : List ℕ). Only (files p) (may_leave p)) is only);
}

both : (a b : Bool) → (a && b) ≡ true → (a ≡ true) × (b ≡ true)
both true true is = (refl, refl)
both true false is = absurd (false≢true is)
both false b is = absurd (false≢true is)

-- a file of that hash and that size, once it is durable
pub kept_true : (files : Files) (may_leave : List ℕ → File → Type 0) (at hash : List ℕ) (size : ℕ) → at ≡ file_place hash → is_file_of hash size (files at) ≡ true → Only (files at) (may_leave at) → IsKept files may_leave hash size
kept_true files may_leave at hash size is true_ only = by (files (file_place hash)) refl (subst (λ (p : List ℕ). is_file_of hash size (files p) ≡ true) is true_)
  where
    by : (f : File) → files (file_place hash) ≡ f → is_file_of hash size f ≡ true → IsKept files may_leave hash size
    by None reads t = absurd (false≢true t)
    by (Some bytes) reads t =
        let parts = both (length bytes == size) (bytes_eq (sha256 bytes) hash) t in
        kept_by files may_leave at hash bytes size is reads ((bytes_eq-Decides (sha256 bytes) hash).0 parts.1) (eqb-true (length bytes) size parts.0) only

-- a file that is made, and is then not emptied, or only in part
pub empties_err : {T E : Type 0} (old mid new : Option Files) (at place : List ℕ) (r : Result T E) → IsErr r → at ≡ place
    → ((files : Files) → old ≡ Some files → mid ≡ Some (put files at (written 0 [] (files at)))) → (old ≡ None → mid ≡ None)
    → ((files : Files) → mid ≡ Some files → (file : File) × (new ≡ Some (put files at file)) × IsPartly (files at) (shortened 0 (files at)) file) → (mid ≡ None → new ≡ None) → Does old new place emptied r
empties_err old mid new at place (Ok t) err is made silent cut mute = absurd (false≢true err)
empties_err old mid new at place (Err e) err is made silent cut mute = moved old new at place emptied (Err e) is (record {
  ok = tt;
  err = λ files told.
      let file = written 0 [] (files at) in
      let w = cut (put files at file) (made files told) in
      let here : put files at file at ≡ file = put_here files at file in
      let part = subst (λ (f : File). IsPartly f (shortened 0 f) w.0) here w.2 in
      (w.0, w.1 ∙ ap (λ (f : Files). Some f) (put_put files at file w.0), record { bytes = part.bytes; there = inr (some w.0 part.there) });
  silent = λ none. mute (silent none);
})
  where
    some : (file : File) → (is_some file ≡ true) ⊎ (is_some file ≡ true) → is_some file ≡ true
    some file (inl is) = is
    some file (inr is) = is
