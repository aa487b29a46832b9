-- What the laws of a disk in memory name, of a record of calls. These lemmas stand here, and not in proofs/, since a law of an
-- impl can name nothing outside of specs/.
use Rattle.std.specs.Prelude.{◌≡◌, ◌⊎◌, ℕ, ◌+◌, ◌^◌, ◌<◌, ◌≤◌, ◌==◌, Bool, true, false, if◌then◌else◌, ◌&&◌, ◌||◌, nat_le, nat_lt, List, [], ◌∷◌, ◌++◌, length, take, drop, None, Some, slice_get}
use Rattle.std.specs.Str.{bytes_eq}
use Rattle.std.proofs.Common.{inl, inr, zero, suc, refl, sym, ◌∙◌, ap, subst, arith}
use Rattle.std.proofs.lemmas.Option.{none-some, same_Some}
use Rattle.std.proofs.Math.Seq.{take-length}
use Rattle.std.proofs.lemmas.List.{append-nil, take-append-drop}
use Rattle.std.proofs.lemmas.Bool.Decides.{nat_tests}
use Rattle.cm_disk.specs.declared.calls.Span.{Span}
use Rattle.cm_disk.specs.declared.calls.Work.{Work}
use Rattle.cm_disk.specs.declared.calls.Work.TheVariants.{Write, Cut, Remove, Sync}
use Rattle.cm_disk.specs.declared.calls.Call.{Call}
use Rattle.cm_disk.specs.Disk.{File, Files, overwritten, written, IsImage, bytes_of}
use Rattle.cm_disk.specs.Images.{Stand, is_touched, IsLeft}
use Rattle.cm_disk.specs.Stands.{absent, IsSmall, span_of_write, with_span, cut_stand, removed_stand, worked, step, after, stand_after, files_after, left_after, LeftSince}

pub counts : (calls : List Call) (t : ℕ) (files : Files) → t ≤ length calls → IsImage (left_after calls) files → LeftSince calls t files
counts calls t files le image = record {
  moment = length calls;
  since = le;
  been = omega arith;
  image = subst (λ (l : List Call). IsImage (left_after l) files) (sym (take-length calls)) image;
}

pub only : (calls : List Call) (files : Files) → LeftSince calls (length calls) files → IsImage (left_after calls) files
only calls files left =
    let all : left.moment ≡ length calls = omega (arith, left.since, left.been) in
    subst (λ (l : List Call). IsImage (left_after l) files) (ap (λ (k : ℕ). take k calls) all ∙ take-length calls) left.image

-- of a sum of tests, both are false
first_false : (a b : Bool) → (a || b) ≡ false → a ≡ false
first_false false b h = refl
first_false true b h = h

second_false : (a b : Bool) → (a || b) ≡ false → b ≡ false
second_false false b h = h
second_false true b h = absurd (cc)

-- a byte behind what is written at the front is kept
kept_behind : (old bytes : List ℕ) (i byte : ℕ) → length bytes ≤ i → slice_get old i ≡ Some byte → slice_get (bytes ++ drop (length bytes) old) i ≡ Some byte
kept_behind old [] i byte le is = is
kept_behind [] (b ∷ bytes) i byte le is = absurd (none-some byte is)
kept_behind (x ∷ old) (b ∷ bytes) zero byte le is = absurd (omega arith)
kept_behind (x ∷ old) (b ∷ bytes) (suc i) byte le is = kept_behind old bytes i byte (omega arith) is

kept_from : (old bytes : List ℕ) (offset end i byte : ℕ) → end ≡ offset + length bytes → (i < offset) ⊎ (end ≤ i) → slice_get old i ≡ Some byte → slice_get (take offset old ++ bytes ++ drop end old) i ≡ Some byte
kept_from [] bytes offset end i byte e which is = absurd (none-some byte is)
kept_from (x ∷ old) bytes zero end i byte e (inl lt) is = absurd (omega arith)
kept_from (x ∷ old) bytes zero end i byte e (inr le) is =
    let same : end ≡ length bytes = omega arith in
    subst (λ (n : ℕ). slice_get (bytes ++ drop n (x ∷ old)) i ≡ Some byte) (sym same) (kept_behind (x ∷ old) bytes i byte (omega arith) is)
kept_from (x ∷ old) bytes (suc offset) zero i byte e which is = absurd (omega arith)
kept_from (x ∷ old) bytes (suc offset) (suc end) zero byte e which is = is
kept_from (x ∷ old) bytes (suc offset) (suc end) (suc i) byte e (inl lt) is = kept_from old bytes offset end i byte (omega arith) (inl (omega arith)) is
kept_from (x ∷ old) bytes (suc offset) (suc end) (suc i) byte e (inr le) is = kept_from old bytes offset end i byte (omega arith) (inr (omega arith)) is

-- a byte outside the range of a write is kept
pub kept_outside : (old bytes : List ℕ) (offset i byte : ℕ) → (i < offset) ⊎ (offset + length bytes ≤ i) → slice_get old i ≡ Some byte → slice_get (overwritten old offset bytes) i ≡ Some byte
kept_outside old bytes offset i byte which is = kept_from old bytes offset (offset + length bytes) i byte refl which is

pub kept_before : (old : List ℕ) (size i byte : ℕ) → i < size → slice_get old i ≡ Some byte → slice_get (take size old) i ≡ Some byte
kept_before [] size i byte lt is = absurd (none-some byte is)
kept_before (x ∷ old) zero i byte lt is = absurd (omega arith)
kept_before (x ∷ old) (suc size) zero byte lt is = is
kept_before (x ∷ old) (suc size) (suc i) byte lt is = kept_before old size i byte (omega arith) is

-- a byte in none of the ranges is before the first or behind it
pub outside_first : (from i to : ℕ) (spans : List Span) → is_touched (record { from = from; to = Some to } ∷ spans) i ≡ false → (i < from) ⊎ (to ≤ i)
outside_first from i to spans out = by (nat_le from i) refl
  where
    at : nat_le from i && nat_lt i to ≡ false
    at = first_false _ _ out

    by : (b : Bool) → nat_le from i ≡ b → (i < from) ⊎ (to ≤ i)
    by true is = inr (grind (arith, nat_tests, at))
    by false is = inl (grind (arith, nat_tests))

pub before_first : (from i : ℕ) (spans : List Span) → is_touched (record { from = from; to = None } ∷ spans) i ≡ false → i < from
before_first from i spans out = by (nat_le from i) refl
  where
    at : nat_le from i && true ≡ false
    at = first_false _ _ out

    by : (b : Bool) → nat_le from i ≡ b → i < from
    by true is = grind (arith, nat_tests, at)
    by false is = grind (arith, nat_tests)

pub outside_others : (span : Span) (spans : List Span) (i : ℕ) → is_touched (span ∷ spans) i ≡ false → is_touched spans i ≡ false
outside_others span spans i out = second_false _ _ out

-- more is touched
touched_more : (s : Stand) (file x : File) (span : Span) (removed : Bool) → (file ≡ None → (s.durable ≡ None) ⊎ (removed ≡ true)) → IsLeft s file → IsLeft (record { now = x; durable = s.durable; touched = span ∷ s.touched; removed = removed }) file
touched_more s file x span removed none h = record {
  clean = λ e. absurd (cc);
  absent = none;
  bytes = λ there i byte out is. h.bytes there i byte (outside_others span s.touched i out) is;
}

-- no bytes over others
over_nothing : (old bytes : List ℕ) (offset : ℕ) → length bytes ≡ 0 → overwritten old offset bytes ≡ old
over_nothing old [] offset none =
    let at_offset : offset + 0 ≡ offset = omega arith in
    ap (λ (l : List ℕ). l ++ drop (offset + 0) old) (append-nil (take offset old)) ∙ ap (λ (n : ℕ). take offset old ++ drop n old) at_offset ∙ take-append-drop offset old
over_nothing old (byte ∷ bytes) offset none = absurd (omega arith)

write_reads : (s : Stand) (now x : File) (offset : ℕ) (bytes : List ℕ) → IsLeft s now
    → IsLeft (record { now = x; durable = s.durable; touched = with_span (span_of_write now offset (length bytes)) s.touched; removed = s.removed }) (written offset bytes now)
write_reads s None x offset bytes h = record {
  clean = λ e. absurd (cc);
  absent = λ e. absurd (cc);
  bytes = λ there i byte out is. absurd (nothing i (before_first 0 i s.touched out));
}
  where
    nothing : (i : ℕ) → i < 0 → ⊥
    nothing i lt = omega arith
write_reads s (Some old) x offset bytes h = by (length bytes == 0) refl
  where
    by : (empty : Bool) → (length bytes == 0) ≡ empty → IsLeft (record { now = x; durable = s.durable; touched = with_span (if empty then None else Some (record { from = offset; to = Some (offset + length bytes) })) s.touched; removed = s.removed }) (Some (overwritten old offset bytes))
    by true is =
        let none : length bytes ≡ 0 = grind (arith, nat_tests, is) in
        subst (λ (l : List ℕ). IsLeft (record { now = x; durable = s.durable; touched = s.touched; removed = s.removed }) (Some l)) (sym (over_nothing old bytes offset none)) (record { clean = h.clean; absent = h.absent; bytes = h.bytes })
    by false is = record {
      clean = λ e. absurd (cc);
      absent = λ e. absurd (cc);
      bytes = λ there i byte out is. kept_outside old bytes offset i byte (outside_first offset i (offset + length bytes) s.touched out) (h.bytes refl i byte (outside_others (record { from = offset; to = Some (offset + length bytes) }) s.touched i out) is);
    }

failed_write : (s : Stand) (now : File) (offset count : ℕ) → IsLeft s now → IsLeft (record { now = now; durable = s.durable; touched = with_span (span_of_write now offset count) s.touched; removed = s.removed }) now
failed_write s None offset count h = touched_more s None None (record { from = 0; to = None }) s.removed h.absent h
failed_write s (Some old) offset count h = by (count == 0)
  where
    by : (empty : Bool) → IsLeft (record { now = Some old; durable = s.durable; touched = with_span (if empty then None else Some (record { from = offset; to = Some (offset + count) })) s.touched; removed = s.removed }) (Some old)
    by true = record { clean = h.clean; absent = h.absent; bytes = h.bytes }
    by false = touched_more s (Some old) (Some old) (record { from = offset; to = Some (offset + count) }) s.removed h.absent h

cut_reads : (s : Stand) (now : File) (size : ℕ) (done : Bool) → s.now ≡ now → IsLeft s now → IsLeft (cut_stand size done s now) (cut_stand size done s now).now
cut_reads s None size done same h = subst (λ (f : File). IsLeft s f) (sym same) h
cut_reads s (Some old) size true same h = record {
  clean = λ e. absurd (cc);
  absent = λ e. absurd (cc);
  bytes = λ there i byte out is. kept_before old size i byte (before_first size i s.touched out) (h.bytes refl i byte (outside_others (record { from = size; to = None }) s.touched i out) is);
}
cut_reads s (Some old) size false same h = touched_more s (Some old) (Some old) (record { from = size; to = None }) s.removed h.absent h

removed_reads : (s : Stand) (now : File) (done : Bool) → s.now ≡ now → IsLeft s now → IsLeft (removed_stand done s now) (removed_stand done s now).now
removed_reads s None done same h = subst (λ (f : File). IsLeft s f) (sym same) h
removed_reads s (Some old) true same h = record {
  clean = λ e. absurd (cc);
  absent = λ e. inr refl;
  bytes = λ there. absurd (cc);
}
removed_reads s (Some old) false same h = touched_more s (Some old) (Some old) (record { from = 0; to = None }) true (λ e. absurd (cc)) h

-- a disk as it reads is one of its images: each call keeps that
pub still_reads : (work : Work) (done : Bool) (s : Stand) → IsLeft s s.now → IsLeft (worked work done s) (worked work done s).now
still_reads (Write offset bytes) true s h = write_reads s s.now (written offset bytes.items s.now) offset bytes.items h
still_reads (Write offset bytes) false s h = failed_write s s.now offset (length bytes.items) h
still_reads (Cut size) done s h = cut_reads s s.now size done refl h
still_reads Remove done s h = removed_reads s s.now done refl h
still_reads Sync true s h = record { clean = λ _ _. refl; absent = λ e. inl e; bytes = λ there i byte out is. is }
still_reads Sync false s h = h

pub reads_after : (calls : List Call) (place : List ℕ) (s : Stand) → IsLeft s s.now → IsLeft (after calls place s) (after calls place s).now
reads_after [] place s h = h
reads_after (call ∷ calls) place s h = reads_after calls place (step call place s) (one (bytes_eq call.place place))
  where
    one : (b : Bool) → IsLeft (if b then worked call.work call.done s else s) (if b then worked call.work call.done s else s).now
    one true = still_reads call.work call.done s h
    one false = h

pub absent_reads : IsLeft absent absent.now
absent_reads = record { clean = λ _ _. refl; absent = λ _. inl refl; bytes = λ h. absurd (cc) }

pub as_it_reads : (calls : List Call) (files : Files) → Some (files_after calls) ≡ Some files → IsImage (left_after calls) files
as_it_reads calls files is q = subst (λ (f : Files). IsLeft (stand_after calls q) (f q)) (same_Some (files_after calls) files is) (reads_after calls q absent absent_reads)

pub some_image : (calls : List Call) → (files : Files) × IsImage (left_after calls) files
some_image calls = (files_after calls, λ q. reads_after calls q absent absent_reads)

pub short_files : (calls : List Call) → ((place : List ℕ) → IsSmall (stand_after calls place)) → (files : Files) (place : List ℕ) → Some (files_after calls) ≡ Some files → length (bytes_of (files place)) ≤ 2 ^ 40 + 131072
short_files calls small files place is = subst (λ (f : Files). length (bytes_of (f place)) ≤ 2 ^ 40 + 131072) (same_Some (files_after calls) files is) (small place).now
