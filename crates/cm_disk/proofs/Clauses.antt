-- What a call on a disk in memory ensures, from the record of calls before and after it.
use Rattle.std.proofs.Common.{◌≡◌, ◌⊎◌, inl, inr, ⊎_elim, ℕ, List, length, refl, sym, ◌∙◌, ap, subst}
use Rattle.std.specs.Prelude.{Bool, true, false, Some, None, is_some, Result, Ok, Err, OnOk, OnErr}
use Rattle.std.specs.Str.{bytes_eq}
use Rattle.std.proofs.lemmas.Option.{same_Some, none-some}
use Rattle.std.proofs.lemmas.Bool.{cases_Bool}
use Rattle.std.proofs.lemmas.Slice.Eq.{bytes_eq-Decides}
use Rattle.cm_disk.specs.declared.calls.Work.{Work}
use Rattle.cm_disk.specs.declared.calls.Work.TheVariants.{Write, Cut, Remove, Sync}
use Rattle.cm_disk.specs.declared.calls.Call.{Call}
use Rattle.cm_disk.specs.Disk.{File, Files, put, shortened, Does, LeavesNoMore, Touches, IsThere, Only, Elapses}
use Rattle.std.specs.Prelude.{Vec}
use Rattle.std.specs.declared.alloc.Global.{Global}
use Rattle.cm_disk.specs.declared.memory.MemDisk.{MemDisk}
use Rattle.cm_disk.specs.Recorded.{IsWrite, Joins, IsRecorded}
use Rattle.cm_disk.specs.Images.{Stand}
use Rattle.cm_disk.specs.Stands.{cut_stand, removed_stand, worked, stand_after, files_after, left_after, LeftSince}
use Rattle.cm_disk.proofs.Puts.{put_here, put_there}
use Rattle.cm_disk.proofs.Steps.{more, elapses_same, elapses_more, touches_same, reads_more, failed_reads, durable_sync, no_more_sync}

put_same : (files : Files) (place : List ℕ) → put files place (files place) ≡ files
put_same files place = λ i q. at q i
  where
    at : (q : List ℕ) → put files place (files place) q ≡ files q
    at q = ⊎_elim
        (λ is. subst (λ (r : List ℕ). put files place (files place) r ≡ files r) ((bytes_eq-Decides place q).0 is) (put_here files place (files place)))
        (λ apart. put_there files place (files place) q (λ e. clash apart (sym e)))
        (cases_Bool (bytes_eq place q))
      where
        clash : bytes_eq place q ≡ false → place ≡ q → ⊥
        clash apart e = let t : bytes_eq place q ≡ true = (bytes_eq-Decides place q).1 e in absurd (cc)

same_files : (calls later : List Call) (place : List ℕ) (work : Work) → (later ≡ calls) ⊎ (later ≡ more calls place work false) → files_after later ≡ files_after calls
same_files calls later place work (inl same) = ap files_after same
same_files calls later place work (inr failed) = ap files_after failed ∙ reads_more calls place work false (files_after calls place) (failed_reads work (stand_after calls place)) ∙ put_same (files_after calls) place

-- a failed call that changes nothing
pub does_nothing : {T E : Type 0} (old new : Files) (place : List ℕ) (f : File → File) (e : E) → new ≡ old → Does {T = T} (Some old) (Some new) place f (Err e)
does_nothing old new place f e same = record {
  ok = tt;
  err = λ files told. (
    files place,
    ap (λ (m : Files). Some m) (same ∙ same_Some old files told ∙ sym (put_same files place)),
    record { bytes = λ i. inl refl; there = inl refl },
  );
  silent = λ none. absurd (none-some old (sym none));
}

module _ {T E : Type 0} (calls later : List Call) (place : List ℕ) (work : Work) where
  abbrev pub DoneOk : Result T E → Type 0
  DoneOk r = OnOk r (later ≡ more calls place work true)

  abbrev pub DoneErr : Result T E → Type 0
  DoneErr r = OnErr r ((later ≡ calls) ⊎ (later ≡ more calls place work false))

  later_cases : (r : Result T E) → DoneOk r → DoneErr r → (later ≡ calls) ⊎ ((done : Bool) × (later ≡ more calls place work done))
  later_cases (Ok x) ok err = inr (true, ok)
  later_cases (Err e) ok err = ⊎_elim (λ same. inl same) (λ failed. inr (false, failed)) err

  pub time_of : (r : Result T E) → DoneOk r → DoneErr r → Elapses (length calls) (length later) (LeftSince calls) (LeftSince later) (left_after later)
  time_of r ok err = ⊎_elim
      (λ same. subst (λ (l : List Call). Elapses (length calls) (length l) (LeftSince calls) (LeftSince l) (left_after l)) (sym same) (elapses_same calls))
      (λ made. subst (λ (l : List Call). Elapses (length calls) (length l) (LeftSince calls) (LeftSince l) (left_after l)) (sym made.1) (elapses_more calls place work made.0))
      (later_cases r ok err)

  pub touches_of : (kept : ℕ → Type 0) → ((done : Bool) → Touches place kept (left_after calls) (left_after (more calls place work done))) → (r : Result T E) → DoneOk r → DoneErr r → Touches place kept (left_after calls) (left_after later)
  touches_of kept each r ok err = ⊎_elim
      (λ same. subst (λ (l : List Call). Touches place kept (left_after calls) (left_after l)) (sym same) (touches_same calls place kept))
      (λ made. subst (λ (l : List Call). Touches place kept (left_after calls) (left_after l)) (sym made.1) (each made.0))
      (later_cases r ok err)

  pub there_of_call : ((done : Bool) → IsThere (left_after calls place) → IsThere (left_after (more calls place work done) place)) → (r : Result T E) → DoneOk r → DoneErr r → IsThere (left_after calls place) → IsThere (left_after later place)
  there_of_call each r ok err = ⊎_elim
      (λ same. subst (λ (l : List Call). IsThere (left_after calls place) → IsThere (left_after l place)) (sym same) (λ there. there))
      (λ made. subst (λ (l : List Call). IsThere (left_after calls place) → IsThere (left_after l place)) (sym made.1) (each made.0))
      (later_cases r ok err)

  pub does_of : (f : File → File) → (worked work true (stand_after calls place)).now ≡ f (files_after calls place) → (r : Result T E) → DoneOk r → DoneErr r → Does (Some (files_after calls)) (Some (files_after later)) place f r
  does_of f is (Ok x) ok err = record {
    ok = λ files told. subst (λ (m : Files). Some (files_after later) ≡ Some (put m place (f (m place)))) (same_Some (files_after calls) files told)
        (ap (λ (m : Files). Some m) (ap files_after ok ∙ reads_more calls place work true (f (files_after calls place)) is));
    err = tt;
    silent = λ none. absurd (none-some (files_after calls) (sym none));
  }
  does_of f is (Err e) ok err = does_nothing (files_after calls) (files_after later) place f e (same_files calls later place work err)

-- a write is recorded with the bytes that were handed in
row : (old new : MemDisk) (place : List ℕ) (offset : ℕ) (piece : Vec ℕ Global) (bytes : List ℕ) → piece.items ≡ bytes → (done : Bool)
    → Joins old new place (λ work. work ≡ Write offset piece) done → Joins old new place (IsWrite offset bytes) done
row old new place offset piece bytes same done made = record { work = made.work; fits = record { piece = piece; write = made.fits; same = same }; joins = made.joins }

pub recorded_write : {T E : Type 0} (old new : MemDisk) (place : List ℕ) (offset : ℕ) (piece : Vec ℕ Global) (bytes : List ℕ) → piece.items ≡ bytes
    → (r : Result T E) → IsRecorded old new place (λ work. work ≡ Write offset piece) r → IsRecorded old new place (IsWrite offset bytes) r
recorded_write old new place offset piece bytes same (Ok x) is = record { ok = row old new place offset piece bytes same true is.ok; err = tt }
recorded_write old new place offset piece bytes same (Err e) is = record { ok = tt; err = ⊎_elim (λ made. inl (row old new place offset piece bytes same false made)) (λ lacked. inr lacked) is.err }

pub cut_now : (size : ℕ) (s : Stand) → is_some s.now ≡ true → (worked (Cut size) true s).now ≡ shortened size s.now
cut_now size s there = by s.now refl
  where
    by : (now : File) → s.now ≡ now → (cut_stand size true s now).now ≡ shortened size now
    by None same = let f : is_some s.now ≡ false = ap (λ (f : File). is_some f) same in absurd (cc)
    by (Some old) same = refl

pub removed_now : (s : Stand) → (worked Remove true s).now ≡ None
removed_now s = by s.now refl
  where
    by : (now : File) → s.now ≡ now → (removed_stand true s now).now ≡ None
    by None same = same
    by (Some old) same = refl

-- a sync
module _ {T E : Type 0} (calls later : List Call) (place : List ℕ) where
  pub sync_same : (r : Result T E) → DoneOk calls later place Sync r → DoneErr calls later place Sync r → files_after later ≡ files_after calls
  sync_same (Ok x) ok err = ap files_after ok ∙ reads_more calls place Sync true (files_after calls place) refl ∙ put_same (files_after calls) place
  sync_same (Err e) ok err = same_files calls later place Sync err

  pub sync_no_more : (r : Result T E) → DoneOk calls later place Sync r → DoneErr calls later place Sync r → LeavesNoMore (left_after calls) (left_after later)
  sync_no_more r ok err = ⊎_elim
      (λ same. subst (λ (l : List Call). LeavesNoMore (left_after calls) (left_after l)) (sym same) (λ q file left. left))
      (λ made. subst (λ (l : List Call). LeavesNoMore (left_after calls) (left_after l)) (sym made.1) (no_more_sync calls place made.0))
      (later_cases {T = T} {E = E} calls later place Sync r ok err)

  pub sync_durable : (r : Result T E) → DoneOk calls later place Sync r → OnOk r ((files : Files) → Some (files_after calls) ≡ Some files → Only (files place) (left_after later place))
  sync_durable (Ok x) ok = λ files told. subst (λ (m : Files). Only (m place) (left_after later place)) (same_Some (files_after calls) files told) (subst (λ (l : List Call). Only (files_after calls place) (left_after l place)) (sym ok) (durable_sync calls place))
  sync_durable (Err e) ok = tt
