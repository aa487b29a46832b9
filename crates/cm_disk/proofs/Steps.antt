-- One more call joins a record of calls.
use Rattle.std.proofs.Common.{◌≡◌, ◌⊎◌, inl, inr, ⊎_elim, ℕ, ◌+◌, ◌<◌, ◌≤◌, List, [], ◌∷◌, ◌++◌, length, take, refl, sym, ◌∙◌, ap, subst, arith, length-append}
use Rattle.std.specs.Prelude.{◌≢◌, Bool, true, false, if◌then◌else◌, Some, None, is_some}
use Rattle.std.specs.Str.{bytes_eq}
use Rattle.std.proofs.lemmas.Slice.Eq.{bytes_eq-Decides}
use Rattle.std.proofs.lemmas.Bool.{cases_eq, cases_Bool, false_from_ne_true}
use Rattle.std.proofs.lemmas.List.{take-append-le}
use Rattle.std.proofs.Math.Seq.{take-length}
use Rattle.cm_disk.specs.declared.calls.Work.{Work}
use Rattle.cm_disk.specs.declared.calls.Work.TheVariants.{Write, Cut, Remove, Sync}
use Rattle.cm_disk.specs.declared.calls.Call.{Call}
use Rattle.std.specs.Prelude.{Vec}
use Rattle.std.specs.declared.alloc.Global.{Global}
use Rattle.cm_disk.specs.Disk.{File, Files, byte_at, put, IsImage, LeavesNoMore, Touches, IsThere, Only, Elapses}
use Rattle.cm_disk.specs.Images.{Stand, IsLeft}
use Rattle.cm_disk.specs.Stands.{absent, cut_stand, removed_stand, worked, step, after, stand_after, files_after, left_after, LeftSince}
use Rattle.cm_disk.specs.StandsLaws.{reads_after, absent_reads}
use Rattle.cm_disk.proofs.Puts.{put_here, put_there}
use Rattle.cm_disk.proofs.Sure.{SureOf, ThereOf, there_of, there_after, sure_of, sure_after, outside_write, before_cut}

after-push : (calls : List Call) (call : Call) (place : List ℕ) (s : Stand) → after (calls ++ call ∷ []) place s ≡ step call place (after calls place s)
after-push [] call place s = refl
after-push (c ∷ calls) call place s = after-push calls call place (step c place s)

made : List ℕ → Work → Bool → Call
made place work done = record { place = place; work = work; done = done }

abbrev pub more : List Call → List ℕ → Work → Bool → List Call
more calls place work done = calls ++ record { place = place; work = work; done = done } ∷ []

pub stays_read : (calls : List Call) (q : List ℕ) → IsLeft (stand_after calls q) (stand_after calls q).now
stays_read calls q = reads_after calls q absent absent_reads

module _ (calls : List Call) (place : List ℕ) (work : Work) (done : Bool) where
  pub stand_here : stand_after (more calls place work done) place ≡ worked work done (stand_after calls place)
  stand_here = after-push calls _ place absent ∙ ap (λ (b : Bool). if b then worked work done (stand_after calls place) else stand_after calls place) ((bytes_eq-Decides place place).1 refl)

  pub stand_there : (q : List ℕ) → q ≢ place → stand_after (more calls place work done) q ≡ stand_after calls q
  stand_there q other =
      after-push calls _ q absent ∙ ap (λ (b : Bool). if b then worked work done (stand_after calls q) else stand_after calls q) (false_from_ne_true (bytes_eq place q) (λ e. other (sym ((bytes_eq-Decides place q).0 e))))

  pub elapses_more : Elapses (length calls) (length (more calls place work done)) (LeftSince calls) (LeftSince (more calls place work done)) (left_after (more calls place work done))
  elapses_more = record {
    later = omega (arith, long);
    nothing_else = λ t files le left. ⊎_elim (λ last. inr (now files left last)) (λ before. inl (past t files left before)) (cases_eq left.moment (length calls + 1));
    keeps = λ t files le left. record {
      moment = left.moment;
      since = left.since;
      been = omega (arith, long, left.been);
      image = subst (λ (l : List Call). IsImage (left_after l) files) (sym (take-append-le left.moment calls _ left.been)) left.image;
    };
  }
    where
      long : length (more calls place work done) ≡ length calls + 1
      long = length-append calls _

      now : {t : ℕ} (files : Files) (left : LeftSince (more calls place work done) t files) → left.moment ≡ length calls + 1 → IsImage (left_after (more calls place work done)) files
      now files left last = subst (λ (l : List Call). IsImage (left_after l) files) (ap (λ (k : ℕ). take k (more calls place work done)) (last ∙ sym long) ∙ take-length (more calls place work done)) left.image

      past : (t : ℕ) (files : Files) (left : LeftSince (more calls place work done) t files) → (left.moment ≡ length calls + 1 → ⊥) → LeftSince calls t files
      past t files left before =
          let le : left.moment ≤ length calls = omega (arith, long, left.been) in
          record {
            moment = left.moment;
            since = left.since;
            been = le;
            image = subst (λ (l : List Call). IsImage (left_after l) files) (take-append-le left.moment calls _ le) left.image;
          }

  pub others_more : (q : List ℕ) (file : File) → q ≢ place → left_after (more calls place work done) q file → left_after calls q file
  others_more q file other left = subst (λ (s : Stand). IsLeft s file) (stand_there q other) left

-- a call that changes nothing
pub elapses_same : (calls : List Call) → Elapses (length calls) (length calls) (LeftSince calls) (LeftSince calls) (left_after calls)
elapses_same calls = record { later = omega arith; nothing_else = λ t files le left. inl left; keeps = λ t files le left. left }

pub touches_same : (calls : List Call) (place : List ℕ) (kept : ℕ → Type 0) → Touches place kept (left_after calls) (left_after calls)
touches_same calls place kept = record { others = λ q file other left. left; bytes = λ i byte k sure. sure }

-- what stays sure through a call
sure_more : (calls : List Call) (place : List ℕ) (work : Work) (done : Bool) (i byte : ℕ) → ((file : File) → left_after calls place file → byte_at file i ≡ Some byte)
    → (SureOf (stand_after calls place) i byte → (file : File) → IsLeft (worked work done (stand_after calls place)) file → byte_at file i ≡ Some byte)
    → (file : File) → left_after (more calls place work done) place file → byte_at file i ≡ Some byte
sure_more calls place work done i byte sure goes file left =
    goes (sure_of (stand_after calls place) (stays_read calls place) i byte sure) file (subst (λ (s : Stand). IsLeft s file) (stand_here calls place work done) left)

pub touches_write : (calls : List Call) (place : List ℕ) (offset : ℕ) (bytes : Vec ℕ Global) (done : Bool)
    → Touches place (λ i. (i < offset) ⊎ (offset + length bytes.items ≤ i)) (left_after calls) (left_after (more calls place (Write offset bytes) done))
touches_write calls place offset bytes done = record {
  others = others_more calls place (Write offset bytes) done;
  bytes = λ i byte which sure. sure_more calls place (Write offset bytes) done i byte sure (λ h.
      sure_after (stand_after calls place) (worked (Write offset bytes) done (stand_after calls place)) i byte h refl refl
      (outside_write (stand_after calls place).now offset (length bytes.items) i (stand_after calls place).touched h.there which h.untouched));
}

cut_sure : (s : Stand) (now : File) (size : ℕ) (done : Bool) (i byte : ℕ) → s.now ≡ now → i < size → SureOf s i byte → (file : File) → IsLeft (cut_stand size done s now) file → byte_at file i ≡ Some byte
cut_sure s None size done i byte same lt h = let t : is_some s.now ≡ true = h.there in absurd (gone same t)
  where
    gone : s.now ≡ None → is_some s.now ≡ true → ⊥
    gone same t = let f : is_some s.now ≡ false = ap (λ (f : File). is_some f) same in absurd (cc)
cut_sure s (Some old) size done i byte same lt h = sure_after s (cut_stand size done s (Some old)) i byte h refl refl (before_cut size i s.touched lt h.untouched)

pub touches_cut : (calls : List Call) (place : List ℕ) (size : ℕ) (done : Bool) → Touches place (λ i. i < size) (left_after calls) (left_after (more calls place (Cut size) done))
touches_cut calls place size done = record {
  others = others_more calls place (Cut size) done;
  bytes = λ i byte lt sure. sure_more calls place (Cut size) done i byte sure (cut_sure (stand_after calls place) (stand_after calls place).now size done i byte refl lt);
}

pub touches_all : (calls : List Call) (place : List ℕ) (work : Work) (done : Bool) → Touches place (λ _. ⊥) (left_after calls) (left_after (more calls place work done))
touches_all calls place work done = record { others = others_more calls place work done; bytes = λ i byte none. absurd none }

-- a sync
pub durable_sync : (calls : List Call) (place : List ℕ) → Only (files_after calls place) (left_after (more calls place Sync true) place)
durable_sync calls place file left = (subst (λ (s : Stand). IsLeft s file) (stand_here calls place Sync true) left).clean refl refl

sync_here : (s : Stand) (done : Bool) (file : File) → IsLeft s s.now → IsLeft (worked Sync done s) file → IsLeft s file
sync_here s true file reads left = subst (λ (f : File). IsLeft s f) (sym (left.clean refl refl)) reads
sync_here s false file reads left = left

pub no_more_sync : (calls : List Call) (place : List ℕ) (done : Bool) → LeavesNoMore (left_after calls) (left_after (more calls place Sync done))
no_more_sync calls place done q file left = ⊎_elim here (λ apart. others_more calls place Sync done q file (other apart) left) (cases_Bool (bytes_eq place q))
  where
    at_place : left_after (more calls place Sync done) place file → left_after calls place file
    at_place l = sync_here (stand_after calls place) done file (stays_read calls place) (subst (λ (s : Stand). IsLeft s file) (stand_here calls place Sync done) l)

    here : bytes_eq place q ≡ true → left_after calls q file
    here is =
        let same = (bytes_eq-Decides place q).0 is in
        subst (λ (r : List ℕ). left_after calls r file) same (at_place (subst (λ (r : List ℕ). left_after (more calls place Sync done) r file) (sym same) left))

    other : bytes_eq place q ≡ false → q ≡ place → ⊥
    other apart e = let yes : bytes_eq place q ≡ true = (bytes_eq-Decides place q).1 (sym e) in absurd (cc)

-- what reads give after a call
pub reads_more : (calls : List Call) (place : List ℕ) (work : Work) (done : Bool) (file : File) → (worked work done (stand_after calls place)).now ≡ file → files_after (more calls place work done) ≡ put (files_after calls) place file
reads_more calls place work done file is = λ i q. at q i
  where
    other : (q : List ℕ) → bytes_eq place q ≡ false → q ≡ place → ⊥
    other q apart e = let yes : bytes_eq place q ≡ true = (bytes_eq-Decides place q).1 (sym e) in absurd (cc)

    at_place : files_after (more calls place work done) place ≡ put (files_after calls) place file place
    at_place = ap (λ (s : Stand). s.now) (stand_here calls place work done) ∙ is ∙ sym (put_here (files_after calls) place file)

    at : (q : List ℕ) → files_after (more calls place work done) q ≡ put (files_after calls) place file q
    at q = ⊎_elim
        (λ yes. subst (λ (r : List ℕ). files_after (more calls place work done) r ≡ put (files_after calls) place file r) ((bytes_eq-Decides place q).0 yes) at_place)
        (λ apart. ap (λ (s : Stand). s.now) (stand_there calls place work done q (other q apart)) ∙ sym (put_there (files_after calls) place file q (other q apart)))
        (cases_Bool (bytes_eq place q))

-- a failed call changes nothing that reads give
pub failed_reads : (work : Work) (s : Stand) → (worked work false s).now ≡ s.now
failed_reads (Write offset bytes) s = refl
failed_reads (Cut size) s = by s.now refl
  where
    by : (now : File) → s.now ≡ now → (cut_stand size false s now).now ≡ s.now
    by None same = refl
    by (Some old) same = sym same
failed_reads Remove s = by s.now refl
  where
    by : (now : File) → s.now ≡ now → (removed_stand false s now).now ≡ s.now
    by None same = refl
    by (Some old) same = sym same
failed_reads Sync s = refl

-- a place stays there through a write and a cut
there_more : (calls : List Call) (place : List ℕ) (work : Work) (done : Bool) → (ThereOf (stand_after calls place) → (file : File) → IsLeft (worked work done (stand_after calls place)) file → is_some file ≡ true)
    → IsThere (left_after calls place) → IsThere (left_after (more calls place work done) place)
there_more calls place work done goes sure file left = goes (there_of (stand_after calls place) sure) file (subst (λ (s : Stand). IsLeft s file) (stand_here calls place work done) left)

pub there_write : (calls : List Call) (place : List ℕ) (offset : ℕ) (bytes : Vec ℕ Global) (done : Bool) → IsThere (left_after calls place) → IsThere (left_after (more calls place (Write offset bytes) done) place)
there_write calls place offset bytes done = there_more calls place (Write offset bytes) done (λ h. there_after (stand_after calls place) (worked (Write offset bytes) done (stand_after calls place)) h refl refl)

there_cut_stand : (s : Stand) (now : File) (size : ℕ) (done : Bool) → ThereOf s → (file : File) → IsLeft (cut_stand size done s now) file → is_some file ≡ true
there_cut_stand s None size done h = there_after s s h refl refl
there_cut_stand s (Some old) size done h = there_after s (cut_stand size done s (Some old)) h refl refl

pub there_cut : (calls : List Call) (place : List ℕ) (size : ℕ) (done : Bool) → IsThere (left_after calls place) → IsThere (left_after (more calls place (Cut size) done) place)
there_cut calls place size done = there_more calls place (Cut size) done (there_cut_stand (stand_after calls place) (stand_after calls place).now size done)
