-- What a stop leaves of a log in each step of adding a record.
use Rattle.std.proofs.Common.{◌≡◌, ◌⊎◌, inl, inr, ⊎_elim, get_or, ℕ, suc, ◌+◌, ◌<◌, ◌≤◌, List, [], ◌∷◌, ◌++◌, length, drop, refl, sym, ◌∙◌, ap, subst, arith, append_assoc, length-append}
use Rattle.std.specs.Prelude.{◌≢◌, Some, None, slice_get}
use Rattle.std.proofs.lemmas.Option.{none-some, slice_get-get_or}
use Rattle.std.proofs.lemmas.Bool.{cases_eq}
use Rattle.cm_disk.specs.Disk.{File, Files, bytes_of, byte_at, overwritten, written, put, IsPartly, IsImage, LeavesNoMore, Touches, Only}
use Rattle.cm_disk.specs.StandsLaws.{kept_outside}
use Rattle.cm_disk.proofs.Kept.{kept_bytes}
use Rattle.cm_disk.proofs.Puts.{put_here}
use Rattle.cm_log.specs.Records.{measured}
use Rattle.cm_log.specs.Fronts.{IsShut, one_more, IsEither, IsGated}
use Rattle.cm_log.proofs.Bytes.{begins, all_but, gate_at, up_to_gate, written_behind, written_gate}

-- a file that has a byte is there
there : (file : File) (i byte : ℕ) → byte_at file i ≡ Some byte → file ≡ Some (bytes_of file)
there None i byte is = absurd (none-some byte is)
there (Some bytes) i byte is = refl

-- what a write leaves outside its range also where it failed
pub partly_kept : (offset : ℕ) (bytes : List ℕ) (before now : File) → IsPartly before (written offset bytes before) now → (i byte : ℕ) → (i < offset) ⊎ (offset + length bytes ≤ i) → byte_at before i ≡ Some byte → byte_at now i ≡ Some byte
partly_kept offset bytes before now partly i byte outside is = ⊎_elim
    (λ same. same ∙ is)
    (λ done. done ∙ kept_outside (bytes_of before) bytes offset i byte outside is)
    (partly.bytes i)

-- a file with the bytes before the gate and the gate is shut there
pub behind_kept : (file left : File) (front : List ℕ) → IsShut front file → ((i byte : ℕ) → i < length front + 1 → byte_at file i ≡ Some byte → byte_at left i ≡ Some byte) → IsShut front left
behind_kept file left front h same =
    let is : bytes_of file ≡ front ++ h.gate ∷ h.rest = ap bytes_of h.spells in
    let at : slice_get (front ++ h.gate ∷ h.rest) (length front) ≡ Some h.gate = gate_at front h.gate h.rest in
    let found = begins (length front + 1) (front ++ h.gate ∷ h.rest) (bytes_of left) (omega (arith, length-append front (h.gate ∷ h.rest))) (λ i byte lt x. same i byte lt (ap (λ (l : List ℕ). slice_get l i) is ∙ x)) in
    let present = there left (length front) h.gate (same (length front) h.gate (omega arith) (ap (λ (l : List ℕ). slice_get l (length front)) is ∙ at)) in
    record {
      gate = h.gate;
      rest = found.0;
      spells = present ∙ ap (λ (l : List ℕ). Some l) (found.1 ∙ ap (λ (l : List ℕ). l ++ found.0) (up_to_gate front h.gate h.rest (length front) refl) ∙ append_assoc front (h.gate ∷ []) found.0);
      shut = h.shut;
    }

-- a body stands behind the closed gate, and a closed gate behind it
pub record IsStaged (file : File) (front body : List ℕ) : Type 0 where
  pub gate : ℕ
  pub rest : List ℕ
  pub spells : file ≡ Some (front ++ gate ∷ (measured body ++ 0 ∷ rest))
  pub shut : gate ≢ 1

pub still_shut : (file : File) (front body : List ℕ) → IsStaged file front body → IsShut front file
still_shut file front body s = record { gate = s.gate; rest = measured body ++ 0 ∷ s.rest; spells = s.spells; shut = s.shut }

pub staged : (file : File) (front body : List ℕ) (end : ℕ) → length front ≡ end → IsShut front file → IsStaged (written (end + 1) (measured body ++ 0 ∷ []) file) front body
staged file front body end long h =
    let bytes = measured body ++ 0 ∷ [] in
    let left = drop (length bytes) h.rest in
    let is : bytes_of file ≡ front ++ h.gate ∷ h.rest = ap bytes_of h.spells in
    record {
      gate = h.gate;
      rest = left;
      spells = ap (λ (l : List ℕ). Some (overwritten l (end + 1) bytes)) is
          ∙ ap (λ (l : List ℕ). Some l) (written_behind front h.gate h.rest end long bytes)
          ∙ ap (λ (l : List ℕ). Some (front ++ h.gate ∷ l)) (append_assoc (measured body) (0 ∷ []) left);
      shut = h.shut;
    }

-- its gate is open
open_gate : (left : File) (front body rest : List ℕ) → left ≡ Some (front ++ 1 ∷ (measured body ++ 0 ∷ rest)) → IsShut (one_more front body) left
open_gate left front body rest is = record {
  gate = 0;
  rest = rest;
  spells = is ∙ ap (λ (l : List ℕ). Some l) (sym (append_assoc front (1 ∷ measured body) (0 ∷ rest)));
  shut = λ e. omega arith;
}

-- as a gate is open or not
gated : (left : File) (front body : List ℕ) (g : ℕ) (rest : List ℕ) → left ≡ Some (front ++ g ∷ (measured body ++ 0 ∷ rest)) → IsEither front body left
gated left front body g rest is = elim (cases_eq g 1) [
  | inl one ↦ inr (open_gate left front body rest (is ∙ ap (λ (x : ℕ). Some (front ++ x ∷ (measured body ++ 0 ∷ rest))) one))
  | inr other ↦ inl (record { gate = g; rest = measured body ++ 0 ∷ rest; spells = is; shut = other })
]

pub opened : (file : File) (front body : List ℕ) (end : ℕ) → length front ≡ end → IsStaged file front body → IsShut (one_more front body) (written end (1 ∷ []) file)
opened file front body end long s =
    let rest = measured body ++ 0 ∷ s.rest in
    open_gate (written end (1 ∷ []) file) front body s.rest
    (ap (λ (l : List ℕ). Some (overwritten l end (1 ∷ []))) (ap bytes_of s.spells) ∙ ap (λ (l : List ℕ). Some l) (written_gate front s.gate rest end long 1))

-- a staged file but for its gate
pub gate_torn : (file left : File) (front body : List ℕ) → IsStaged file front body → ((i byte : ℕ) → (i < length front) ⊎ (length front + 1 ≤ i) → byte_at file i ≡ Some byte → byte_at left i ≡ Some byte) → IsEither front body left
gate_torn file left front body s same =
    let rest = measured body ++ 0 ∷ s.rest in
    let is : bytes_of file ≡ front ++ s.gate ∷ rest = ap bytes_of s.spells in
    let same_list : (i byte : ℕ) → (i < length front) ⊎ (suc (length front) ≤ i) → slice_get (front ++ s.gate ∷ rest) i ≡ Some byte → slice_get (bytes_of left) i ≡ Some byte =
    λ i byte which x. same i byte (⊎_elim (λ lt. inl (omega arith)) (λ le. inr (omega arith)) which) (ap (λ (l : List ℕ). slice_get l i) is ∙ x) in
    let some : 0 < length rest = omega (arith, length-append (measured body) (0 ∷ s.rest)) in
    let found = all_but front s.gate rest (bytes_of left) some same_list in
    let next = slice_get-get_or (front ++ s.gate ∷ rest) (suc (length front)) 0 (omega (arith, some, length-append front (s.gate ∷ rest))) in
    let present = there left (suc (length front)) (get_or (front ++ s.gate ∷ rest) (suc (length front)) 0) (same_list (suc (length front)) _ (inr (omega arith)) next) in
    gated left front body found.0 (s.rest ++ found.1)
    (present ∙ ap (λ (l : List ℕ). Some l) found.2 ∙ ap (λ (l : List ℕ). Some (front ++ found.0 ∷ l)) (append_assoc (measured body) (0 ∷ s.rest) found.1))

-- what a stop leaves in each step, as one property
module _ (place : List ℕ) (front body : List ℕ) (at_first : List ℕ → File → Type 0) where
  abbrev pub AllAre : (List ℕ → File → Type 0) → Type 0
  AllAre may_leave = (files : Files) → IsImage may_leave files → IsGated place at_first front body files

  pub at_rest : (file : File) → IsShut front file → Only file (at_first place) → AllAre at_first
  at_rest file h only files image = record {
    others = λ q other. image q;
    log = inl (subst (λ (f : File). IsShut front f) (sym (only (files place) (image place))) h);
  }

  pub behind : (file : File) (end count : ℕ) (now : List ℕ → File → Type 0) → length front ≡ end → IsShut front file → Only file (at_first place) → Touches place (λ i. (i < end + 1) ⊎ (end + 1 + count ≤ i)) at_first now → AllAre now
  behind file end count now ends h only touches files image = record {
    others = λ q other. touches.others q (files q) other (image q);
    log = inl (behind_kept file (files place) front h (λ i byte lt. kept_bytes place (λ j. (j < end + 1) ⊎ (end + 1 + count ≤ j)) at_first now touches file only (files place) (image place) i byte (inl (omega (arith, ends)))));
  }

  pub fewer : (old now : List ℕ → File → Type 0) → LeavesNoMore old now → AllAre old → AllAre now
  fewer old now no_more all files image = all files (λ q. no_more q (files q) (image q))

  pub over_gate : (file : File) (end : ℕ) (old now : List ℕ → File → Type 0) → length front ≡ end → IsStaged file front body → Only file (old place) → ((q : List ℕ) (f : File) → q ≢ place → old q f → at_first q f)
      → Touches place (λ i. (i < end) ⊎ (end + 1 ≤ i)) old now → AllAre now
  over_gate file end old now ends s only others touches files image = record {
    others = λ q other. others q (files q) other (touches.others q (files q) other (image q));
    log = gate_torn file (files place) front body s (λ i byte which. kept_bytes place (λ j. (j < end) ⊎ (end + 1 ≤ j)) old now touches file only (files place) (image place) i byte (⊎_elim (λ lt. inl (omega (arith, ends))) (λ le. inr (omega (arith, ends))) which));
  }

pub long_enough : (file : File) (front : List ℕ) → IsShut front file → length front + 1 ≤ length (bytes_of file)
long_enough file front h = omega (arith, ap (λ (f : File). length (bytes_of f)) h.spells, length-append front (h.gate ∷ h.rest))

-- the files after the first write and after the second, done or failed
module _ (files : Files) (place : List ℕ) (end : ℕ) (front body : List ℕ) (long : length front ≡ end) where
  pub staged_put : (bytes : List ℕ) → bytes ≡ measured body ++ 0 ∷ [] → IsShut front (files place) → IsStaged (put files place (written (end + 1) bytes (files place)) place) front body
  staged_put bytes is h =
      subst (λ (f : File). IsStaged f front body)
      (sym (put_here files place (written (end + 1) bytes (files place)) ∙ ap (λ (l : List ℕ). written (end + 1) l (files place)) is))
      (staged (files place) front body end long h)

  pub opened_put : IsStaged (files place) front body → IsShut (one_more front body) (put files place (written end (1 ∷ []) (files place)) place)
  opened_put s = subst (λ (f : File). IsShut (one_more front body) f) (sym (put_here files place (written end (1 ∷ []) (files place)))) (opened (files place) front body end long s)

  pub partly_staged : (bytes : List ℕ) (now : File) → IsShut front (files place) → IsPartly (files place) (written (end + 1) bytes (files place)) now → IsEither front body (put files place now place)
  partly_staged bytes now h partly = inl (behind_kept (files place) (put files place now place) front h
      (λ i byte lt is. ap (λ (f : File). byte_at f i) (put_here files place now) ∙ partly_kept (end + 1) bytes (files place) now partly i byte (inl (omega (arith, long))) is))

  pub partly_opened : (now : File) → IsStaged (files place) front body → IsPartly (files place) (written end (1 ∷ []) (files place)) now → IsEither front body (put files place now place)
  partly_opened now s partly = gate_torn (files place) (put files place now place) front body s
      (λ i byte which is. ap (λ (f : File). byte_at f i) (put_here files place now)
      ∙ partly_kept end (1 ∷ []) (files place) now partly i byte (⊎_elim (λ lt. inl (omega (arith, long))) (λ le. inr (omega (arith, long))) which) is)
