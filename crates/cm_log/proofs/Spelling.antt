-- A file that spells records is read as these records.
use Rattle.std.proofs.Common.{◌≡◌, ℕ, ◌+◌, ◌≤◌, List, [], ◌∷◌, ◌++◌, length, refl, sym, ◌∙◌, ap, arith, append_assoc, length-append}
use Rattle.std.specs.Prelude.{◌≢◌, Some}
use Rattle.std.specs.Int.{to_le_bytes, w32}
use Rattle.std.proofs.lemmas.List.{append-nil}
use Rattle.cm_disk.specs.Disk.{File, bytes_of}
use Rattle.cm_log.specs.Logs.{Entry, Closed, Reading, following, closed, reading_at}
use Rattle.cm_log.specs.Records.{measured, spelled, AreShort, end_behind, HasRecords, entries_from}
use Rattle.cm_log.specs.Fronts.{IsShut, one_more}
use Rattle.cm_log.proofs.Readings.{shut_here, record_here}

pub length-measured : (body : List ℕ) → length (measured body) ≡ 4 + length body
length-measured body = four (to_le_bytes w32 (length body)) refl
  where
    four : (field : List ℕ) → length field ≡ 4 → length (field ++ body) ≡ 4 + length body
    four field is = omega (arith, is, length-append field body)

read_spelled : (ahead : List ℕ) (bodies : List (List ℕ)) (gate : ℕ) (rest : List ℕ) → AreShort bodies → gate ≢ 1 → (at : ℕ) → length ahead ≡ at
    → reading_at ((ahead ++ spelled bodies) ++ gate ∷ rest) at ≡ closed (entries_from at bodies) (at + length (spelled bodies))
read_spelled ahead [] gate rest short shut at long =
    ap (λ (l : List ℕ). reading_at (l ++ gate ∷ rest) at) (append-nil ahead)
    ∙ shut_here ahead gate rest at long shut
    ∙ ap (λ (n : ℕ). closed [] n) (omega arith)
read_spelled ahead (body ∷ bodies) gate rest short shut at long =
    let tail = spelled bodies ++ gate ∷ rest in
    let more = one_more ahead body in
    let after = at + 5 + length body in
    let longer : length more ≡ after = omega (arith, long, length-append ahead (1 ∷ measured body), length-measured body) in
    let split : (ahead ++ spelled (body ∷ bodies)) ++ gate ∷ rest ≡ (more ++ spelled bodies) ++ gate ∷ rest = ap (λ (l : List ℕ). l ++ gate ∷ rest) (sym (append_assoc ahead (1 ∷ measured body) (spelled bodies))) in
    let joined : (more ++ spelled bodies) ++ gate ∷ rest ≡ more ++ tail = append_assoc more (spelled bodies) (gate ∷ rest) in
    let all : length (spelled (body ∷ bodies)) ≡ 5 + length body + length (spelled bodies) = omega (arith, length-append (1 ∷ measured body) (spelled bodies), length-measured body) in
    let later : reading_at ((more ++ spelled bodies) ++ gate ∷ rest) after ≡ closed (entries_from after bodies) (after + length (spelled bodies)) = read_spelled more bodies gate rest short.1 shut after longer in
    ap (λ (l : List ℕ). reading_at l at) (split ∙ joined)
    ∙ record_here ahead body tail at long short.0
    ∙ ap (λ (l : List ℕ). following (record { gate = at; body = body } ∷ []) (reading_at l after)) (sym joined)
    ∙ ap (λ (r : Reading). following (record { gate = at; body = body } ∷ []) r) later
    ∙ ap (λ (n : ℕ). closed (record { gate = at; body = body } ∷ entries_from after bodies) n) (omega (arith, all))

-- the bytes before the closed gate
pub spelled_front : {file : File} {bodies : List (List ℕ)} → HasRecords file bodies → List ℕ
spelled_front {bodies = bodies} h = (1 ∷ 1 ∷ h.generation) ++ spelled bodies

pub front_shut : {file : File} {bodies : List (List ℕ)} (h : HasRecords file bodies) → IsShut (spelled_front h) file
unfolding spelled_front
front_shut h = record { gate = h.gate; rest = h.rest; spells = h.spells; shut = h.shut }

pub front_long : {file : File} {bodies : List (List ℕ)} (h : HasRecords file bodies) → length (spelled_front h) ≡ end_behind bodies
unfolding spelled_front
front_long {bodies = bodies} h = omega (arith, h.long, length-append h.generation (spelled bodies))

-- a file with these records is read as these, and closed behind them
pub records_read : {file : File} {bodies : List (List ℕ)} → HasRecords file bodies → reading_at (bytes_of file) 10 ≡ closed (entries_from 10 bodies) (end_behind bodies)
records_read {file} {bodies} h =
    ap (λ (f : File). reading_at (bytes_of f) 10) h.spells
    ∙ read_spelled (1 ∷ 1 ∷ h.generation) bodies h.gate h.rest h.short h.shut 10 (omega (arith, h.long))

pub spelled-push : (bodies : List (List ℕ)) (body : List ℕ) → spelled (bodies ++ body ∷ []) ≡ spelled bodies ++ 1 ∷ measured body
spelled-push [] body = append-nil (1 ∷ measured body)
spelled-push (b ∷ bodies) body =
    ap (λ (l : List ℕ). (1 ∷ measured b) ++ l) (spelled-push bodies body) ∙ sym (append_assoc (1 ∷ measured b) (spelled bodies) (1 ∷ measured body))

AreShort-push : (bodies : List (List ℕ)) (body : List ℕ) → AreShort bodies → length body ≤ 65536 → AreShort (bodies ++ body ∷ [])
AreShort-push [] body all short = (short, tt)
AreShort-push (b ∷ bodies) body all short = (all.0, AreShort-push bodies body all.1 short)

-- one record more
pub records_more : {file : File} {bodies : List (List ℕ)} (h : HasRecords file bodies) (now : File) (body : List ℕ) → length body ≤ 65536 → IsShut (one_more (spelled_front h) body) now → HasRecords now (bodies ++ body ∷ [])
unfolding spelled_front
records_more {bodies = bodies} h now body short s =
    let head = 1 ∷ 1 ∷ h.generation in
    record {
      generation = h.generation;
      gate = s.gate;
      rest = s.rest;
      spells = s.spells ∙ ap (λ (l : List ℕ). Some (l ++ s.gate ∷ s.rest)) (append_assoc head (spelled bodies) (1 ∷ measured body) ∙ ap (λ (l : List ℕ). head ++ l) (sym (spelled-push bodies body)));
      long = h.long;
      short = AreShort-push bodies body h.short short;
      shut = s.shut;
    }

-- one file spells one end
pub same_end : {file : File} {bodies : List (List ℕ)} → HasRecords file bodies → (entries : List Entry) (end : ℕ) → reading_at (bytes_of file) 10 ≡ closed entries end → end_behind bodies ≡ end
same_end {file} {bodies} h entries end is =
    let e : Closed (end_behind bodies) ≡ Closed end = ap (λ (r : Reading). r.ending) (sym (records_read h) ∙ is) in
    cc
