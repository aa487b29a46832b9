-- What the files of a shelf are, before and after a change to its live log.
use Rattle.std.proofs.Common.{◌≡◌, ℕ, suc, ◌+◌, ◌<◌, ◌≤◌, List, [], ◌∷◌, ◌++◌, length, take, drop, get_or, refl, sym, ◌∙◌, ap, subst, arith, append_assoc, length-append, length-take-le}
use Rattle.std.specs.Prelude.{◌≢◌, Some, None}
use Rattle.std.proofs.lemmas.List.{append-nil, take-take, take-append-le, take-append-drop, take_at}
use Rattle.std.proofs.Math.Seq.{drop-cons}
use Rattle.cm_disk.specs.Disk.{File, Files, bytes_of}
use Rattle.cm_log.specs.declared.shelf.Shelf.{Shelf}
use Rattle.cm_log.specs.declared.shelf.Side.{Side}
use Rattle.cm_log.specs.declared.shelf.Side.TheVariants.{First, Second}
use Rattle.cm_log.specs.declared.head.Head.{Head}
use Rattle.cm_log.specs.declared.head.Choice.{Choice}
use Rattle.cm_log.specs.declared.head.Choice.TheVariants.{Chosen, Refused}
use Rattle.cm_log.specs.Shelves.{ready_place, log_place}
use Rattle.cm_log.specs.Heads.{head_of, choice}
use Rattle.cm_log.specs.Logs.{Entry, Reading, Live, following, closed, reading_at, head_at, rest_at, told_by, shelved_by, shelved}
use Rattle.std.specs.Int.{to_le_bytes, w32}
use Rattle.cm_log.specs.Records.{measured}
use Rattle.cm_log.specs.Fronts.{IsShut, one_more}
use Rattle.cm_log.proofs.Apart.{logs_apart}
use Rattle.cm_log.proofs.Readings.{upto, shut_here, record_here}

-- the live log of these files, and its records
pub record Lives (shelf : Shelf) (files : Files) (place : List ℕ) (reading : Reading) : Type 0 where
  pub side : Side
  pub at : place ≡ log_place shelf side
  pub ready : List ℕ
  pub there : files (ready_place shelf) ≡ Some ready
  pub chosen : choice (head_at files (log_place shelf First)) (head_at files (log_place shelf Second)) ≡ Chosen side
  pub reads : rest_at files place 10 ≡ reading

lives_by : (shelf : Shelf) (files : Files) (place : List ℕ) (reading : Reading) (ready : List ℕ) → files (ready_place shelf) ≡ Some ready
    → (c : Choice) → choice (head_at files (log_place shelf First)) (head_at files (log_place shelf Second)) ≡ c → told_by c shelf files ≡ Live place reading → Lives shelf files place reading
lives_by shelf files place reading ready there (Refused side at) chosen is = absurd (cc)
lives_by shelf files place reading ready there (Chosen side) chosen is =
    let here : log_place shelf side ≡ place = cc in
    let same : rest_at files (log_place shelf side) 10 ≡ reading = cc in
    record {
      side = side;
      at = sym here;
      ready = ready;
      there = there;
      chosen = chosen;
      reads = ap (λ (p : List ℕ). rest_at files p 10) (sym here) ∙ same;
    }

lives_at : (shelf : Shelf) (files : Files) (place : List ℕ) (reading : Reading) (ready : File) → files (ready_place shelf) ≡ ready → shelved_by ready shelf files ≡ Live place reading → Lives shelf files place reading
lives_at shelf files place reading None there is = absurd (cc)
lives_at shelf files place reading (Some ready) there is = lives_by shelf files place reading ready there (choice (head_at files (log_place shelf First)) (head_at files (log_place shelf Second))) refl is

pub lives : (shelf : Shelf) (files : Files) (place : List ℕ) (reading : Reading) → shelved shelf files ≡ Live place reading → Lives shelf files place reading
lives shelf files place reading is = lives_at shelf files place reading (files (ready_place shelf)) refl is

-- other files, which differ at the live log alone, and there not in the head
pub record Beside (shelf : Shelf) (place : List ℕ) (files left : Files) : Type 0 where
  pub ready : left (ready_place shelf) ≡ files (ready_place shelf)
  pub logs : (side : Side) → log_place shelf side ≢ place → left (log_place shelf side) ≡ files (log_place shelf side)

head_same : (shelf : Shelf) (files left : Files) (side which : Side) → Beside shelf (log_place shelf side) files left
    → take 10 (bytes_of (left (log_place shelf side))) ≡ take 10 (bytes_of (files (log_place shelf side))) → head_at left (log_place shelf which) ≡ head_at files (log_place shelf which)
head_same shelf files left First First beside head = ap head_of head
head_same shelf files left First Second beside head = ap (λ (f : File). head_of (take 10 (bytes_of f))) (beside.logs Second (λ e. logs_apart shelf (sym e)))
head_same shelf files left Second First beside head = ap (λ (f : File). head_of (take 10 (bytes_of f))) (beside.logs First (logs_apart shelf))
head_same shelf files left Second Second beside head = ap head_of head

pub moved : (shelf : Shelf) (files left : Files) (place : List ℕ) (reading : Reading) → shelved shelf files ≡ Live place reading → Beside shelf place files left
    → take 10 (bytes_of (left place)) ≡ take 10 (bytes_of (files place)) → shelved shelf left ≡ Live place (rest_at left place 10)
moved shelf files left place reading is beside head =
    let l = lives shelf files place reading is in
    let near = subst (λ (p : List ℕ). Beside shelf p files left) l.at beside in
    let begins = subst (λ (p : List ℕ). take 10 (bytes_of (left p)) ≡ take 10 (bytes_of (files p))) l.at head in
    ap (λ (f : File). shelved_by f shelf left) (beside.ready ∙ l.there)
    ∙ ap (λ (h : Head). told_by (choice h (head_at left (log_place shelf Second))) shelf left) (head_same shelf files left l.side First near begins)
    ∙ ap (λ (h : Head). told_by (choice (head_at files (log_place shelf First)) h) shelf left) (head_same shelf files left l.side Second near begins)
    ∙ ap (λ (c : Choice). told_by c shelf left) l.chosen
    ∙ ap (λ (p : List ℕ). Live p (rest_at left p 10)) (sym l.at)

-- the same files at the three places
pub alike : (shelf : Shelf) (files left : Files) → left (ready_place shelf) ≡ files (ready_place shelf) → ((side : Side) → left (log_place shelf side) ≡ files (log_place shelf side)) → shelved shelf left ≡ shelved shelf files
alike shelf files left ready logs =
    ap (λ (f : File). shelved_by f shelf left) ready ∙ told (files (ready_place shelf))
  where
    by : (c : Choice) → told_by c shelf left ≡ told_by c shelf files
    by (Refused side at) = refl
    by (Chosen side) = ap (λ (f : File). Live (log_place shelf side) (reading_at (bytes_of f) 10)) (logs side)

    told : (f : File) → shelved_by f shelf left ≡ shelved_by f shelf files
    told None = refl
    told (Some x) =
        ap (λ (f : File). told_by (choice (head_of (take 10 (bytes_of f))) (head_at left (log_place shelf Second))) shelf left) (logs First)
        ∙ ap (λ (f : File). told_by (choice (head_at files (log_place shelf First)) (head_of (take 10 (bytes_of f)))) shelf left) (logs Second)
        ∙ by (choice (head_at files (log_place shelf First)) (head_at files (log_place shelf Second)))

-- the bytes before the closed gate of a live log
pub front_of : ℕ → File → List ℕ
front_of end file = take end (bytes_of file)

some_of : (file : File) (n : ℕ) → n < length (bytes_of file) → file ≡ Some (bytes_of file)
some_of None n lt = absurd (omega arith)
some_of (Some bytes) n lt = refl

-- a live log that ends there, by what stands before its closed gate
pub record Ended (shelf : Shelf) (files : Files) (place : List ℕ) (entries : List Entry) (end : ℕ) (front : List ℕ) : Type 0 where
  pub long : length front ≡ end
  pub head : 10 ≤ end
  pub shut : IsShut front (files place)
  pub again : (left : Files) → Beside shelf place files left → IsShut front (left place) → shelved shelf left ≡ Live place (closed entries end)
  pub more : (left : Files) (body : List ℕ) → length body ≤ 65536 → Beside shelf place files left → IsShut (one_more front body) (left place)
      → shelved shelf left ≡ Live place (closed (entries ++ record { gate = end; body = body } ∷ []) (end + 5 + length body))

pub ended_by : (shelf : Shelf) (files : Files) (place : List ℕ) (entries : List Entry) (end : ℕ) → shelved shelf files ≡ Live place (closed entries end) → Ended shelf files place entries end (take end (bytes_of (files place)))
ended_by shelf files place entries end is =
    let l = lives shelf files place (closed entries end) is in
    let bytes = bytes_of (files place) in
    let u = upto (length bytes) bytes 10 end entries l.reads in
    let front = take end bytes in
    let gate = get_or bytes end 0 in
    let long : length front ≡ end = length-take-le end bytes (omega (arith, u.there)) in
    let begins : (tail : List ℕ) → take end (front ++ tail) ≡ take end bytes = λ tail. take_at front tail end long in
    let heads : (tail : List ℕ) → take 10 (front ++ tail) ≡ take 10 bytes =
    λ tail. take-append-le 10 front tail (omega (arith, u.within)) ∙ take-take 10 end bytes u.within in
    record {
      long = long;
      head = u.within;
      shut = record {
        gate = gate;
        rest = drop (suc end) bytes;
        spells = some_of (files place) end u.there ∙ ap (λ (l : List ℕ). Some l) (sym (take-append-drop end bytes) ∙ ap (λ (l : List ℕ). front ++ l) (drop-cons bytes end 0 u.there));
        shut = u.shut;
      };
      again = λ left beside s.
          let is_bytes : bytes_of (left place) ≡ front ++ s.gate ∷ s.rest = ap bytes_of s.spells in
          moved shelf files left place (closed entries end) is beside (ap (λ (l : List ℕ). take 10 l) is_bytes ∙ heads (s.gate ∷ s.rest))
          ∙ ap (λ (r : Reading). Live place r)
          (ap (λ (l : List ℕ). reading_at l 10) is_bytes
          ∙ u.again (front ++ s.gate ∷ s.rest) (begins (s.gate ∷ s.rest)) (omega (arith, long, length-append front (s.gate ∷ s.rest)))
          ∙ ap (λ (r : Reading). following entries r) (shut_here front s.gate s.rest end long s.shut)
          ∙ ap (λ (l : List Entry). closed l end) (append-nil entries));
      more = λ left body short beside s.
          let tail = s.gate ∷ s.rest in
          let new = one_more front body in
          let after = end + 5 + length body in
          let is_bytes : bytes_of (left place) ≡ new ++ tail = ap bytes_of s.spells in
          let split : new ++ tail ≡ front ++ (1 ∷ (measured body ++ tail)) = append_assoc front (1 ∷ measured body) tail in
          let field = to_le_bytes w32 (length body) in
          let longer : length new ≡ after = omega (arith, long, length-append front (1 ∷ measured body), length-append field body) in
          moved shelf files left place (closed entries end) is beside (ap (λ (l : List ℕ). take 10 l) (is_bytes ∙ split) ∙ heads (1 ∷ (measured body ++ tail)))
          ∙ ap (λ (r : Reading). Live place r)
          (ap (λ (l : List ℕ). reading_at l 10) is_bytes
          ∙ u.again (new ++ tail) (ap (λ (l : List ℕ). take end l) split ∙ begins (1 ∷ (measured body ++ tail))) (omega (arith, longer, length-append new tail))
          ∙ ap (λ (r : Reading). following entries r) (record_here front body tail end long short)
          ∙ ap (λ (r : Reading). following entries (following (record { gate = end; body = body } ∷ []) r)) (shut_here new s.gate s.rest after longer s.shut));
    }
