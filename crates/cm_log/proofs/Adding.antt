-- A record more, in the words of the shelf.
use Rattle.std.proofs.Common.{◌≡◌, ◌⊎◌, inl, inr, ⊎_elim, ℕ, ◌+◌, ◌<◌, ◌≤◌, List, [], ◌∷◌, ◌++◌, length, take, get_or, refl, sym, ◌∙◌, ap, subst, arith, length-append}
use Rattle.std.specs.Prelude.{◌≢◌, Bool, true, false, ◌==◌, Ok}
use Rattle.std.proofs.lemmas.Bool.Decides.{nat_tests}
use Rattle.cm_disk.specs.Disk.{File, Files, bytes_of, IsImage, Only, LeavesNoMore}
use Rattle.cm_log.specs.declared.shelf.Shelf.{Shelf}
use Rattle.cm_log.specs.declared.shelf.Side.{Side}
use Rattle.cm_log.specs.declared.shelf.Side.TheVariants.{First, Second}
use Rattle.cm_log.specs.declared.state.Log.{Log}
use Rattle.cm_log.specs.Shelves.{ready_place, log_place}
use Rattle.cm_log.specs.Logs.{Entry, Reading, Shelved, Live, closed, shelved, added}
use Rattle.cm_log.specs.Fronts.{IsShut, one_more, IsEither, IsGated}
use Rattle.cm_log.specs.Outcomes.{StandsAfter}
use Rattle.cm_log.specs.Settled.{Rests, IsSettled, IsUnsettled, Stands, IsBeforeOrAfter}
use Rattle.cm_log.proofs.Apart.{logs_apart, ready_apart}
use Rattle.cm_log.proofs.Readings.{upto}
use Rattle.cm_log.proofs.Rest.{image_shelved}
use Rattle.cm_log.proofs.Shelveds.{lives, Beside, Ended, ended_by}

-- a live log is at one of the two places
pub ready_away : (shelf : Shelf) (files : Files) (place : List ℕ) (reading : Reading) → shelved shelf files ≡ Live place reading → ready_place shelf ≢ place
ready_away shelf files place reading is e =
    let l = lives shelf files place reading is in
    ready_apart shelf l.side (e ∙ l.at)

pub place_rests : (shelf : Shelf) (files : Files) (may_leave : List ℕ → File → Type 0) (place : List ℕ) (reading : Reading) → shelved shelf files ≡ Live place reading → Rests shelf files may_leave → Only (files place) (may_leave place)
place_rests shelf files may_leave place reading is r =
    let l = lives shelf files place reading is in
    subst (λ (q : List ℕ). Only (files q) (may_leave q)) (sym l.at) (r.logs l.side)

-- each log by whether it is the live one
pub by_side : (shelf : Shelf) (side : Side) (P : List ℕ → Type 0) → P (log_place shelf side) → ((other : Side) → log_place shelf other ≢ log_place shelf side → P (log_place shelf other)) → (which : Side) → P (log_place shelf which)
by_side shelf First P here there First = here
by_side shelf First P here there Second = there Second (λ e. logs_apart shelf (sym e))
by_side shelf Second P here there First = there First (logs_apart shelf)
by_side shelf Second P here there Second = here

-- the three places are at rest where the live log is, and the others are
pub all_rest : (shelf : Shelf) (old files : Files) (may_leave : List ℕ → File → Type 0) (place : List ℕ) (reading : Reading) → shelved shelf old ≡ Live place reading
    → Only (files (ready_place shelf)) (may_leave (ready_place shelf)) → Only (files place) (may_leave place) → ((side : Side) → log_place shelf side ≢ place → Only (files (log_place shelf side)) (may_leave (log_place shelf side))) → Rests shelf files may_leave
all_rest shelf old files may_leave place reading is ready here there =
    let l = lives shelf old place reading is in
    record {
      ready = ready;
      logs = by_side shelf l.side (λ (q : List ℕ). Only (files q) (may_leave q)) (subst (λ (q : List ℕ). Only (files q) (may_leave q)) l.at here) (λ side other. there side (λ e. other (e ∙ l.at)));
    }

module _ (shelf : Shelf) (files : Files) (may_leave : List ℕ → File → Type 0) (place : List ℕ) (entries : List Entry) (end : ℕ) (live : shelved shelf files ≡ Live place (closed entries end)) (rests : Rests shelf files may_leave) where
  -- files that were left beside it
  pub beside_left : (left : Files) → ((q : List ℕ) → q ≢ place → may_leave q (left q)) → Beside shelf place files left
  beside_left left others = record {
    ready = rests.ready (left (ready_place shelf)) (others (ready_place shelf) (ready_away shelf files place (closed entries end) live));
    logs = λ side other. rests.logs side (left (log_place shelf side)) (others (log_place shelf side) other);
  }

  -- what stays at rest beside it
  pub ready_kept : (now : Files) (new : List ℕ → File → Type 0) → ((q : List ℕ) → q ≢ place → now q ≡ files q) → ((q : List ℕ) (file : File) → q ≢ place → new q file → may_leave q file) → Only (now (ready_place shelf)) (new (ready_place shelf))
  ready_kept now new same no_more left l =
      let away = ready_away shelf files place (closed entries end) live in
      rests.ready left (no_more (ready_place shelf) left away l) ∙ sym (same (ready_place shelf) away)

  pub logs_kept : (now : Files) (new : List ℕ → File → Type 0) → ((q : List ℕ) → q ≢ place → now q ≡ files q) → ((q : List ℕ) (file : File) → q ≢ place → new q file → may_leave q file)
      → (side : Side) → log_place shelf side ≢ place → Only (now (log_place shelf side)) (new (log_place shelf side))
  logs_kept now new same no_more side other left l = rests.logs side left (no_more (log_place shelf side) left other l) ∙ sym (same (log_place shelf side) other)

module _ (shelf : Shelf) (files : Files) (place : List ℕ) (entries : List Entry) (end : ℕ) (front body : List ℕ) (live : shelved shelf files ≡ Live place (closed entries end)) (ended : Ended shelf files place entries end front) (short : length body ≤ 65536) where
  pub either_shelved : (left : Files) → Beside shelf place files left → IsEither front body (left place) → (shelved shelf left ≡ shelved shelf files) ⊎ (shelved shelf left ≡ added body (shelved shelf files))
  either_shelved left beside either = ⊎_elim
      (λ s. inl (ended.again left beside s ∙ sym live))
      (λ s. inr (ended.more left body short beside s ∙ sym (ap (added body) live)))
      either

  pub more_shelved : (left : Files) → Beside shelf place files left → IsShut (one_more front body) (left place) → shelved shelf left ≡ added body (shelved shelf files)
  more_shelved left beside s = ended.more left body short beside s ∙ sym (ap (added body) live)

-- the gate of a closed log, and the one that its last record opened
pub gate_shut : (shelf : Shelf) (files : Files) (place : List ℕ) (entries : List Entry) (end : ℕ) → shelved shelf files ≡ Live place (closed entries end) → (end < length (bytes_of (files place))) × (get_or (bytes_of (files place)) end 0 ≢ 1)
gate_shut shelf files place entries end is =
    let l = lives shelf files place (closed entries end) is in
    let u = upto (length (bytes_of (files place))) (bytes_of (files place)) 10 end entries l.reads in
    (u.there, u.shut)

pub gate_open : (shelf : Shelf) (files : Files) (place : List ℕ) (entries : List Entry) (end : ℕ) (body : List ℕ) → shelved shelf files ≡ added body (Live place (closed entries end)) → (end < length (bytes_of (files place))) × (get_or (bytes_of (files place)) end 0 ≡ 1)
gate_open shelf files place entries end body is =
    let more = entries ++ record { gate = end; body = body } ∷ [] in
    let l = lives shelf files place (closed more (end + 5 + length body)) is in
    let u = upto (length (bytes_of (files place))) (bytes_of (files place)) 10 (end + 5 + length body) more l.reads in
    u.opens entries [] (record { gate = end; body = body }) refl

-- an unsettled log, after a call that changes nothing
pub unsettled_kept : (files : Files) (old new : List ℕ → File → Type 0) (log : Log) (before : Shelved) (body : List ℕ) → LeavesNoMore old new → IsUnsettled files old log before body → IsUnsettled files new log before body
unsettled_kept files old new log before body stop u = record {
  entries = u.entries;
  live = u.live;
  number = u.number;
  end_with = u.end_with;
  reads = u.reads;
  leaves = λ left image. u.leaves left (λ q. stop q (left q) (image q));
  ready = λ left l. u.ready left (stop (ready_place log.shelf) left l);
  other = λ side away left l. u.other side away left (stop (log_place log.shelf side) left l);
}

-- what a stop leaves while a record is added
module _ (shelf : Shelf) (files : Files) (may_leave : List ℕ → File → Type 0) (place : List ℕ) (entries : List Entry) (end : ℕ) (body : List ℕ) (live : shelved shelf files ≡ Live place (closed entries end)) (rests : Rests shelf files may_leave) where
  pub at_first : (left : Files) → IsImage may_leave left → IsBeforeOrAfter shelf place may_leave (shelved shelf files) body left
  at_first left image = record { others = λ q other. image q; log = inl (image_shelved shelf files may_leave rests left image) }

  pub before_or_after : length body ≤ 65536 → (left : Files) → IsGated place may_leave (take end (bytes_of (files place))) body left → IsBeforeOrAfter shelf place may_leave (shelved shelf files) body left
  before_or_after short left g = record {
    others = g.others;
    log = either_shelved shelf files place entries end (take end (bytes_of (files place))) body live (ended_by shelf files place entries end live) short left (beside_left shelf files may_leave place entries end live rests left g.others) g.log;
  }

-- files that are the same but at the live log
pub beside_now : (shelf : Shelf) (files : Files) (place : List ℕ) (entries : List Entry) (end : ℕ) → shelved shelf files ≡ Live place (closed entries end) → (now : Files) → ((q : List ℕ) → q ≢ place → now q ≡ files q) → Beside shelf place files now
beside_now shelf files place entries end live now same = record {
  ready = same (ready_place shelf) (ready_away shelf files place (closed entries end) live);
  logs = λ side other. same (log_place shelf side) other;
}

pub stands_at : (files now : Files) (may_leave : List ℕ → File → Type 0) (log : Log) (old : Shelved) (body : List ℕ) → files ≡ now → IsUnsettled files may_leave log old body → Stands now may_leave log
stands_at files now may_leave log old body same u = subst (λ (f : Files). Stands f may_leave log) same (inr (old, body, u))

-- a log that an Ok left settled
pub after_ok : {T E : Type 0} {x : T} {files : Files} {may_leave : List ℕ → File → Type 0} {log : Log} → IsSettled files may_leave log → StandsAfter {T = T} {E = E} (Ok x) files may_leave log
after_ok s = record { settled = s; stands = inl s }

pub after_ok_at : {T E : Type 0} {x : T} (files now : Files) (may_leave : List ℕ → File → Type 0) (log : Log) → files ≡ now → IsSettled files may_leave log → StandsAfter {T = T} {E = E} (Ok x) now may_leave log
after_ok_at files now may_leave log same s = after_ok (subst (λ (f : Files). IsSettled f may_leave log) same s)

pub settled_by : (files : Files) (may_leave : List ℕ → File → Type 0) (log : Log) → Stands files may_leave log → log.end_with ≡ log.end → IsSettled files may_leave log
settled_by files may_leave log (inl s) same = s
settled_by files may_leave log (inr (old, body, u)) same = absurd (omega (arith, u.end_with, same))

pub unsettled_by : (files : Files) (may_leave : List ℕ → File → Type 0) (log : Log) → Stands files may_leave log → log.end_with ≢ log.end → (old : Shelved) × (body : List ℕ) × IsUnsettled files may_leave log old body
unsettled_by files may_leave log (inl s) other = absurd (other s.idle)
unsettled_by files may_leave log (inr u) other = u

pub stands_kept : (files : Files) (old new : List ℕ → File → Type 0) (log : Log) → LeavesNoMore old new → log.end_with ≢ log.end → Stands files old log → Stands files new log
stands_kept files old new log stop other s =
    let u = unsettled_by files old log s other in
    inr (u.0, u.1, unsettled_kept files old new log u.0 u.1 stop u.2)

-- the gate tells which
pub told_open : (files : Files) (may_leave : List ℕ → File → Type 0) (log : Log) (old : Shelved) (body : List ℕ) → IsUnsettled files may_leave log old body → get_or (bytes_of (files log.place)) log.end 0 ≡ 1 → shelved log.shelf files ≡ added body old
told_open files may_leave log old body u one = ⊎_elim
    (λ same. absurd ((gate_shut log.shelf files log.place u.entries log.end (same ∙ u.live)).1 one))
    (λ more. more)
    u.reads

pub told_shut : (files : Files) (may_leave : List ℕ → File → Type 0) (log : Log) (old : Shelved) (body : List ℕ) → IsUnsettled files may_leave log old body → get_or (bytes_of (files log.place)) log.end 0 ≢ 1 → shelved log.shelf files ≡ old
told_shut files may_leave log old body u other = ⊎_elim
    (λ same. same)
    (λ more. absurd (other (gate_open log.shelf files log.place u.entries log.end body (more ∙ ap (added body) u.live)).1))
    u.reads

-- the log once it is settled, with the record and without
module _ (files : Files) (old new : List ℕ → File → Type 0) (log : Log) (before : Shelved) (body : List ℕ) (u : IsUnsettled files old log before body) (stop : LeavesNoMore old new) (here : Only (files log.place) (new log.place)) where
  rest : (reading : Reading) → shelved log.shelf files ≡ Live log.place reading → Rests log.shelf files new
  rest reading live = all_rest log.shelf files files new log.place reading live (λ left l. u.ready left (stop (ready_place log.shelf) left l)) here (λ side away left l. u.other side away left (stop (log_place log.shelf side) left l))

  pub record Found (end count : ℕ) : Type 0 where
    pub entries : List Entry
    pub live : shelved log.shelf files ≡ Live log.place (closed entries end)
    pub number : count ≡ length entries
    pub rests : Rests log.shelf files new

  pub found_open : get_or (bytes_of (files log.place)) log.end 0 ≡ 1 → Found log.end_with (log.number + 1)
  found_open one =
      let more = u.entries ++ record { gate = log.end; body = body } ∷ [] in
      let live = told_open files old log before body u one ∙ ap (added body) u.live ∙ ap (λ (n : ℕ). Live log.place (closed more n)) (sym u.end_with) in
      record {
        entries = more;
        live = live;
        number = omega (arith, u.number, length-append u.entries (record { gate = log.end; body = body } ∷ []));
        rests = rest (closed more log.end_with) live;
      }

  pub found_shut : get_or (bytes_of (files log.place)) log.end 0 ≢ 1 → Found log.end log.number
  found_shut other =
      let live = told_shut files old log before body u other ∙ u.live in
      record { entries = u.entries; live = live; number = u.number; rests = rest (closed u.entries log.end) live }

pub one_by : (b : Bool) (n : ℕ) → b ≡ (n == 1) → b ≡ true → n ≡ 1
one_by b n is yes_ = grind (arith, nat_tests)

pub other_by : (b : Bool) (n : ℕ) → b ≡ (n == 1) → b ≡ false → n ≢ 1
other_by b n is not_ = grind (arith, nat_tests)
