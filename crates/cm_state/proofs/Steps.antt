-- One record after another, of a log that is read.
use Rattle.std.proofs.Common.{◌≡◌, ℕ, true, List, [], ◌∷◌, sym, ◌∙◌, ap}
use Rattle.std.specs.Prelude.{Option, None, Some, ok_or, Result, Ok}
use Rattle.cm_disk.specs.Disk.{Files}
use Rattle.cm_log.specs.declared.shelf.Shelf.{Shelf}
use Rattle.cm_log.specs.Logs.{Ending, Closed, Broken, Reading, Shelved, NoLog, Unread, Live, ended, following, shelved}
use Rattle.cm_log.specs.declared.position.LogReader.{LogReader}
use Rattle.cm_log.specs.Settled.{reader_shelf, reader_place, reader_at, has_ended, rest_of, IsReading}
use Rattle.cm_pkglib.specs.Rows.{Rows}
use Rattle.cm_state.specs.Look.{Unreadable, rows_after_body, rows_from, ended_or, library_from}
use Rattle.cm_state.proofs.Replaying.{rows_refused}

-- a record that the rows take
pub takes : (files : Files) (place : List ℕ) (rows next : Rows) (gate : ℕ) (body : List ℕ) (old rest : Reading) → old ≡ following (record { gate = gate; body = body } ∷ []) rest → rows_after_body body rows ≡ Some next
    → library_from files place (Ok rows) old ≡ library_from files place (Ok next) rest
takes files place rows next gate body old rest is step =
    ap (λ (r : Reading). library_from files place (Ok rows) r) is
    ∙ ap (λ (o : Option Rows). ended_or files place rest.ending (rows_from (ok_or o gate) rest.entries)) step

-- a record that they refuse
pub refuses : (files : Files) (place : List ℕ) (rows : Rows) (gate : ℕ) (body : List ℕ) (old rest : Reading) → old ≡ following (record { gate = gate; body = body } ∷ []) rest → rows_after_body body rows ≡ None
    → library_from files place (Ok rows) old ≡ Unreadable place gate
refuses files place rows gate body old rest is step =
    ap (λ (r : Reading). library_from files place (Ok rows) r) is
    ∙ ap (λ (o : Option Rows). ended_or files place rest.ending (rows_from (ok_or o gate) rest.entries)) step
    ∙ ap (λ (o : Result Rows ℕ). ended_or files place rest.ending o) (rows_refused gate rest.entries)

-- a file that ends in the middle
pub breaks : (files : Files) (place : List ℕ) (rows : Rows) (at : ℕ) (old : Reading) → old ≡ ended (Broken at) → library_from files place (Ok rows) old ≡ Unreadable place at
breaks files place rows at old is = ap (λ (r : Reading). library_from files place (Ok rows) r) is

abbrev ending_at : Ending → ℕ
ending_at (Closed end) = end
ending_at (Broken at) = at

abbrev end_in : Shelved → ℕ
end_in NoLog = 0
end_in (Unread place at) = 0
end_in (Live place reading) = ending_at reading.ending

-- at the closed gate nothing more is to come
pub closes : (files : Files) (before after : List ℕ → Option (List ℕ) → Type 0) (old new : LogReader) → IsReading files before old → IsReading files after new → reader_shelf new ≡ reader_shelf old
    → rest_of files old ≡ ended (Closed (reader_at old)) → has_ended new ≡ true → rest_of files new ≡ rest_of files old
closes files before after old new r s shelf is done =
    let now : rest_of files new ≡ ended (Closed (reader_at new)) = s.at.ended done in
    let was : shelved (reader_shelf old) files ≡ Live (reader_place old) (following r.at.passed (ended (Closed (reader_at old)))) = r.at.live ∙ ap (λ (x : Reading). Live (reader_place old) (following r.at.passed x)) is in
    let here : shelved (reader_shelf new) files ≡ Live (reader_place new) (following s.at.passed (ended (Closed (reader_at new)))) = s.at.live ∙ ap (λ (x : Reading). Live (reader_place new) (following s.at.passed x)) now in
    let same : reader_at new ≡ reader_at old = ap end_in (sym here ∙ ap (λ (x : Shelf). shelved x files) shelf ∙ was) in
    now ∙ ap (λ (n : ℕ). ended (Closed n)) same ∙ sym is
