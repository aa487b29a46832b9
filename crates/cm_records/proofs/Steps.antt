-- One record after another, of a site's log that is read.
use Rattle.std.proofs.Common.{◌≡◌, ◌⊎◌, inl, inr, ℕ, true, List, [], ◌∷◌, refl, sym, ◌∙◌, ap, subst}
use Rattle.std.specs.Prelude.{Option, Some, Result, Ok, Err}
use Rattle.std.proofs.lemmas.Bool.{eqb-true}
use Rattle.cm_base.specs.declared.hash.Hash.{Hash}
use Rattle.cm_disk.specs.Disk.{File, Files, Only}
use Rattle.cm_log.specs.declared.position.LogReader.{LogReader}
use Rattle.cm_log.specs.declared.shelf.Shelf.{Shelf}
use Rattle.cm_log.specs.declared.shelf.Shelf.TheVariants.{Site}
use Rattle.cm_log.specs.Logs.{Entry, Closed, Reading, Shelved, Unread, Live, ended, following, shelved}
use Rattle.cm_log.specs.Settled.{reader_shelf, reader_place, reader_at, has_ended, rest_of, IsReading}
use Rattle.cm_log.specs.Shelves.{ready_place, log_place}
use Rattle.cm_notes.specs.declared.note.Note.{Note}
use Rattle.cm_notes.specs.declared.note.Note.TheVariants as note
use Rattle.cm_notes.specs.Reading.{read_note}
use Rattle.cm_register.specs.Look.{Opened, Register, Unreadable, Where, after_read, ended_or, look, look_at, records_from, register_from}
use Rattle.cm_register.specs.Records.{Records, no_records}
use Rattle.cm_register.specs.Texts.{AreTextsSure, is_of, names_among, names_text}
use Rattle.cm_textlib.specs.Places.{topology_place}
use Rattle.cm_records.specs.Opening.{AreTextsSureOr}
use Rattle.cm_records.proofs.Standing.{or_parts}

-- a fault stays
faulty : (files : Files) (place : List ℕ) (fault : Where) (entries : List Entry) → records_from files place (Err fault) entries ≡ Err fault
faulty files place fault [] = refl
faulty files place fault (entry ∷ entries) = faulty files place fault entries

-- a record that is wrong, or whose text is
pub refuses : (files : Files) (place : List ℕ) (kept : Records) (gate : ℕ) (body : List ℕ) (old rest : Reading) (fault : Where) → old ≡ following (record { gate = gate; body = body } ∷ []) rest
    → after_read files (place, gate) (read_note body) kept ≡ Err fault → register_from files place (Ok kept) old ≡ Unreadable fault.0 fault.1
refuses files place kept gate body old rest fault is step =
    ap (λ (r : Reading). register_from files place (Ok kept) r) is
    ∙ ap (λ (o : Result Records Where). ended_or place rest.ending (records_from files place o rest.entries)) step
    ∙ ap (λ (o : Result Records Where). ended_or place rest.ending o) (faulty files place fault rest.entries)

-- what comes of the whole log is what the files are
pub look_live : (files : Files) (first : LogReader) (register : Register) → shelved Site files ≡ Live (reader_place first) (rest_of files first)
    → register_from files (reader_place first) (Ok no_records) (rest_of files first) ≡ register → look files ≡ register
look_live files first register live is = ap (λ (x : Shelved). look_at files x) live ∙ is

pub look_unread : (files : Files) (place : List ℕ) (at : ℕ) → shelved Site files ≡ Unread place at → look files ≡ Unreadable place at
look_unread files place at is = ap (λ (x : Shelved). look_at files x) is

-- all records are taken
pub look_closed : (files : Files) (may_leave : List ℕ → File → Type 0) (first last : LogReader) (kept : Records)
    → shelved Site files ≡ Live (reader_place first) (rest_of files first)
    → register_from files (reader_place first) (Ok no_records) (rest_of files first) ≡ register_from files (reader_place first) (Ok kept) (rest_of files last)
    → IsReading files may_leave last → has_ended last ≡ true → look files ≡ Opened kept
look_closed files may_leave first last kept live makes reading done =
    look_live files first (Opened kept) live (makes ∙ ap (λ (r : Reading). register_from files (reader_place first) (Ok kept) r) (reading.at.ended done))

-- the texts of the records that were taken are sure, and of one more
pub texts_take : (files : Files) (old new : List ℕ → File → Type 0) (gate : ℕ) (body : List ℕ) (before rest : Reading)
    → ((q : List ℕ) (left : File) → new q left → old q left)
    → before ≡ following (record { gate = gate; body = body } ∷ []) rest
    → ((number : ℕ) → is_of number (read_note body) ≡ true → Only (files (topology_place number)) (new (topology_place number)))
    → AreTextsSureOr files old before → AreTextsSureOr files new rest
texts_take files old new gate body before rest stop is own sure = record {
  each = λ number named. elim (sure.each number named) [
    | inl here ↦ inl (λ left l. here left (stop (topology_place number) left l))
    | inr among ↦
        elim (or_parts (is_of number (read_note body)) (names_among number rest.entries) (subst (λ (r : Reading). names_among number r.entries ≡ true) is among)) [
          | inl last ↦ inl (own number last)
          | inr further ↦ inr further
        ]
  ];
}

-- none is taken yet
pub texts_none : (files : Files) (may_leave : List ℕ → File → Type 0) (first : LogReader) → shelved Site files ≡ Live (reader_place first) (rest_of files first) → AreTextsSureOr files may_leave (rest_of files first)
texts_none files may_leave first live = record { each = λ number named. inr (subst (λ (x : Shelved). names_text number x ≡ true) live named) }

-- all are
pub texts_all : (files : Files) (may_leave : List ℕ → File → Type 0) (last : LogReader) → rest_of files last ≡ ended (Closed (reader_at last)) → AreTextsSureOr files may_leave (rest_of files last) → AreTextsSure files may_leave
texts_all files may_leave last done sure = λ number named. by number (sure.each number named)
  where
    by : (number : ℕ) → Only (files (topology_place number)) (may_leave (topology_place number)) ⊎ (names_among number (rest_of files last).entries ≡ true) → Only (files (topology_place number)) (may_leave (topology_place number))
    by number (inl here) = here
    by number (inr among) = let none : names_among number [] ≡ true = subst (λ (r : Reading). names_among number r.entries ≡ true) done among in absurd (cc)

-- the text of a note that was read
pub texts_of : (files : Files) (may_leave : List ℕ → File → Type 0) (one : Option Note) (number size : ℕ) (hash : Hash) (minute : ℕ) → one ≡ Some (note.Topology number size hash minute)
    → Only (files (topology_place number)) (may_leave (topology_place number)) → (other : ℕ) → is_of other one ≡ true → Only (files (topology_place other)) (may_leave (topology_place other))
texts_of files may_leave one number size hash minute is here other of =
    let same : number ≡ other = eqb-true number other (ap (λ (o : Option Note). is_of other o) (sym is) ∙ of) in
    subst (λ (n : ℕ). Only (files (topology_place n)) (may_leave (topology_place n))) same here

-- a reader on a disk that leaves no more
pub reading_kept : (files : Files) (old new : List ℕ → File → Type 0) (reader : LogReader) → ((q : List ℕ) (left : File) → new q left → old q left) → IsReading files old reader → IsReading files new reader
reading_kept files old new reader stop r = record {
  at = r.at;
  rests = record {
    ready = λ left l. r.rests.ready left (stop (ready_place (reader_shelf reader)) left l);
    logs = λ side left l. r.rests.logs side left (stop (log_place (reader_shelf reader) side) left l);
  };
}
