-- A record more of a topology.
use Rattle.std.proofs.Common.{◌≡◌, ℕ, ◌+◌, true, List, [], ◌∷◌, ◌++◌, length, refl, ◌∙◌, ap}
use Rattle.std.specs.Prelude.{Option, Some, option_map, ok_or, Result, Ok, Err}
use Rattle.cm_base.specs.declared.hash.Hash.{Hash}
use Rattle.cm_disk.specs.Disk.{Files}
use Rattle.cm_log.specs.declared.shelf.Shelf.TheVariants.{Site}
use Rattle.cm_log.specs.Logs.{Entry, Ending, Closed, Broken, Shelved, NoLog, Unread, Live, added, extended, shelved}
use Rattle.cm_notes.specs.declared.note.Note.{Note}
use Rattle.cm_notes.specs.declared.note.Note.TheVariants as note
use Rattle.cm_notes.specs.Notes.{IsNote, spelled}
use Rattle.cm_notes.specs.Reading.{read_note}
use Rattle.cm_state.specs.Look.{and_then}
use Rattle.cm_textlib.specs.Places.{topology_place}
use Rattle.cm_topo.specs.declared.topology.Topology.{Topology}
use Rattle.cm_register.specs.AfterNote.{after_note}
use Rattle.cm_register.specs.Look.{Opened, Where, after_entry, after_read, ended_or, look, look_at, records_from, topology_named}
use Rattle.cm_register.specs.Records.{Records, no_records}
use Rattle.cm_register.specs.Texts.{AreSameTexts, names_among, names_text}
use Rattle.cm_register.proofs.Same.{records_same}
use Rattle.cm_register.proofs.TopologyRead.{topology_read}

-- the records after one entry more
pub records_more : (files : Files) (place : List ℕ) (records : Result Records Where) (entries : List Entry) (entry : Entry)
    → records_from files place records (entries ++ entry ∷ []) ≡ and_then (after_entry files place entry) (records_from files place records entries)
records_more files place records [] entry = refl
records_more files place records (x ∷ entries) entry = records_more files place (and_then (after_entry files place x) records) entries entry

-- what opens ended at a closed gate with no fault before it
pub opened_ok : (place : List ℕ) (end : ℕ) (o : Result Records Where) (records : Records) → ended_or place (Closed end) o ≡ Opened records → o ≡ Ok records
opened_ok place end (Err fault) records is = absurd (cc)
opened_ok place end (Ok r) records is = cc

pub broken_not : (place : List ℕ) (at : ℕ) (o : Result Records Where) (records : Records) → ended_or place (Broken at) o ≡ Opened records → ⊥
broken_not place at (Err fault) records is = cc
broken_not place at (Ok r) records is = cc

-- an entry of a topology that is at its place
pub entry_taken : (files : Files) (place : List ℕ) (gate : ℕ) (body : List ℕ) (records : Records) (number size : ℕ) (hash : Hash) (minute : ℕ) (topology : Topology)
    → read_note body ≡ Some (note.Topology number size hash minute) → topology_named size hash (files (topology_place number)) ≡ Some topology
    → after_entry files place (record { gate = gate; body = body }) records ≡ Ok (after_note (note.Topology number size hash minute) (Some topology) records)
entry_taken files place gate body records number size hash minute topology reads names =
    ap (λ (o : Option Note). after_read files (place, gate) o records) reads
    ∙ ap (λ (o : Option Topology). ok_or (option_map (λ topology. after_note (note.Topology number size hash minute) (Some topology) records) o) (topology_place number, 0)) names

live_goes_on : (files now : Files) (place : List ℕ) (entries : List Entry) (ending : Ending) (records then : Records) (body : List ℕ)
    → ended_or place ending (records_from files place (Ok no_records) entries) ≡ Opened records
    → ((number : ℕ) → names_among number entries ≡ true → now (topology_place number) ≡ files (topology_place number))
    → ((gate : ℕ) → after_entry now place (record { gate = gate; body = body }) records ≡ Ok then)
    → look_at now (Live place (extended body entries ending)) ≡ Opened then
live_goes_on files now place entries (Broken at) records then body is alike takes = absurd (broken_not place at (records_from files place (Ok no_records) entries) records is)
live_goes_on files now place entries (Closed end) records then body is alike takes =
    ap (λ (o : Result Records Where). ended_or place (Closed (end + 5 + length body)) o) (
    records_more now place (Ok no_records) entries (record { gate = end; body = body })
    ∙ ap (λ (o : Result Records Where). and_then (after_entry now place (record { gate = end; body = body })) o)
    (records_same files now place (Ok no_records) entries alike ∙ opened_ok place end (records_from files place (Ok no_records) entries) records is)
    ∙ takes end)

at_goes_on : (files now : Files) (x : Shelved) (records then : Records) (body : List ℕ)
    → look_at files x ≡ Opened records
    → ((number : ℕ) → names_text number x ≡ true → now (topology_place number) ≡ files (topology_place number))
    → ((place : List ℕ) (gate : ℕ) → after_entry now place (record { gate = gate; body = body }) records ≡ Ok then)
    → look_at now (added body x) ≡ Opened then
at_goes_on files now NoLog records then body is alike takes = absurd (cc)
at_goes_on files now (Unread place at) records then body is alike takes = absurd (cc)
at_goes_on files now (Live place reading) records then body is alike takes = live_goes_on files now place reading.entries reading.ending records then body is alike (takes place)

-- a record more, of a topology whose text stands at its place
pub look_goes_on : (files now : Files) (records : Records) (number size : ℕ) (hash : Hash) (minute : ℕ) (topology : Topology)
    → look files ≡ Opened records
    → IsNote (note.Topology number size hash minute)
    → shelved Site now ≡ added (spelled (note.Topology number size hash minute)) (shelved Site files)
    → AreSameTexts files now
    → topology_named size hash (now (topology_place number)) ≡ Some topology
    → look now ≡ Opened (after_note (note.Topology number size hash minute) (Some topology) records)
look_goes_on files now records number size hash minute topology is form log alike names =
    ap (λ (x : Shelved). look_at now x) log
    ∙ at_goes_on files now (shelved Site files) records (after_note (note.Topology number size hash minute) (Some topology) records) (spelled (note.Topology number size hash minute)) is alike
    (λ place gate. entry_taken now place gate (spelled (note.Topology number size hash minute)) records number size hash minute topology (topology_read number size hash minute form) names)
