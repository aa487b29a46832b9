-- What files are as records when their log or their texts change.
use Rattle.std.specs.Prelude.{◌≡◌, ℕ, ◌≤◌, true, Some}
use Rattle.cm_base.specs.declared.hash.Hash.{Hash}
use Rattle.cm_disk.specs.Disk.{Files}
use Rattle.cm_log.specs.declared.shelf.Shelf.TheVariants.{Site}
use Rattle.cm_log.specs.Logs.{shelved, added, fresh}
use Rattle.cm_notes.specs.declared.note.Note.TheVariants as note
use Rattle.cm_notes.specs.Notes.{IsNote, spelled}
use Rattle.cm_textlib.specs.Places.{topology_place}
use Rattle.cm_topo.specs.declared.topology.Topology.{Topology}
use Rattle.cm_register.specs.AfterNote.{after_note}
use Rattle.cm_register.specs.Look.{Opened, look, topology_named}
use Rattle.cm_register.specs.Records.{Records, no_records}
use Rattle.cm_register.specs.Texts.{AreSameTexts, names_text}

-- Files are the same records as others that have the same log and the same texts that it names.
abbrev pub LooksSame : Type 0
LooksSame = (files other : Files) → shelved Site other ≡ shelved Site files → AreSameTexts files other → look other ≡ look files

-- A record more, of a topology whose text stands at its place, makes of records what it says.
abbrev pub LookGoesOn : Type 0
LookGoesOn = (files now : Files) (records : Records) (number size : ℕ) (hash : Hash) (minute : ℕ) (topology : Topology)
    → look files ≡ Opened records
    → IsNote (note.Topology number size hash minute)
    → shelved Site now ≡ added (spelled (note.Topology number size hash minute)) (shelved Site files)
    → AreSameTexts files now
    → topology_named size hash (now (topology_place number)) ≡ Some topology
    → look now ≡ Opened (after_note (note.Topology number size hash minute) (Some topology) records)

-- No record names a topology of a number above the records' own.
abbrev pub NamedAreNumbered : Type 0
NamedAreNumbered = (files : Files) (records : Records) (number : ℕ) → look files ≡ Opened records → names_text number (shelved Site files) ≡ true → number ≤ records.number

-- A new log has no records.
abbrev pub NewIsEmpty : Type 0
NewIsEmpty = (files : Files) → shelved Site files ≡ fresh Site → look files ≡ Opened no_records
