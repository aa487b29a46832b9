-- What files are as the records of a site, as a function: none, some, or unreadable at a place.
use Rattle.std.specs.Prelude.{ℕ, List, [], ◌∷◌, Option, None, Some, option_map, ok_or, Result, Ok, Err}
use Rattle.std.specs.Option.{option_and_then}
use Rattle.cm_base.specs.declared.hash.Hash.{Hash}
use Rattle.cm_disk.specs.Disk.{File, Files}
use Rattle.cm_log.specs.declared.shelf.Shelf.TheVariants.{Site}
use Rattle.cm_log.specs.Logs.{Entry, Ending, Closed, Broken, Reading, Shelved, NoLog, Unread, Live, shelved}
use Rattle.cm_notes.specs.declared.note.Note.{Note}
use Rattle.cm_notes.specs.declared.note.Note.TheVariants as note
use Rattle.cm_notes.specs.Reading.{read_note}
use Rattle.cm_state.specs.Look.{and_then, gate_at}
use Rattle.cm_textlib.specs.Places.{topology_place, text_in}
use Rattle.cm_topo.specs.declared.topology.Topology.{Topology}
use Rattle.cm_topo.specs.declared.fault.TopoFault.{TopoFault}
use Rattle.cm_topo.specs.Outcomes.{topology_in}
use Rattle.cm_register.specs.AfterNote.{after_note}
use Rattle.cm_register.specs.Records.{Records, no_records}

pub data Register : Type 0 where
  Missing : Register
  Opened : Records → Register
  Unreadable : List ℕ → ℕ → Register

-- the topology that is said, if one is
abbrev pub said : Result Topology TopoFault → Option Topology
said (Ok topology) = Some topology
said (Err fault) = None

-- the topology that a file says, where it has this size and this SHA-256
abbrev pub topology_named : ℕ → Hash → File → Option Topology
topology_named size hash file = option_and_then (λ text. said (topology_in text)) (text_in size hash file)

-- a place and a byte there
abbrev pub Where : Type 0
Where = List ℕ × ℕ

-- The records after a note whose gate stands there, or where they are unreadable: the text of a topology at 0. Notes of the other kinds
-- are not written yet, so none is read.
abbrev pub after_record : Files → Where → Note → Records → Result Records Where
after_record files gate (note.Topology number size hash minute) records = ok_or
    (option_map (λ topology. after_note (note.Topology number size hash minute) (Some topology) records) (topology_named size hash (files (topology_place number))))
    (topology_place number, 0)
after_record files gate (note.Sent id version to minute) records = Err gate
after_record files gate (note.Installed point id version) records = Err gate
after_record files gate (note.Tried point id version due) records = Err gate
after_record files gate (note.Leaving point id version) records = Err gate
after_record files gate (note.Gone point id version) records = Err gate
after_record files gate (note.Deleted id version) records = Err gate
after_record files gate (note.PeerState name low load queue used) records = Err gate
after_record files gate (note.Cached name id version hash) records = Err gate

-- a body off the grammar is unreadable at its gate
abbrev pub after_read : Files → Where → Option Note → Records → Result Records Where
after_read files gate None records = Err gate
after_read files gate (Some note) records = after_record files gate note records

abbrev pub after_entry : Files → List ℕ → Entry → Records → Result Records Where
after_entry files place entry records = after_read files (place, entry.gate) (read_note entry.body) records

-- the records after several entries of the log at a place, or the first fault among them
abbrev pub records_from : Files → List ℕ → Result Records Where → List Entry → Result Records Where
records_from files place records [] = records
records_from files place records (entry ∷ entries) = records_from files place (and_then (after_entry files place entry) records) entries

-- the records where the log's entries end
abbrev pub ended_with : List ℕ → Ending → Records → Register
ended_with place (Closed end) records = Opened records
ended_with place (Broken at) records = Unreadable place at

-- a fault among the entries comes before the end
abbrev pub ended_or : List ℕ → Ending → Result Records Where → Register
ended_or place ending (Err fault) = Unreadable fault.0 fault.1
ended_or place ending (Ok records) = ended_with place ending records

-- what further entries of the log at a place make of records
abbrev pub register_from : Files → List ℕ → Result Records Where → Reading → Register
register_from files place records reading = ended_or place reading.ending (records_from files place records reading.entries)

abbrev pub look_at : Files → Shelved → Register
look_at files NoLog = Missing
look_at files (Unread place at) = Unreadable place at
look_at files (Live place reading) = register_from files place (Ok no_records) reading

-- what these files are as records
abbrev pub look : Files → Register
look files = look_at files (shelved Site files)

-- the place of the closed gate of the records' log
abbrev pub gate_in : Files → ℕ
gate_in files = gate_at (shelved Site files)
