-- What contracts see of the records of a site on their disk.
use Rattle.std.specs.Prelude.{◌≡◌, ◌⊎◌, ℕ, ◌+◌, List, length, Option, None, Some}
use Rattle.sha2.specs.Sha256.{sha256}
use Rattle.cm_disk.specs.Disk.{Files}
use Rattle.cm_notes.specs.declared.note.Note.{Note}
use Rattle.cm_notes.specs.declared.note.Note.TheVariants as note
use Rattle.cm_notes.specs.Notes.{spelled}
use Rattle.cm_register.specs.Look.{Opened, look, gate_in}
use Rattle.cm_register.specs.Opens.{Noted, noted}
use Rattle.cm_register.specs.Records.{Records}
use Rattle.cm_topo.specs.declared.topology.Topology.{Topology}

-- The disk, now and at the opening; the records as last settled; the place of their log's closed gate; and the record of a call that the
-- disk failed, of which nobody knows yet whether it was committed.
pub record Seen (D : Type 0) : Type 0 where
  pub disk : D
  pub start : D
  pub kept : Records
  pub end : ℕ
  pub pending : Option Noted

-- the record of the next topology, with that text
abbrev pub topology_note : List ℕ → ℕ → Records → Note
topology_note text minute kept = note.Topology (kept.number + 1) (length text) (record { 0 = sha256 text }) minute

abbrev pub next_topology : List ℕ → Topology → ℕ → Records → Noted
next_topology text topology minute kept = (topology_note text minute kept, Some topology)

-- the files are these records, and their log ends there
pub record Reads (files : Files) (kept : Records) (end : ℕ) : Type 0 where
  pub look : look files ≡ Opened kept
  pub gate : gate_in files ≡ end

-- the records and the end of the log with a record more
pub record HasNoted (one : Noted) (kept : Records) (end : ℕ) (then : Records) (gate : ℕ) : Type 0 where
  pub makes : then ≡ noted one kept
  pub ends : gate ≡ end + 5 + length (spelled one.0)

-- the same, or they are as they were
abbrev pub MayHave : Option Noted → Records → ℕ → Records → ℕ → Type 0
MayHave None kept end then gate = (then ≡ kept) × (gate ≡ end)
MayHave (Some one) kept end then gate = ((then ≡ kept) × (gate ≡ end)) ⊎ HasNoted one kept end then gate
