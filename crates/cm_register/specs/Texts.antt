-- The texts that the records of a log name.
use Rattle.std.specs.Prelude.{◌≡◌, ℕ, ◌==◌, Bool, true, false, List, Option, None, Some}
use Rattle.std.specs.List.{list_any}
use Rattle.cm_disk.specs.Disk.{File, Files, Only}
use Rattle.cm_log.specs.declared.shelf.Shelf.TheVariants.{Site}
use Rattle.cm_log.specs.Logs.{Entry, Shelved, NoLog, Unread, Live, shelved}
use Rattle.cm_notes.specs.declared.note.Note.{Note}
use Rattle.cm_notes.specs.declared.note.Note.TheVariants as note
use Rattle.cm_notes.specs.Reading.{read_note}
use Rattle.cm_textlib.specs.Places.{topology_place}

-- a note is of the topology of that number
abbrev pub is_of : ℕ → Option Note → Bool
is_of number None = false
is_of number (Some (note.Topology other size hash minute)) = other == number
is_of number (Some (note.Sent id version to minute)) = false
is_of number (Some (note.Installed point id version)) = false
is_of number (Some (note.Tried point id version due)) = false
is_of number (Some (note.Leaving point id version)) = false
is_of number (Some (note.Gone point id version)) = false
is_of number (Some (note.Deleted id version)) = false
is_of number (Some (note.PeerState name low load queue used)) = false
is_of number (Some (note.Cached name id version hash)) = false

abbrev pub names_among : ℕ → List Entry → Bool
names_among number entries = list_any (λ (entry : Entry). is_of number (read_note entry.body)) entries

-- a record of a log names the topology of that number
abbrev pub names_text : ℕ → Shelved → Bool
names_text number NoLog = false
names_text number (Unread place at) = false
names_text number (Live place reading) = names_among number reading.entries

-- the texts that the log of these files names are the same in other files
abbrev pub AreSameTexts : Files → Files → Type 0
AreSameTexts files other = (number : ℕ) → names_text number (shelved Site files) ≡ true → other (topology_place number) ≡ files (topology_place number)

-- a crash preserves them
abbrev pub AreTextsSure : Files → (List ℕ → File → Type 0) → Type 0
AreTextsSure files may_leave = (number : ℕ) → names_text number (shelved Site files) ≡ true → Only (files (topology_place number)) (may_leave (topology_place number))
