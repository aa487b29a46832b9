-- What a bay holds: a library, or the records; and what a change makes of it.
use Rattle.std.specs.Prelude.{◌≡◌, ◌⊎◌, ℕ, true, if◌then◌else◌, Bool, List, [], ◌∷◌, length, fold, take, codes, Option, None, Some}
use Rattle.std.specs.Option.{ForSome}
use Rattle.std.specs.Str.{bytes_eq}
use Rattle.cm_disk.specs.Disk.{File, Files, IsImage}
use Rattle.cm_register.specs.Look.{Register, Missing as NoRecords, Opened as OpenedRecords, Unreadable as UnreadableRecords, look as look_records, gate_in as gate_of_records}
use Rattle.cm_register.specs.Opens.{Noted, noted}
use Rattle.cm_register.specs.Records.{no_records}
use Rattle.cm_state.specs.Changes.{StateChange, changed}
use Rattle.cm_state.specs.Look.{Library, Missing, Opened, Unreadable, look, gate_in}
use Rattle.cm_state.specs.Opens.{Opens, EachOpensSome}
use Rattle.cm_state.specs.State.{empty}

-- the bay of the site's own library, and that of the records
abbrev pub site : List ℕ
site = codes "site"

abbrev pub records_bay : List ℕ
records_bay = codes "records"

abbrev pub is_records : List ℕ → Bool
is_records name = bytes_eq name records_bay

pub data Content : Type 0 where
  OfLibrary : Library → Content
  OfRecords : Register → Content

-- what files are in a bay of that name, and the place of the closed gate of its log
abbrev pub content_in : List ℕ → Files → Content
content_in name files = if is_records name then OfRecords (look_records files) else OfLibrary (look files)

abbrev pub gate_of : List ℕ → Files → ℕ
gate_of name files = if is_records name then gate_of_records files else gate_in files

-- A change: an empty library or new records are made; a library changes; a record is written, with its topology where it is one of a
-- topology.
pub data Change : Type 0 where
  Made : Change
  InLibrary : StateChange → Change
  InRecords : Noted → Change

abbrev pub library_after : Change → Library → Library
library_after Made library = Opened empty
library_after (InLibrary change) Missing = Missing
library_after (InLibrary change) (Opened state) = Opened (changed change state)
library_after (InLibrary change) (Unreadable place at) = Unreadable place at
library_after (InRecords one) library = library

abbrev pub records_after : Change → Register → Register
records_after Made register = OpenedRecords no_records
records_after (InLibrary change) register = register
records_after (InRecords one) NoRecords = NoRecords
records_after (InRecords one) (OpenedRecords records) = OpenedRecords (noted one records)
records_after (InRecords one) (UnreadableRecords place at) = UnreadableRecords place at

abbrev pub content_after : Change → Content → Content
content_after change (OfLibrary library) = OfLibrary (library_after change library)
content_after change (OfRecords register) = OfRecords (records_after change register)

-- what it holds after changes in their order
abbrev pub after_all : List Change → Content → Content
after_all [] content = content
after_all (change ∷ changes) content = after_all changes (content_after change content)

-- files read as a content, and open to it: to a library's state with each file of its versions
abbrev pub ReadsAs : Content → Files → Type 0
ReadsAs (OfLibrary library) files = look files ≡ library
ReadsAs (OfRecords register) files = look_records files ≡ register

abbrev pub OpensToLibrary : Library → Files → Type 0
OpensToLibrary Missing files = look files ≡ Missing
OpensToLibrary (Opened state) files = Opens files state
OpensToLibrary (Unreadable place at) files = look files ≡ Unreadable place at

abbrev pub OpensTo : Content → Files → Type 0
OpensTo (OfLibrary library) files = OpensToLibrary library files
OpensTo (OfRecords register) files = look_records files ≡ register

-- The premise on a bay whose library is open at the entry: each image of its disk is no library, or opens to some state. Of other bays
-- nothing is asked.
abbrev pub IsGood : Content → (List ℕ → File → Type 0) → Type 0
IsGood (OfLibrary Missing) may_leave = Unit {0}
IsGood (OfLibrary (Opened state)) may_leave = EachOpensSome may_leave
IsGood (OfLibrary (Unreadable place at)) may_leave = Unit {0}
IsGood (OfRecords register) may_leave = Unit {0}
