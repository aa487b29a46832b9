-- To which records files open, and what each image of a disk opens to.
use Rattle.std.specs.Prelude.{◌≡◌, ◌⊎◌, ℕ, List, Option, None, Some}
use Rattle.std.specs.Option.{ForSome}
use Rattle.cm_disk.specs.Disk.{File, Files, IsImage}
use Rattle.cm_notes.specs.declared.note.Note.{Note}
use Rattle.cm_topo.specs.declared.topology.Topology.{Topology}
use Rattle.cm_register.specs.AfterNote.{after_note}
use Rattle.cm_register.specs.Look.{Register, Missing, Opened, look}
use Rattle.cm_register.specs.Records.{Records, no_records}

-- a record of the log, with its topology where it is one of a topology
abbrev pub Noted : Type 0
Noted = Note × Option Topology

-- the records after it
abbrev pub noted : Noted → Records → Records
noted one records = after_note one.0 one.1 records

-- the records after a record, or after none
abbrev pub after_noted : Option Noted → Records → Records
after_noted None records = records
after_noted (Some one) records = noted one records

-- these files open to the records before a record or after it; where there is none, to the records
abbrev pub OpensOr : Records → Option Noted → Files → Type 0
OpensOr records one files = (look files ≡ Opened records) ⊎ (look files ≡ Opened (after_noted one records))

-- whatever a crash leaves opens to these records
abbrev pub EachOpens : (List ℕ → File → Type 0) → Records → Type 0
EachOpens may_leave records = (image : Files) → IsImage may_leave image → look image ≡ Opened records

-- the disk reads as these records, or as none, or is unreadable
abbrev pub IsRegister : Option Files → Register → Type 0
IsRegister reads register = ForSome reads (λ files. look files ≡ register)

-- the disk read as some files, and now it reads as this
abbrev pub Becomes : Option Files → Option Files → Register → Type 0
Becomes old new register = ForSome old (λ files. (now : Files) × (new ≡ Some now) × (look now ≡ register))

-- there were no records, and now there are new ones
abbrev pub Makes : Option Files → Option Files → Type 0
Makes old new = IsRegister old Missing × Becomes old new (Opened no_records)

-- a crash leaves new records
abbrev pub IsMade : Files → Type 0
IsMade left = look left ≡ Opened no_records

-- A crash while records are made leaves what it might have left before; or, only if there were none, none or new ones.
abbrev pub IsMadeOrNot : Files → (List ℕ → File → Type 0) → Files → Type 0
IsMadeOrNot files may_leave left = IsImage may_leave left ⊎ ((look files ≡ Missing) × ((look left ≡ Missing) ⊎ IsMade left))

-- The making failed: the disk reads as before; or, only if there were no records, as none or as new ones.
abbrev pub MakesOrNot : Option Files → Option Files → Type 0
MakesOrNot old new = ForSome old (λ files. (now : Files) × (new ≡ Some now) × ((new ≡ old) ⊎ ((look files ≡ Missing) × ((look now ≡ Missing) ⊎ IsMade now))))
