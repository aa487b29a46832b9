-- What the type of the records keeps.
use Rattle.std.specs.Prelude.{◌≡◌, ℕ, ◌+◌, true, false, List, length, Option, None, Some, option_map}
use Rattle.std.specs.Option.{ForSome}
use Rattle.cm_disk.specs.Disk.{File, Files, Only}
use Rattle.cm_log.specs.declared.shelf.Shelf.TheVariants.{Site}
use Rattle.cm_log.specs.declared.state.Log.{Log}
use Rattle.cm_log.specs.Logs.{shelved}
use Rattle.cm_log.specs.Settled.{shelf_of, end_of, end_with_of, is_settled, IsSettled, IsUnsettled}
use Rattle.cm_notes.specs.declared.note.Note.{Note}
use Rattle.cm_notes.specs.declared.note.Note.TheVariants as note
use Rattle.cm_notes.specs.Notes.{IsNote, spelled}
use Rattle.cm_register.specs.Look.{Opened, look, topology_named}
use Rattle.cm_register.specs.Opens.{Noted}
use Rattle.cm_register.specs.Records.{Records}
use Rattle.cm_register.specs.Texts.{AreTextsSure}
use Rattle.cm_textlib.specs.Places.{topology_place}
use Rattle.cm_records.specs.declared.pending.Pending.{Pending}

-- the record that is to be added, with its topology
abbrev pub note_in : Pending → Note
note_in one = note.Topology one.number one.size one.hash one.minute

abbrev pub noted_in : Pending → Noted
noted_in one = (note_in one, Some one.topology)

abbrev pub pending_in : Option Pending → Option Noted
pending_in pending = option_map noted_in pending

-- whatever a crash leaves, the text of the topology is stored
pub record BringsText (may_leave : List ℕ → File → Type 0) (one : Pending) : Type 0 where
  pub text : List ℕ
  pub sure : Only (Some text) (may_leave (topology_place one.number))
  pub named : topology_named one.size one.hash (Some text) ≡ Some one.topology

-- What reads give are these records. Their log and the texts that it names are durable.
pub record StandsIn (files : Files) (may_leave : List ℕ → File → Type 0) (log : Log) (kept : Records) : Type 0 where
  pub stands : look files ≡ Opened kept
  pub settled : IsSettled files may_leave log
  pub texts : AreTextsSure files may_leave

-- The append of a record has failed: files were these records, and the log has the record or not. The texts that it may name are durable.
pub record StandsUnsettled (files : Files) (may_leave : List ℕ → File → Type 0) (log : Log) (kept : Records) (one : Pending) : Type 0 where
  pub before : Files
  pub was : look before ≡ Opened kept
  pub either : IsUnsettled files may_leave log (shelved Site before) (spelled (note_in one))
  pub texts : AreTextsSure before may_leave
  pub brings : BringsText may_leave one

abbrev pub StandsAs : Files → (List ℕ → File → Type 0) → Log → Records → Option Pending → Type 0
StandsAs files may_leave log kept None = StandsIn files may_leave log kept
StandsAs files may_leave log kept (Some one) = StandsUnsettled files may_leave log kept one

-- an unsettled log ends behind the pending record if that is there
pub record IsPendingAt (log : Log) (one : Pending) : Type 0 where
  pub unsettled : is_settled log ≡ false
  pub end_with : end_with_of log ≡ end_of log + 5 + length (spelled (note_in one))
  pub form : IsNote (note_in one)

abbrev pub IsIdleOr : Log → Option Pending → Type 0
IsIdleOr log None = is_settled log ≡ true
IsIdleOr log (Some one) = IsPendingAt log one

-- The records stand on their disk: whatever it tells, and where it tells what reads give.
pub record IsRecords {D : Type 0} (reads : D → Option Files) (may_leave : D → List ℕ → File → Type 0) (disk : D) (log : Log) (kept : Records) (pending : Option Pending) : Type 0 where
  pub shelf : shelf_of log ≡ Site
  pub idle_or : IsIdleOr log pending
  pub stands : ForSome (reads disk) (λ files. StandsAs files (may_leave disk) log kept pending)
