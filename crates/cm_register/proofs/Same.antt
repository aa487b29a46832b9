-- Files with the same texts make the same of a log's records.
use Rattle.std.proofs.Common.{◌≡◌, ℕ, Bool, true, false, List, [], ◌∷◌, refl, ◌∙◌, ap}
use Rattle.std.specs.Prelude.{◌||◌, Option, None, Some, option_map, ok_or, Result, Ok, Err}
use Rattle.std.proofs.lemmas.Bool.{eq-eqb}
use Rattle.cm_disk.specs.Disk.{File, Files}
use Rattle.cm_log.specs.declared.shelf.Shelf.TheVariants.{Site}
use Rattle.cm_log.specs.Logs.{Entry, Shelved, NoLog, Unread, Live, shelved}
use Rattle.cm_notes.specs.declared.note.Note.{Note}
use Rattle.cm_notes.specs.declared.note.Note.TheVariants as note
use Rattle.cm_notes.specs.Reading.{read_note}
use Rattle.cm_state.specs.Look.{and_then}
use Rattle.cm_textlib.specs.Places.{topology_place}
use Rattle.cm_register.specs.AfterNote.{after_note}
use Rattle.cm_register.specs.Look.{Where, after_entry, after_read, ended_or, look, look_at, records_from, topology_named}
use Rattle.cm_register.specs.Records.{Records, no_records}
use Rattle.cm_register.specs.Texts.{AreSameTexts, is_of, names_among, names_text}

-- the texts that these name are the same in other files
abbrev AreAlike : (ℕ → Bool) → Files → Files → Type 0
AreAlike names files other = (number : ℕ) → names number ≡ true → other (topology_place number) ≡ files (topology_place number)

or_left : (a b : Bool) → a ≡ true → (a || b) ≡ true
or_left true b is = refl
or_left false b is = absurd (cc)

or_right : (a b : Bool) → b ≡ true → (a || b) ≡ true
or_right true b is = refl
or_right false b is = is

read_same : (files other : Files) (gate : Where) (one : Option Note) (records : Records) → AreAlike (λ number. is_of number one) files other
    → after_read other gate one records ≡ after_read files gate one records
read_same files other gate None records alike = refl
read_same files other gate (Some (note.Topology number size hash minute)) records alike =
    ap (λ (file : File). ok_or (option_map (λ topology. after_note (note.Topology number size hash minute) (Some topology) records) (topology_named size hash file)) (topology_place number, 0))
    (alike number (eq-eqb number number refl))
read_same files other gate (Some (note.Sent id version to minute)) records alike = refl
read_same files other gate (Some (note.Installed point id version)) records alike = refl
read_same files other gate (Some (note.Tried point id version due)) records alike = refl
read_same files other gate (Some (note.Leaving point id version)) records alike = refl
read_same files other gate (Some (note.Gone point id version)) records alike = refl
read_same files other gate (Some (note.Deleted id version)) records alike = refl
read_same files other gate (Some (note.PeerState name low load queue used)) records alike = refl
read_same files other gate (Some (note.Cached name id version hash)) records alike = refl

then_same : (files other : Files) (place : List ℕ) (entry : Entry) (records : Result Records Where) → AreAlike (λ number. is_of number (read_note entry.body)) files other
    → and_then (after_entry other place entry) records ≡ and_then (after_entry files place entry) records
then_same files other place entry (Err fault) alike = refl
then_same files other place entry (Ok records) alike = read_same files other (place, entry.gate) (read_note entry.body) records alike

-- the records of the same entries are the same
pub records_same : (files other : Files) (place : List ℕ) (records : Result Records Where) (entries : List Entry) → AreAlike (λ number. names_among number entries) files other
    → records_from other place records entries ≡ records_from files place records entries
records_same files other place records [] alike = refl
records_same files other place records (entry ∷ entries) alike =
    ap (λ (o : Result Records Where). records_from other place o entries) (then_same files other place entry records (λ number is. alike number (or_left _ _ is)))
    ∙ records_same files other place (and_then (after_entry files place entry) records) entries (λ number is. alike number (or_right _ _ is))

at_same : (files other : Files) (x : Shelved) → AreAlike (λ number. names_text number x) files other → look_at other x ≡ look_at files x
at_same files other NoLog alike = refl
at_same files other (Unread place at) alike = refl
at_same files other (Live place reading) alike =
    ap (λ (o : Result Records Where). ended_or place reading.ending o) (records_same files other place (Ok no_records) reading.entries alike)

-- files with the same log and the same texts are the same records
pub looks_same : (files other : Files) → shelved Site other ≡ shelved Site files → AreSameTexts files other → look other ≡ look files
looks_same files other log alike = ap (λ (x : Shelved). look_at other x) log ∙ at_same files other (shelved Site files) alike
