-- No record names a topology of a number above the records' own.
use Rattle.std.proofs.Common.{◌≡◌, ℕ, ◌≤◌, Bool, true, false, List, [], ◌∷◌, refl, ◌∙◌, ap, sym, arith}
use Rattle.std.specs.Prelude.{◌||◌, max, Option, None, Some, option_map, ok_or, Result, Ok, Err}
use Rattle.std.proofs.lemmas.Bool.{eqb-true}
use Rattle.cm_base.specs.declared.hash.Hash.{Hash}
use Rattle.cm_disk.specs.Disk.{Files}
use Rattle.cm_log.specs.declared.shelf.Shelf.TheVariants.{Site}
use Rattle.cm_log.specs.Logs.{Entry, Ending, Closed, Broken, Shelved, NoLog, Unread, Live, shelved}
use Rattle.cm_notes.specs.declared.note.Note.{Note}
use Rattle.cm_notes.specs.declared.note.Note.TheVariants as note
use Rattle.cm_notes.specs.Reading.{read_note}
use Rattle.cm_textlib.specs.Places.{topology_place}
use Rattle.cm_topo.specs.declared.topology.Topology.{Topology}
use Rattle.cm_register.specs.AfterNote.{after_note}
use Rattle.cm_register.specs.Look.{Opened, Where, after_entry, after_read, ended_or, look, look_at, records_from, topology_named}
use Rattle.cm_register.specs.Records.{Records, no_records}
use Rattle.cm_register.specs.Texts.{is_of, names_among, names_text}
use Rattle.cm_register.proofs.GoesOn.{opened_ok, broken_not}
use Rattle.cm_register.proofs.Noted.{noted_topology, topology_number}

ok_same : (a b : Records) → (let o : Result Records Where = Ok a in o) ≡ Ok b → a ≡ b
ok_same a b is = cc

-- a record that is taken is of a topology, and its number counts from then on
record Counts (records then : Records) (one : Option Note) : Type 0 where
  grows : records.number ≤ then.number
  own : (number : ℕ) → is_of number one ≡ true → number ≤ then.number

topology_counts : (files : Files) (gate : Where) (number size : ℕ) (hash : Hash) (minute : ℕ) (records then : Records) (o : Option Topology)
    → ok_or (option_map (λ topology. after_note (note.Topology number size hash minute) (Some topology) records) o) gate ≡ Ok then
    → Counts records then (Some (note.Topology number size hash minute))
topology_counts files gate number size hash minute records then None is = absurd (cc)
topology_counts files gate number size hash minute records then (Some topology) is =
    let after : after_note (note.Topology number size hash minute) (Some topology) records ≡ then = cc in
    let greater : then.number ≡ max records.number number =
    ap (λ (r : Records). r.number) (sym after ∙ noted_topology number size hash minute topology records) ∙ topology_number number minute topology records in
    record { grows = omega arith; own = λ other same. let is : number ≡ other = eqb-true number other same in omega arith }

read_counts : (files : Files) (gate : Where) (one : Option Note) (records then : Records) → after_read files gate one records ≡ Ok then → Counts records then one
read_counts files gate None records then is = absurd (cc)
read_counts files gate (Some (note.Topology number size hash minute)) records then is =
    topology_counts files (topology_place number, 0) number size hash minute records then (topology_named size hash (files (topology_place number))) is
read_counts files gate (Some (note.Sent id version to minute)) records then is = absurd (cc)
read_counts files gate (Some (note.Installed point id version)) records then is = absurd (cc)
read_counts files gate (Some (note.Tried point id version due)) records then is = absurd (cc)
read_counts files gate (Some (note.Leaving point id version)) records then is = absurd (cc)
read_counts files gate (Some (note.Gone point id version)) records then is = absurd (cc)
read_counts files gate (Some (note.Deleted id version)) records then is = absurd (cc)
read_counts files gate (Some (note.PeerState name low load queue used)) records then is = absurd (cc)
read_counts files gate (Some (note.Cached name id version hash)) records then is = absurd (cc)

pub fault_stays : (files : Files) (place : List ℕ) (fault : Where) (entries : List Entry) → records_from files place (Err fault) entries ≡ Err fault
fault_stays files place fault [] = refl
fault_stays files place fault (entry ∷ entries) = fault_stays files place fault entries

-- each number that entries name is below that of the records that they make
record AllCount (records then : Records) (entries : List Entry) : Type 0 where
  grows : records.number ≤ then.number
  own : (number : ℕ) → names_among number entries ≡ true → number ≤ then.number

or_cases : {P : Type 0} (a b : Bool) → (a ≡ true → P) → (b ≡ true → P) → (a || b) ≡ true → P
or_cases true b left right is = left refl
or_cases false b left right is = right is

one_more : (files : Files) (place : List ℕ) (entry : Entry) (entries : List Entry) (records then : Records) (o : Result Records Where)
    → ((next : Records) → records_from files place (Ok next) entries ≡ Ok then → AllCount next then entries)
    → after_entry files place entry records ≡ o → records_from files place o entries ≡ Ok then → AllCount records then (entry ∷ entries)
one_more files place entry entries records then (Err fault) others takes is =
    let clash : (let o : Result Records Where = Err fault in o) ≡ Ok then = sym (fault_stays files place fault entries) ∙ is in absurd (cc)
one_more files place entry entries records then (Ok next) others takes is =
    let here = read_counts files (place, entry.gate) (read_note entry.body) records next takes in
    let rest = others next is in
    let up : next.number ≤ then.number = rest.grows in
    let grown : records.number ≤ next.number = here.grows in
    record {
      grows = omega arith;
      own = λ number named. or_cases (is_of number (read_note entry.body)) (names_among number entries) (λ own. let o : number ≤ next.number = here.own number own in omega arith) (rest.own number) named;
    }

all_count : (files : Files) (place : List ℕ) (entries : List Entry) (records then : Records) → records_from files place (Ok records) entries ≡ Ok then → AllCount records then entries
all_count files place [] records then is =
    let numbers : records.number ≡ then.number = ap (λ (r : Records). r.number) (ok_same records then is) in
    record { grows = omega arith; own = λ number named. absurd (cc) }
all_count files place (entry ∷ entries) records then is =
    one_more files place entry entries records then (after_entry files place entry records) (λ next. all_count files place entries next then) refl is

live_counts : (files : Files) (place : List ℕ) (entries : List Entry) (ending : Ending) (records : Records) (number : ℕ)
    → ended_or place ending (records_from files place (Ok no_records) entries) ≡ Opened records → names_among number entries ≡ true → number ≤ records.number
live_counts files place entries (Broken at) records number is named = absurd (broken_not place at (records_from files place (Ok no_records) entries) records is)
live_counts files place entries (Closed end) records number is named =
    (all_count files place entries no_records records (opened_ok place end (records_from files place (Ok no_records) entries) records is)).own number named

at_counts : (files : Files) (x : Shelved) (records : Records) (number : ℕ) → look_at files x ≡ Opened records → names_text number x ≡ true → number ≤ records.number
at_counts files NoLog records number is named = absurd (cc)
at_counts files (Unread place at) records number is named = absurd (cc)
at_counts files (Live place reading) records number is named = live_counts files place reading.entries reading.ending records number is named

-- no record names a topology of a number above the records' own
pub named_numbered : (files : Files) (records : Records) (number : ℕ) → look files ≡ Opened records → names_text number (shelved Site files) ≡ true → number ≤ records.number
named_numbered files records number is named = at_counts files (shelved Site files) records number is named
