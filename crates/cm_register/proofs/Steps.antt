-- One record after another, of a log that is read.
use Rattle.std.proofs.Common.{◌≡◌, ℕ, List, [], ◌∷◌, ◌∙◌, ap}
use Rattle.std.specs.Prelude.{Result, Ok, Err}
use Rattle.cm_disk.specs.Disk.{Files}
use Rattle.cm_log.specs.Logs.{Closed, Broken, Entry, Reading, ended, following}
use Rattle.cm_register.specs.Look.{Opened, Unreadable, Where, after_entry, ended_or, records_from, register_from}
use Rattle.cm_register.specs.Records.{Records}
use Rattle.cm_register.proofs.Numbered.{fault_stays}

-- with a record in front that is taken it goes on behind it
pub takes : (files : Files) (place : List ℕ) (records next : Records) (entry : Entry) (old rest : Reading) → old ≡ following (entry ∷ []) rest → after_entry files place entry records ≡ Ok next
    → register_from files place (Ok records) old ≡ register_from files place (Ok next) rest
takes files place records next entry old rest is step =
    ap (λ (r : Reading). register_from files place (Ok records) r) is
    ∙ ap (λ (o : Result Records Where). ended_or place rest.ending (records_from files place o rest.entries)) step

-- with one in front that is not taken it is unreadable where that one says
pub refuses : (files : Files) (place : List ℕ) (records : Records) (entry : Entry) (fault : Where) (old rest : Reading) → old ≡ following (entry ∷ []) rest → after_entry files place entry records ≡ Err fault
    → register_from files place (Ok records) old ≡ Unreadable fault.0 fault.1
refuses files place records entry fault old rest is step =
    ap (λ (r : Reading). register_from files place (Ok records) r) is
    ∙ ap (λ (o : Result Records Where). ended_or place rest.ending (records_from files place o rest.entries)) step
    ∙ ap (λ (o : Result Records Where). ended_or place rest.ending o) (fault_stays files place fault rest.entries)

-- where the file ends in the middle it is unreadable
pub breaks : (files : Files) (place : List ℕ) (records : Records) (at : ℕ) (old : Reading) → old ≡ ended (Broken at) → register_from files place (Ok records) old ≡ Unreadable place at
breaks files place records at old is = ap (λ (r : Reading). register_from files place (Ok records) r) is

-- at the closed gate it opens
pub opens : (files : Files) (place : List ℕ) (records : Records) (end : ℕ) (old : Reading) → old ≡ ended (Closed end) → register_from files place (Ok records) old ≡ Opened records
opens files place records end old is = ap (λ (r : Reading). register_from files place (Ok records) r) is
