-- Which files are no records, and which are new ones.
use Rattle.std.proofs.Common.{◌≡◌, ◌≢◌, ℕ, Bool, true, false, List, IsSome, refl, ◌∙◌, ap}
use Rattle.std.specs.Prelude.{None, Some, Result, Ok, Err}
use Rattle.cm_disk.specs.Disk.{File, Files}
use Rattle.cm_log.specs.declared.shelf.Shelf.TheVariants.{Site}
use Rattle.cm_log.specs.declared.head.Choice.{Choice}
use Rattle.cm_log.specs.declared.head.Choice.TheVariants.{Chosen, Refused}
use Rattle.cm_log.specs.Shelves.{log_place, ready_place}
use Rattle.cm_log.specs.Logs.{Ending, Closed, Broken, NoLog, fresh, rest_at, shelved, shelved_by, told_by}
use Rattle.cm_register.specs.Look.{Missing, Opened, Register, Unreadable, Where, ended_or, look, look_at, records_from}
use Rattle.cm_register.specs.Records.{Records, no_records}

abbrev is_missing : Register → Bool
is_missing Missing = true
is_missing (Opened records) = false
is_missing (Unreadable place at) = false

ended_there : (place : List ℕ) (ending : Ending) (o : Result Records Where) → is_missing (ended_or place ending o) ≡ false
ended_there place ending (Err fault) = refl
ended_there place (Closed end) (Ok records) = refl
ended_there place (Broken at) (Ok records) = refl

told_there : (files : Files) (found : Choice) → is_missing (look_at files (told_by found Site files)) ≡ false
told_there files (Chosen side) =
    let place = log_place Site side in
    let reading = rest_at files place 10 in
    ended_there place reading.ending (records_from files place (Ok no_records) reading.entries)
told_there files (Refused side at) = refl

shelved_there : (files : Files) (ready : File) → IsSome ready → is_missing (look_at files (shelved_by ready Site files)) ≡ false
shelved_there files None there = absurd (cc)
shelved_there files (Some bytes) there = told_there files _

clash : (register : Register) → is_missing register ≡ false → register ≢ Missing
clash register is same = absurd (let t : is_missing register ≡ true = ap is_missing same in cc (t, is))

-- where `ready` is there, files are no missing records
pub not_missing : (files : Files) → IsSome (files (ready_place Site)) → look files ≢ Missing
not_missing files there = clash (look files) (shelved_there files (files (ready_place Site)) there)

-- where there is no log, there are no records
pub missing : (files : Files) → shelved Site files ≡ NoLog → look files ≡ Missing
missing files none = ap (look_at files) none

fresh_empty : (files : Files) → look_at files (fresh Site) ≡ Opened no_records
fresh_empty files = refl

-- a new log has no records
pub new_is_empty : (files : Files) → shelved Site files ≡ fresh Site → look files ≡ Opened no_records
new_is_empty files made = ap (look_at files) made ∙ fresh_empty files
