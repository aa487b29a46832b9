-- Which files are no library, and which are an empty one.
use Rattle.std.proofs.Common.{◌≡◌, ◌≢◌, ℕ, Bool, true, false, List, None, Some, IsSome, refl, ◌∙◌, ap}
use Rattle.cm_disk.specs.Disk.{File, Files}
use Rattle.cm_log.specs.declared.shelf.Shelf.TheVariants.{PkgLib}
use Rattle.cm_log.specs.declared.head.Choice.{Choice}
use Rattle.cm_log.specs.declared.head.Choice.TheVariants.{Chosen, Refused}
use Rattle.cm_log.specs.Shelves.{ready_place, log_place}
use Rattle.cm_log.specs.Logs.{Ending, Closed, Broken, NoLog, rest_at, shelved, shelved_by, told_by, fresh}
use Rattle.std.specs.Prelude.{Result, Ok, Err}
use Rattle.cm_pkglib.specs.Rows.{Rows, no_rows}
use Rattle.cm_state.specs.State.{State, empty}
use Rattle.cm_state.specs.Look.{Library, Missing, Opened, Unreadable, look, look_at, opened_or, closed_with, ended_or, rows_from, has_room, loaded}

abbrev is_missing : Library → Bool
is_missing Missing = true
is_missing (Opened state) = false
is_missing (Unreadable place at) = false

opened_there : (state : Result State (List ℕ)) → is_missing (opened_or state) ≡ false
opened_there (Ok state) = refl
opened_there (Err place) = refl

closed_there : (room : Bool) (place : List ℕ) (end : ℕ) (state : Result State (List ℕ)) → is_missing (closed_with room place end state) ≡ false
closed_there true place end state = opened_there state
closed_there false place end state = refl

ended_there : (files : Files) (place : List ℕ) (ending : Ending) (rows : Result Rows ℕ) → is_missing (ended_or files place ending rows) ≡ false
ended_there files place ending (Err gate) = refl
ended_there files place (Closed end) (Ok rows) = closed_there (has_room end rows) place end (loaded files rows)
ended_there files place (Broken at) (Ok rows) = refl

told_there : (files : Files) (made : Choice) → is_missing (look_at files (told_by made PkgLib files)) ≡ false
told_there files (Chosen side) =
    let place = log_place PkgLib side in
    let reading = rest_at files place 10 in
    ended_there files place reading.ending (rows_from (Ok no_rows) reading.entries)
told_there files (Refused side at) = refl

shelved_there : (files : Files) (ready : File) → IsSome ready → is_missing (look_at files (shelved_by ready PkgLib files)) ≡ false
shelved_there files None there = absurd (cc)
shelved_there files (Some bytes) there = told_there files _

clash : (library : Library) → is_missing library ≡ false → library ≢ Missing
clash library is same = absurd (let t : is_missing library ≡ true = ap is_missing same in cc (t, is))

-- where `ready` is there, files are no missing library
pub not_missing : (files : Files) → IsSome (files (ready_place PkgLib)) → look files ≢ Missing
not_missing files there = clash (look files) (shelved_there files (files (ready_place PkgLib)) there)

-- where there is no log, there is no library
pub missing : (files : Files) → shelved PkgLib files ≡ NoLog → look files ≡ Missing
missing files none = ap (look_at files) none

fresh_empty : (files : Files) → look_at files (fresh PkgLib) ≡ Opened empty
fresh_empty files = refl

-- a new log is an empty library
pub opens_empty : (files : Files) → shelved PkgLib files ≡ fresh PkgLib → look files ≡ Opened empty
opens_empty files made = ap (look_at files) made ∙ fresh_empty files
