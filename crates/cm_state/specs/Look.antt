-- What files are, as a function: no library, one in a state, or unreadable at a place.
use Rattle.std.specs.Prelude.{ℕ, ◌+◌, ◌-◌, ◌*◌, ◌^◌, ◌==◌, ◌&&◌, nat_le, Bool, true, false, cond, List, [], ◌∷◌, length, Option, None, Some, option_map, ok_or, Result, Ok, Err}
use Rattle.std.specs.Option.{option_and_then}
use Rattle.std.specs.Str.{bytes_eq}
use Rattle.sha2.specs.Sha256.{sha256}
use Rattle.cm_disk.specs.Disk.{Files}
use Rattle.cm_log.specs.declared.shelf.Shelf.TheVariants.{PkgLib}
use Rattle.cm_log.specs.Logs.{Entry as Record, Ending, Closed, Broken, Reading, Shelved, NoLog, Unread, Live, shelved}
use Rattle.cm_pkglib.specs.declared.row.PkgRow.{PkgRow}
use Rattle.cm_pkglib.specs.Changes.{read_change}
use Rattle.cm_pkglib.specs.Rows.{Rows, no_rows, step}
use Rattle.cm_tree.specs.declared.entry.Entry.{Entry}
use Rattle.cm_tree.specs.declared.tree_fault.TreeFault.{TreeFault}
use Rattle.cm_tree.specs.Reading.{read_manifest}
use Rattle.cm_datalib.specs.Places.{manifest_place}
use Rattle.cm_state.specs.State.{Held, State}

pub data Library : Type 0 where
  Missing : Library
  Opened : State → Library
  Unreadable : List ℕ → ℕ → Library

-- the rows after a record with this body, none where it is off the grammar or the rows refuse its change
abbrev pub rows_after_body : List ℕ → Rows → Option Rows
rows_after_body body rows = option_and_then (λ change. step change rows) (read_change body)

-- the rows after a record, or the place of its gate where it is refused
abbrev pub rows_after : Record → Rows → Result Rows ℕ
rows_after entry rows = ok_or (rows_after_body entry.body rows) entry.gate

-- what follows from a value, or the error
abbrev pub and_then : {A B E : Type 0} → (A → Result B E) → Result A E → Result B E
and_then f (Ok x) = f x
and_then f (Err e) = Err e

-- the rows after several records in their order, or the place of the gate of the first that is refused
abbrev pub rows_from : Result Rows ℕ → List Record → Result Rows ℕ
rows_from rows [] = rows
rows_from rows (entry ∷ entries) = rows_from (and_then (rows_after entry) rows) entries

-- the closed gate leaves the room that each version's end and each job's end may want
abbrev pub has_room : ℕ → Rows → Bool
has_room end rows = nat_le (end + 18 * length rows.versions + 36 * length rows.jobs) (2 ^ 40 - 1)

-- the manifest in these bytes, if they have the row's size and hash, and it has the row's number of entries
abbrev pub counted : PkgRow → Result (List Entry) TreeFault → Option (List Entry)
counted row (Ok manifest) = cond (length manifest == row.entries) (Some manifest) None
counted row (Err fault) = None

abbrev pub manifest_in : PkgRow → List ℕ → Option (List Entry)
manifest_in row bytes = cond (length bytes == row.size && bytes_eq (sha256 bytes) row.hash.0) (counted row (read_manifest bytes)) None

-- the stored manifest of a row, with its row
abbrev pub held : Files → PkgRow → Option Held
held files row = option_map (λ manifest. record { row = row; manifest = manifest }) (option_and_then (manifest_in row) (files (manifest_place row.package row.version)))

-- the same, or the place of the manifest that is absent or not what its row says
abbrev pub held_or_place : Files → PkgRow → Result Held (List ℕ)
held_or_place files row = ok_or (held files row) (manifest_place row.package row.version)

-- all of a list, or the place of the first that is wrong
abbrev pub both : {A : Type 0} → Result A (List ℕ) → Result (List A) (List ℕ) → Result (List A) (List ℕ)
both (Err place) rest = Err place
both (Ok one) (Err place) = Err place
both (Ok one) (Ok rest) = Ok (one ∷ rest)

-- the number of a job with what it holds
abbrev pub of_job : ℕ → Result Held (List ℕ) → Result (ℕ × Held) (List ℕ)
of_job job (Ok found) = Ok (job, found)
of_job job (Err place) = Err place

abbrev pub all_held : Files → List PkgRow → Result (List Held) (List ℕ)
all_held files [] = Ok []
all_held files (row ∷ rows) = both (held_or_place files row) (all_held files rows)

abbrev pub all_jobs : Files → List (ℕ × PkgRow) → Result (List (ℕ × Held)) (List ℕ)
all_jobs files [] = Ok []
all_jobs files (job ∷ jobs) = both (of_job job.0 (held_or_place files job.1)) (all_jobs files jobs)

-- versions are looked at before jobs
abbrev pub state_of : Rows → Result (List Held) (List ℕ) → Result (List (ℕ × Held)) (List ℕ) → Result State (List ℕ)
state_of rows (Err place) jobs = Err place
state_of rows (Ok versions) (Err place) = Err place
state_of rows (Ok versions) (Ok jobs) = Ok (record { versions = versions; jobs = jobs; next = rows.next; lasts = rows.lasts })

-- the state of these rows with their stored manifests, or the place of the first manifest that is wrong
abbrev pub loaded : Files → Rows → Result State (List ℕ)
loaded files rows = state_of rows (all_held files rows.versions) (all_jobs files rows.jobs)

abbrev pub opened_or : Result State (List ℕ) → Library
opened_or (Ok state) = Opened state
opened_or (Err place) = Unreadable place 0

-- at a closed gate there: unreadable at it, where it leaves no room
abbrev pub closed_with : Bool → List ℕ → ℕ → Result State (List ℕ) → Library
closed_with true place end found = opened_or found
closed_with false place end found = Unreadable place end

-- the library of these rows where their records end
abbrev pub ended_with : Files → List ℕ → Ending → Rows → Library
ended_with files place (Closed end) rows = closed_with (has_room end rows) place end (loaded files rows)
ended_with files place (Broken at) rows = Unreadable place at

-- a record that is refused comes before the end
abbrev pub ended_or : Files → List ℕ → Ending → Result Rows ℕ → Library
ended_or files place ending (Err gate) = Unreadable place gate
ended_or files place ending (Ok rows) = ended_with files place ending rows

-- the library that further records of the log at a place make of rows
abbrev pub library_from : Files → List ℕ → Result Rows ℕ → Reading → Library
library_from files place rows reading = ended_or files place reading.ending (rows_from rows reading.entries)

abbrev pub look_at : Files → Shelved → Library
look_at files NoLog = Missing
look_at files (Unread place at) = Unreadable place at
look_at files (Live place reading) = library_from files place (Ok no_rows) reading

-- what these files are
abbrev pub look : Files → Library
look files = look_at files (shelved PkgLib files)

-- where the records end at a closed gate, its place
abbrev pub closed_at : Ending → ℕ
closed_at (Closed end) = end
closed_at (Broken at) = 0

abbrev pub gate_at : Shelved → ℕ
gate_at NoLog = 0
gate_at (Unread place at) = 0
gate_at (Live place reading) = closed_at reading.ending

-- the place of the closed gate of a library's log
abbrev pub gate_in : Files → ℕ
gate_in files = gate_at (shelved PkgLib files)
