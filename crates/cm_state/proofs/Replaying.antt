-- What files are, by the records of their log.
use Rattle.std.proofs.Common.{◌≡◌, ℕ, ◌+◌, Bool, true, false, List, [], ◌∷◌, ◌++◌, length, refl, sym, ◌∙◌, ap, subst}
use Rattle.std.specs.Prelude.{Option, None, Some, is_some, ok_or, cond, Result, Ok, Err}
use Rattle.std.specs.Option.{option_and_then}
use Rattle.std.specs.List.{AllByRecursion}
use Rattle.cm_disk.specs.Disk.{Files}
use Rattle.cm_log.specs.declared.shelf.Shelf.TheVariants.{PkgLib}
use Rattle.cm_log.specs.declared.shelf.Side.{Side}
use Rattle.cm_log.specs.Shelves.{ready_place, log_place}
use Rattle.cm_log.specs.Logs.{Entry as Record, Ending, Closed, Broken, Shelved, NoLog, Unread, Live, closed, shelved, added}
use Rattle.cm_log.proofs.Shelveds.{alike}
use Rattle.cm_pkglib.specs.declared.change.Change.{Change}
use Rattle.cm_pkglib.specs.declared.row.PkgRow.{PkgRow}
use Rattle.cm_pkglib.specs.declared.fault.RowFault.{RowFault}
use Rattle.cm_pkglib.specs.Changes.{read_change}
use Rattle.cm_pkglib.specs.Rows.{Rows, no_rows, fault_of, after, step}
use Rattle.cm_datalib.specs.Places.{manifest_place}
use Rattle.cm_state.specs.State.{Held, State, rows_of}
use Rattle.cm_state.specs.Look.{Opened, rows_after, and_then, rows_from, has_room, held_or_place, both, of_job, all_held, all_jobs, state_of, loaded, opened_or, closed_with, ended_or, look_at, look}
use Rattle.cm_state.proofs.Loaded.{HasHeld, HasJob, loaded_is, loaded_state, same_manifest}

-- once a record is refused its gate is the answer
pub rows_refused : (gate : ℕ) (entries : List Record) → rows_from (Err gate) entries ≡ Err gate
rows_refused gate [] = refl
rows_refused gate (e ∷ entries) = rows_refused gate entries

-- the rows after one record more
pub rows_more : (rows : Result Rows ℕ) (entries : List Record) (e : Record) → rows_from rows (entries ++ e ∷ []) ≡ and_then (rows_after e) (rows_from rows entries)
rows_more rows [] e = refl
rows_more rows (x ∷ entries) e = rows_more (and_then (rows_after x) rows) entries e

pub opened_ok : (o : Result State (List ℕ)) (s : State) → opened_or o ≡ Opened s → o ≡ Ok s
opened_ok (Err place) s is = absurd (cc)
opened_ok (Ok x) s is = cc

closed_ok : (b : Bool) (place : List ℕ) (end : ℕ) (o : Result State (List ℕ)) (s : State) → closed_with b place end o ≡ Opened s → (b ≡ true) × (o ≡ Ok s)
closed_ok true place end o s is = (refl, opened_ok o s is)
closed_ok false place end o s is = absurd (cc)

pub ended_some : (files : Files) (place : List ℕ) (end : ℕ) (o : Result Rows ℕ) (s : State) → ended_or files place (Closed end) o ≡ Opened s → (rows : Rows) × (o ≡ Ok rows) × (has_room end rows ≡ true) × (loaded files rows ≡ Ok s)
ended_some files place end (Err gate) s is = absurd (cc)
ended_some files place end (Ok rows) s is =
    let c = closed_ok (has_room end rows) place end (loaded files rows) s is in
    (rows, refl, c.0, c.1)

pub not_broken : (files : Files) (place : List ℕ) (at : ℕ) (o : Result Rows ℕ) (s : State) → ended_or files place (Broken at) o ≡ Opened s → ⊥
not_broken files place at (Err gate) s is = cc
not_broken files place at (Ok rows) s is = cc

pub then_some : {A B : Type 0} (o : Option A) (g : A → Option B) (s : B) → option_and_then g o ≡ Some s → (r : A) × (o ≡ Some r) × (g r ≡ Some s)
then_some None g s is = absurd (cc)
then_some (Some r) g s is = (r, refl, is)

pub cond_some : {A : Type 0} (b : Bool) (o : Option A) (s : A) → cond b o None ≡ Some s → (b ≡ true) × (o ≡ Some s)
cond_some true o s is = (refl, is)
cond_some false o s is = absurd (cc)

-- what an opened library stands on
pub record Grounds (files : Files) (entries : List Record) (end : ℕ) (s : State) : Type 0 where
  pub rows : rows_from (Ok no_rows) entries ≡ Ok (rows_of s)
  pub room : has_room end (rows_of s) ≡ true
  pub versions : AllByRecursion (HasHeld files) s.versions
  pub jobs : AllByRecursion (HasJob files) s.jobs

pub grounds_of : (files : Files) (place : List ℕ) (entries : List Record) (end : ℕ) (s : State) → shelved PkgLib files ≡ Live place (closed entries end) → look files ≡ Opened s → Grounds files entries end s
grounds_of files place entries end s live opened =
    let t = ended_some files place end (rows_from (Ok no_rows) entries) s (sym (ap (λ (x : Shelved). look_at files x) live) ∙ opened) in
    let l = loaded_is files t.0 s t.3 in
    record {
      rows = t.1 ∙ ap (λ (r : Rows). let o : Result Rows ℕ = Ok r in o) l.rows_are;
      room = subst (λ (r : Rows). has_room end r ≡ true) l.rows_are t.2;
      versions = l.versions;
      jobs = l.jobs;
    }

pub opened_by : (files : Files) (place : List ℕ) (entries : List Record) (end : ℕ) (s : State) → shelved PkgLib files ≡ Live place (closed entries end) → Grounds files entries end s → look files ≡ Opened s
opened_by files place entries end s live g =
    ap (λ (x : Shelved). look_at files x) live
    ∙ ap (λ (o : Result Rows ℕ). ended_or files place (Closed end) o) g.rows
    ∙ ap (λ (b : Bool). closed_with b place end (loaded files (rows_of s))) g.room
    ∙ ap opened_or (loaded_state files s g.versions g.jobs)

-- the rows after a record of a change that they do not refuse
rows_step : (rows : Rows) (e : Record) (change : Change) → read_change e.body ≡ Some change → fault_of rows change ≡ None → rows_after e rows ≡ Ok (after change rows)
rows_step rows e change reads free =
    ap (λ (o : Option Change). ok_or (option_and_then (λ change. step change rows) o) e.gate) reads
    ∙ ap (λ (o : Option RowFault). ok_or (cond (is_some o) None (Some (after change rows))) e.gate) free

-- a library with one record more
pub record_more : (now : Files) (place : List ℕ) (entries : List Record) (end : ℕ) (before after_state : State) (body : List ℕ) (change : Change)
    → shelved PkgLib now ≡ added body (Live place (closed entries end))
    → rows_from (Ok no_rows) entries ≡ Ok (rows_of before)
    → read_change body ≡ Some change → fault_of (rows_of before) change ≡ None
    → rows_of after_state ≡ after change (rows_of before)
    → has_room (end + 5 + length body) (rows_of after_state) ≡ true
    → AllByRecursion (HasHeld now) after_state.versions → AllByRecursion (HasJob now) after_state.jobs
    → look now ≡ Opened after_state
record_more now place entries end before after_state body change live rows reads free are room versions jobs =
    opened_by now place (entries ++ record { gate = end; body = body } ∷ []) (end + 5 + length body) after_state live
    (record {
      rows = rows_more (Ok no_rows) entries (record { gate = end; body = body })
          ∙ ap (λ (o : Result Rows ℕ). and_then (rows_after (record { gate = end; body = body })) o) rows
          ∙ rows_step (rows_of before) (record { gate = end; body = body }) change reads free
          ∙ ap (λ (r : Rows). let o : Result Rows ℕ = Ok r in o) (sym are);
      room = room;
      versions = versions;
      jobs = jobs;
    })

-- files that agree at the log's three places and at each manifest's are one library
abbrev SameManifests : Files → Files → Type 0
SameManifests files now = (id : List ℕ) (version : ℕ) → now (manifest_place id version) ≡ files (manifest_place id version)

place_same : (files now : Files) → SameManifests files now → (row : PkgRow) → held_or_place now row ≡ held_or_place files row
place_same files now same row = ap (λ (o : Option Held). ok_or o (manifest_place row.package row.version)) (same_manifest files now row (same row.package row.version))

all_same : (files now : Files) → SameManifests files now → (rows : List PkgRow) → all_held now rows ≡ all_held files rows
all_same files now same [] = refl
all_same files now same (row ∷ rows) =
    ap (λ (o : Result Held (List ℕ)). both o (all_held now rows)) (place_same files now same row)
    ∙ ap (λ (o : Result (List Held) (List ℕ)). both (held_or_place files row) o) (all_same files now same rows)

jobs_same : (files now : Files) → SameManifests files now → (jobs : List (ℕ × PkgRow)) → all_jobs now jobs ≡ all_jobs files jobs
jobs_same files now same [] = refl
jobs_same files now same (job ∷ jobs) =
    ap (λ (o : Result Held (List ℕ)). both (of_job job.0 o) (all_jobs now jobs)) (place_same files now same job.1)
    ∙ ap (λ (o : Result (List (ℕ × Held)) (List ℕ)). both (of_job job.0 (held_or_place files job.1)) o) (jobs_same files now same jobs)

loaded_same : (files now : Files) → SameManifests files now → (rows : Rows) → loaded now rows ≡ loaded files rows
loaded_same files now same rows =
    ap (λ (o : Result (List Held) (List ℕ)). state_of rows o (all_jobs now rows.jobs)) (all_same files now same rows.versions)
    ∙ ap (λ (o : Result (List (ℕ × Held)) (List ℕ)). state_of rows (all_held files rows.versions) o) (jobs_same files now same rows.jobs)

ended_same : (files now : Files) → SameManifests files now → (place : List ℕ) (ending : Ending) (o : Result Rows ℕ) → ended_or now place ending o ≡ ended_or files place ending o
ended_same files now same place ending (Err gate) = refl
ended_same files now same place (Broken at) (Ok rows) = refl
ended_same files now same place (Closed end) (Ok rows) = ap (λ (l : Result State (List ℕ)). closed_with (has_room end rows) place end l) (loaded_same files now same rows)

pub look_same : (files now : Files) → now (ready_place PkgLib) ≡ files (ready_place PkgLib) → ((side : Side) → now (log_place PkgLib side) ≡ files (log_place PkgLib side))
    → ((id : List ℕ) (version : ℕ) → now (manifest_place id version) ≡ files (manifest_place id version)) → look now ≡ look files
look_same files now ready logs same = ap (λ (x : Shelved). look_at now x) (alike PkgLib files now ready logs) ∙ by (shelved PkgLib files)
  where
    by : (x : Shelved) → look_at now x ≡ look_at files x
    by NoLog = refl
    by (Unread place at) = refl
    by (Live place reading) = ended_same files now same place reading.ending (rows_from (Ok no_rows) reading.entries)
