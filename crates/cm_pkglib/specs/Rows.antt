-- The rows of a library, and what each change makes of them.
use Rattle.std.specs.Prelude.{ℕ, ◌+◌, ◌^◌, ◌-◌, ◌==◌, ◌&&◌, ◌||◌, nat_le, nat_lt, not, cond, if◌then◌else◌, Bool, true, false, List, [], ◌∷◌, ◌++◌, length, filter, find, sum_by, max, Option, None, Some, option_map, is_some}
use Rattle.std.specs.List.{list_any}
use Rattle.std.specs.Str.{bytes_eq}
use Rattle.std.specs.Ordering.{nat_cmp, is_lt, ordering_then}
use Rattle.std.specs.declared.cmp.Ordering.{Ordering}
use Rattle.std.specs.Cmp.Lexicographic.{slice_cmp}
use Rattle.cm_pkglib.specs.declared.change.Change.{Change}
use Rattle.cm_pkglib.specs.declared.change.Change.TheVariants.{Opened, Done, Dropped, Removed}
use Rattle.cm_pkglib.specs.declared.row.PkgRow.{PkgRow}
use Rattle.cm_pkglib.specs.declared.fault.RowFault.{RowFault}
use Rattle.cm_pkglib.specs.declared.fault.RowFault.TheVariants.{NoJob, NoVersion, VersionThere, JobThere, TooManyVersions, TooManyEntries, TooManyJobs, WrongJob}

-- The versions rise by package and version. The unfinished jobs, each with the version that it is to make, rise by number. `next`
-- is the next job's number. `lasts` has the greatest version ever opened of each package, and rises by package.
pub record Rows : Type 0 where
  pub versions : List PkgRow
  pub jobs : List (ℕ × PkgRow)
  pub next : ℕ
  pub lasts : List (List ℕ × ℕ)

-- the rows of an empty library
abbrev pub no_rows : Rows
no_rows = record { versions = []; jobs = []; next = 1; lasts = [] }

-- a row is that of this version
abbrev pub is_of : List ℕ → ℕ → PkgRow → Bool
is_of id version row = bytes_eq row.package id && row.version == version

abbrev pub has_version : List ℕ → ℕ → Rows → Bool
has_version id version rows = list_any (is_of id version) rows.versions

-- the row of a version
abbrev pub version_row : List ℕ → ℕ → List PkgRow → Option PkgRow
version_row id version rows = find (is_of id version) rows

-- the unfinished job of this version
abbrev pub job_with : List ℕ → ℕ → List (ℕ × PkgRow) → Option ℕ
job_with id version jobs = option_map (λ (u : ℕ × PkgRow). u.0) (find (λ (u : ℕ × PkgRow). is_of id version u.1) jobs)

-- the row of an unfinished job
abbrev pub row_of_job : ℕ → List (ℕ × PkgRow) → Option PkgRow
row_of_job job jobs = option_map (λ (u : ℕ × PkgRow). u.1) (find (λ (u : ℕ × PkgRow). u.0 == job) jobs)

-- a job is unfinished
abbrev pub is_unfinished : ℕ → List (ℕ × PkgRow) → Bool
is_unfinished job jobs = is_some (row_of_job job jobs)

-- the entries of all versions and unfinished jobs together
abbrev pub all_entries : Rows → ℕ
all_entries rows = sum_by (λ (r : PkgRow). r.entries) rows.versions + sum_by (λ (u : ℕ × PkgRow). u.1.entries) rows.jobs

-- how many versions and unfinished jobs there are
abbrev pub all_versions : Rows → ℕ
all_versions rows = length rows.versions + length rows.jobs

-- how a row stands to a version: by package, then by version
abbrev pub version_cmp : List ℕ → ℕ → PkgRow → Ordering
version_cmp id version row = ordering_then (slice_cmp nat_cmp row.package id) (nat_cmp row.version version)

-- a row stands before another
abbrev pub is_before : PkgRow → PkgRow → Bool
is_before a b = is_lt (version_cmp b.package b.version a)

-- one row more, at its place
abbrev pub with_row : PkgRow → List PkgRow → List PkgRow
with_row row [] = row ∷ []
with_row row (first ∷ rows) = if is_before row first then row ∷ first ∷ rows else first ∷ with_row row rows

-- the greatest version opened of a package
abbrev pub last_of : List ℕ → List (List ℕ × ℕ) → Option ℕ
last_of id lasts = option_map (λ (l : List ℕ × ℕ). l.1) (find (λ (l : List ℕ × ℕ). bytes_eq l.0 id) lasts)

-- a version of a package was opened
abbrev pub with_last : List ℕ → ℕ → List (List ℕ × ℕ) → List (List ℕ × ℕ)
with_last id version [] = (id, version) ∷ []
with_last id version (first ∷ lasts) =
    if bytes_eq first.0 id then (first.0, max first.1 version) ∷ lasts
    else (if is_lt (slice_cmp nat_cmp id first.0) then (id, version) ∷ first ∷ lasts
    else first ∷ with_last id version lasts)

-- a fault, where a test holds
abbrev pub when : Bool → RowFault → Option RowFault
when test fault = cond test (Some fault) None

-- the first of several faults that is there
abbrev pub first_of : List (Option RowFault) → Option RowFault
first_of [] = None
first_of (None ∷ faults) = first_of faults
first_of (Some fault ∷ faults) = Some fault

-- why the opening of a job is refused: the first cause that holds
abbrev pub opened_fault : Rows → ℕ → List ℕ → ℕ → ℕ → Option RowFault
opened_fault rows job id version entries = first_of (
    when (has_version id version rows) VersionThere ∷
    option_map JobThere (job_with id version rows.jobs) ∷
    when (nat_le 8192 (all_versions rows)) TooManyVersions ∷
    when (nat_lt 400000 (all_entries rows + entries)) TooManyEntries ∷
    when (nat_le 256 (length rows.jobs)) TooManyJobs ∷
    when (not (job == rows.next) || nat_le (2 ^ 64 - 1) job) WrongJob ∷ [])

-- why a change is refused: the first cause that holds
abbrev pub fault_of : Rows → Change → Option RowFault
fault_of rows (Opened job id version entries size hash) = opened_fault rows job id version entries
fault_of rows (Done job) = when (not (is_unfinished job rows.jobs)) NoJob
fault_of rows (Dropped job) = when (not (is_unfinished job rows.jobs)) NoJob
fault_of rows (Removed id version) = when (not (has_version id version rows)) NoVersion

-- the jobs without one, and the versions without one
abbrev pub without_job : ℕ → List (ℕ × PkgRow) → List (ℕ × PkgRow)
without_job job jobs = filter (λ (u : ℕ × PkgRow). not (u.0 == job)) jobs

abbrev pub without_version : List ℕ → ℕ → List PkgRow → List PkgRow
without_version id version rows = filter (λ (r : PkgRow). not (is_of id version r)) rows

-- the version of a finished job is there
abbrev pub with_done : Option PkgRow → List PkgRow → List PkgRow
with_done None rows = rows
with_done (Some row) rows = with_row row rows

-- a change opens a job
abbrev pub is_opened : Change → Bool
is_opened (Opened job id version entries size hash) = true
is_opened (Done job) = false
is_opened (Dropped job) = false
is_opened (Removed id version) = false

-- the rows after a change that is not refused
abbrev pub after : Change → Rows → Rows
after (Opened job id version entries size hash) rows = record {
  versions = rows.versions;
  jobs = rows.jobs ++ (job, record { «package» = id; version = version; entries = entries; size = size; hash = hash }) ∷ [];
  next = rows.next + 1;
  lasts = with_last id version rows.lasts;
}
after (Done job) rows = record { versions = with_done (row_of_job job rows.jobs) rows.versions; jobs = without_job job rows.jobs; next = rows.next; lasts = rows.lasts }
after (Dropped job) rows = record { versions = rows.versions; jobs = without_job job rows.jobs; next = rows.next; lasts = rows.lasts }
after (Removed id version) rows = record { versions = without_version id version rows.versions; jobs = rows.jobs; next = rows.next; lasts = rows.lasts }

-- the rows after a change, none where it is refused
abbrev pub step : Change → Rows → Option Rows
step change rows = cond (is_some (fault_of rows change)) None (Some (after change rows))

abbrev pub then_replay : List Change → Option Rows → Option Rows
then_replay [] rows = rows
then_replay (change ∷ changes) None = None
then_replay (change ∷ changes) (Some rows) = then_replay changes (step change rows)

-- the rows after several changes in their order, none where one is refused
abbrev pub replay : List Change → Rows → Option Rows
replay changes rows = then_replay changes (Some rows)
