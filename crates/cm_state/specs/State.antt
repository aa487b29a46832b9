-- The state of a library: its versions and unfinished jobs, each with its manifest.
use Rattle.std.specs.Prelude.{ℕ, ◌+◌, ◌==◌, not, if◌then◌else◌, List, [], ◌∷◌, length, map, filter, find, sum_by, Option, None, Some, option_map}
use Rattle.sha2.specs.Sha256.{sha256}
use Rattle.cm_pkglib.specs.declared.row.PkgRow.{PkgRow}
use Rattle.cm_pkglib.specs.Rows.{Rows, is_of, is_before, all_entries}
use Rattle.cm_tree.specs.declared.entry.Entry.{Entry}
use Rattle.cm_tree.specs.Manifests.{spelling}
use Rattle.cm_state.specs.declared.row.VersionRow.{VersionRow}
use Rattle.cm_state.specs.declared.row.JobRow.{JobRow}

-- a version, or what an unfinished job is to make: its row and its manifest
pub record Held : Type 0 where
  pub row : PkgRow
  pub manifest : List Entry

-- The versions rise by package and version, the unfinished jobs by number, the greatest versions opened by package.
pub record State : Type 0 where
  pub versions : List Held
  pub jobs : List (ℕ × Held)
  pub next : ℕ
  pub lasts : List (List ℕ × ℕ)

-- an empty library
abbrev pub empty : State
empty = record { versions = []; jobs = []; next = 1; lasts = [] }

-- the rows, without the manifests
abbrev pub rows_of : State → Rows
rows_of state = record {
  versions = map (λ (held : Held). held.row) state.versions;
  jobs = map (λ (job : ℕ × Held). (job.0, job.1.row)) state.jobs;
  next = state.next;
  lasts = state.lasts;
}

-- the bytes of the files of a manifest, together
abbrev pub bytes_of : List Entry → ℕ
bytes_of manifest = sum_by (λ (entry : Entry). entry.size) manifest

-- the row and the manifest of a version, whose manifest is stored in its one spelling
abbrev pub held_of : List ℕ → ℕ → List Entry → Held
held_of id version manifest = record {
  row = record { «package» = id; version = version; entries = length manifest; size = length (spelling manifest); hash = record { 0 = sha256 (spelling manifest) } };
  manifest = manifest;
}

-- one version more, at its place
abbrev pub with_held : Held → List Held → List Held
with_held held [] = held ∷ []
with_held held (first ∷ rest) = if is_before held.row first.row then held ∷ first ∷ rest else first ∷ with_held held rest

-- what an unfinished job is to make
abbrev pub held_by_job : ℕ → List (ℕ × Held) → Option Held
held_by_job job jobs = option_map (λ (u : ℕ × Held). u.1) (find (λ (u : ℕ × Held). u.0 == job) jobs)

-- the jobs without one
abbrev pub without_job : ℕ → List (ℕ × Held) → List (ℕ × Held)
without_job job jobs = filter (λ (u : ℕ × Held). not (u.0 == job)) jobs

-- the version of a finished job is there
abbrev pub with_done : Option Held → List Held → List Held
with_done None versions = versions
with_done (Some held) versions = with_held held versions

-- the versions without one
abbrev pub without_version : List ℕ → ℕ → List Held → List Held
without_version id version versions = filter (λ (held : Held). not (is_of id version held.row)) versions

-- the entries of all versions and unfinished jobs together, and how many versions and jobs there are
abbrev pub entries_in : State → ℕ
entries_in state = all_entries (rows_of state)

abbrev pub count_in : State → ℕ
count_in state = length state.versions + length state.jobs

-- the rows that a library tells
abbrev pub version_row : Held → VersionRow
version_row held = record { «package» = held.row.package; version = held.row.version; entries = held.row.entries; bytes = bytes_of held.manifest; hash = held.row.hash }

abbrev pub job_row : ℕ × Held → JobRow
job_row job = record { job = job.0; «package» = job.1.row.package; version = job.1.row.version; entries = job.1.row.entries; bytes = bytes_of job.1.manifest; hash = job.1.row.hash }

abbrev pub version_rows : State → List VersionRow
version_rows state = map version_row state.versions

abbrev pub job_rows : State → List JobRow
job_rows state = map job_row state.jobs
