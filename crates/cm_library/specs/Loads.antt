-- Stored manifests, kept in a map.
use Rattle.std.specs.Prelude.{◌≡◌, ℕ, List, Some, Ok}
use Rattle.std.specs.List.{AllByRecursion}
use Rattle.std.specs.BTreeMap.{BTreeMap}
use Rattle.cm_disk.specs.Disk.{File, Files, Only}
use Rattle.cm_pkglib.specs.declared.row.PkgRow.{PkgRow}
use Rattle.cm_pkglib.specs.Rows.{Rows}
use Rattle.cm_tree.specs.declared.entry.Entry.{Entry}
use Rattle.cm_datalib.specs.Places.{manifest_place}
use Rattle.cm_state.specs.Look.{held, loaded}
use Rattle.cm_contents.specs.Contents.{held_with, state_with, manifest_in_map}

abbrev pub Map : Type 0
Map = BTreeMap (List ℕ × ℕ) (List Entry)

-- the map has the stored manifest of a row
abbrev pub IsKept : Files → Map → PkgRow → Type 0
IsKept files m row = held files row ≡ Some (held_with (manifest_in_map m) row)

-- a crash preserves what reads give at the place of a row's manifest
abbrev pub IsDurable : Files → (List ℕ → File → Type 0) → PkgRow → Type 0
IsDurable files may_leave row = Only (files (manifest_place row.package row.version)) (may_leave (manifest_place row.package row.version))

-- what the map has stays so
abbrev pub StaysKept : Files → Map → Map → Type 0
StaysKept files old new = (row : PkgRow) → IsKept files old row → IsKept files new row

-- the stored manifest of a row is added, and is durable
pub record Takes (files : Files) (may_leave : List ℕ → File → Type 0) (row : PkgRow) (old new : Map) : Type 0 where
  pub kept : IsKept files new row
  pub durable : IsDurable files may_leave row
  pub stays : StaysKept files old new

-- those of several rows are
pub record TakesAll (files : Files) (may_leave : List ℕ → File → Type 0) (rows : List PkgRow) (old new : Map) : Type 0 where
  pub kept : AllByRecursion (IsKept files new) rows
  pub durable : AllByRecursion (IsDurable files may_leave) rows
  pub stays : StaysKept files old new

pub record TakesJobs (files : Files) (may_leave : List ℕ → File → Type 0) (jobs : List (ℕ × PkgRow)) (old new : Map) : Type 0 where
  pub kept : AllByRecursion (λ (job : ℕ × PkgRow). IsKept files new job.1) jobs
  pub durable : AllByRecursion (λ (job : ℕ × PkgRow). IsDurable files may_leave job.1) jobs
  pub stays : StaysKept files old new

-- the manifests of all rows, which are durable
pub record Loads (files : Files) (may_leave : List ℕ → File → Type 0) (rows : Rows) (m : Map) : Type 0 where
  pub state : loaded files rows ≡ Ok (state_with (manifest_in_map m) rows)
  pub kept_versions : AllByRecursion (IsKept files m) rows.versions
  pub kept_jobs : AllByRecursion (λ (job : ℕ × PkgRow). IsKept files m job.1) rows.jobs
  pub versions : AllByRecursion (IsDurable files may_leave) rows.versions
  pub jobs : AllByRecursion (λ (job : ℕ × PkgRow). IsDurable files may_leave job.1) rows.jobs
