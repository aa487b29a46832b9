-- What holds of each state that records make.
use Rattle.std.specs.Prelude.{◌≡◌, ℕ, ◌<◌, ◌≤◌, ◌^◌, List, length, Some}
use Rattle.std.specs.List.{AllByRecursion}
use Rattle.cm_pkglib.specs.declared.row.PkgRow.{PkgRow}
use Rattle.cm_pkglib.specs.declared.change.Change.{Change}
use Rattle.cm_pkglib.specs.declared.change.Change.TheVariants.{Opened, Done, Dropped, Removed}
use Rattle.cm_pkglib.specs.Rows.{Rows, last_of}
use Rattle.cm_state.specs.State.{State, rows_of}

-- the package has a greatest version, which is at least that of the row
abbrev pub IsCovered : List (List ℕ × ℕ) → PkgRow → Type 0
IsCovered lasts row = (last : ℕ) × (last_of row.package lasts ≡ Some last) × (row.version ≤ last)

-- the unfinished jobs are below the next number, and each row's version is at most the greatest one of its package
pub record AreSound (rows : Rows) : Type 0 where
  pub below : AllByRecursion (λ (job : ℕ × PkgRow). job.0 < rows.next) rows.jobs
  pub versions_covered : AllByRecursion (IsCovered rows.lasts) rows.versions
  pub jobs_covered : AllByRecursion (λ (job : ℕ × PkgRow). IsCovered rows.lasts job.1) rows.jobs

abbrev pub IsSound : State → Type 0
IsSound state = AreSound (rows_of state)

-- a row names a version as its types do: a package of eight bytes, and a number of four
abbrev pub IsNamed : PkgRow → Type 0
IsNamed row = (length row.package ≡ 8) × (row.version < 2 ^ 32)

pub record AreNamed (rows : Rows) : Type 0 where
  pub versions : AllByRecursion IsNamed rows.versions
  pub jobs : AllByRecursion (λ (job : ℕ × PkgRow). IsNamed job.1) rows.jobs

pub record AreFit (rows : Rows) : Type 0 where
  pub sound : AreSound rows
  pub named : AreNamed rows

-- a change opens only what can be named
abbrev pub NamesVersion : Change → Type 0
NamesVersion (Opened job id version entries size hash) = (length id ≡ 8) × (version < 2 ^ 32)
NamesVersion (Done job) = Unit {0}
NamesVersion (Dropped job) = Unit {0}
NamesVersion (Removed id version) = Unit {0}
