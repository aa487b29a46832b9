-- Which rows a library can have.
use Rattle.std.specs.Prelude.{◌≡◌, ℕ, ◌<◌, ◌≤◌, ◌^◌, false, List, ◌++◌, length, map, Some}
use Rattle.std.specs.List.{AllByRecursion}
use Rattle.std.specs.Ordering.{nat_cmp}
use Rattle.std.specs.Cmp.Lexicographic.{slice_cmp}
use Rattle.std.specs.declared.cmp.Ordering.TheVariants.{Less}
use Rattle.cm_pkglib.specs.declared.row.PkgRow.{PkgRow}
use Rattle.cm_pkglib.specs.Places.{EachPair}
use Rattle.cm_pkglib.specs.Rows.{Rows, is_of, version_cmp, last_of, all_entries, all_versions}

-- two rows are of different versions
abbrev pub Differ : PkgRow → PkgRow → Type 0
Differ a b = is_of a.package a.version b ≡ false

-- the rows of the unfinished jobs, and then those of the versions
abbrev pub all_rows : Rows → List PkgRow
all_rows rows = map (λ (u : ℕ × PkgRow). u.1) rows.jobs ++ rows.versions

-- the rows of versions rise by package and version, none twice
abbrev pub VersionsRise : List PkgRow → Type 0
VersionsRise = EachPair (λ (a b : PkgRow). version_cmp b.package b.version a ≡ Less)

-- the unfinished jobs rise by number, none twice
abbrev pub JobsRise : List (ℕ × PkgRow) → Type 0
JobsRise = EachPair (λ (a b : ℕ × PkgRow). a.0 < b.0)

-- the greatest versions rise by package, none twice
abbrev pub LastsRise : List (List ℕ × ℕ) → Type 0
LastsRise = EachPair (λ (a b : List ℕ × ℕ). slice_cmp nat_cmp a.0 b.0 ≡ Less)

-- the row's package has a greatest version, which is at least that of the row
abbrev pub IsCovered : List (List ℕ × ℕ) → PkgRow → Type 0
IsCovered lasts row = (last : ℕ) × (last_of row.package lasts ≡ Some last) × (row.version ≤ last)

-- The three lists rise without repeats, no version stands twice among jobs and versions, the greatest version of each package is
-- kept as long as a version or a job of it is there, and the limits are kept.
pub record AreValid (rows : Rows) : Type 0 where
  pub versions_rise : VersionsRise rows.versions
  pub jobs_rise : JobsRise rows.jobs
  pub lasts_rise : LastsRise rows.lasts
  pub apart : EachPair Differ (all_rows rows)
  pub versions_covered : AllByRecursion (IsCovered rows.lasts) rows.versions
  pub jobs_covered : AllByRecursion (λ (u : ℕ × PkgRow). IsCovered rows.lasts u.1) rows.jobs
  pub below_next : AllByRecursion (λ (u : ℕ × PkgRow). u.0 < rows.next) rows.jobs
  pub first : 1 ≤ rows.next
  pub fits : rows.next < 2 ^ 64
  pub few_versions : all_versions rows ≤ 8192
  pub few_jobs : length rows.jobs ≤ 256
  pub few_entries : all_entries rows ≤ 400000
