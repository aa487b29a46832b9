-- What is installed on the points.
use Rattle.std.specs.Prelude.{◌≡◌, ℕ, ◌==◌, ◌&&◌, Bool, List}
use Rattle.std.specs.List.{list_any}
use Rattle.std.specs.Str.{bytes_eq}
use Rattle.std.specs.Ordering.{nat_cmp, ordering_then}
use Rattle.std.specs.declared.cmp.Ordering.{Ordering}
use Rattle.std.specs.Cmp.Lexicographic.{slice_cmp}

-- a point, a package and its version
abbrev pub InstalledRow : Type 0
InstalledRow = List ℕ × List ℕ × ℕ

-- the row is of that point, package and version
abbrev pub is_row : List ℕ → List ℕ → ℕ → InstalledRow → Bool
is_row point id version row = bytes_eq row.0 point && bytes_eq row.1 id && row.2 == version

-- a row says that the version is installed on the point
abbrev pub is_installed : List InstalledRow → List ℕ → List ℕ → ℕ → Bool
is_installed rows point id version = list_any (is_row point id version) rows

-- two lists of rows say the same
abbrev pub AreSameRows : List InstalledRow → List InstalledRow → Type 0
AreSameRows rows others = (point id : List ℕ) (version : ℕ) → is_installed others point id version ≡ is_installed rows point id version

-- rows stand in order by package, by version, then by point
abbrev pub row_cmp : InstalledRow → InstalledRow → Ordering
row_cmp a b = ordering_then (ordering_then (slice_cmp nat_cmp a.1 b.1) (nat_cmp a.2 b.2)) (slice_cmp nat_cmp a.0 b.0)
