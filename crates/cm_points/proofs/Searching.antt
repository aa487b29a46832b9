-- Rows in order are searched by halves.
use Rattle.std.proofs.Common.{◌≡◌, ℕ, suc, zero, ◌<◌, ◌≤◌, Bool, true, false, ◌&&◌, List, [], ◌∷◌, length, get_or, refl, ap, sym, ◌∙◌, arith, Result, Ok, Err, is_ok, ◌⊎◌, inl, inr}
use Rattle.std.specs.List.{AllWithin, list_any}
use Rattle.std.specs.List.Sorted.{IsBinarySearchResult, IsSearchInRange, IsSorted}
use Rattle.std.specs.Prelude.{◌==◌}
use Rattle.std.specs.Str.{bytes_eq}
use Rattle.std.specs.Cmp.{IsTotalOrder, unsigned_ties}
use Rattle.std.specs.Cmp.Lexicographic.{slice_cmp}
use Rattle.std.specs.Ordering.{nat_cmp, is_eq, ordering_then}
use Rattle.std.specs.declared.cmp.Ordering.{Ordering}
use Rattle.std.specs.declared.cmp.Ordering.TheVariants.{Less, Equal, Greater}
use Rattle.std.proofs.lemmas.Cmp.{nat_list_cmp_total, nat_cmp_total, on_total, then_total}
use Rattle.std.proofs.lemmas.Map.Text.{is_eq-slice_cmp}
use Rattle.std.proofs.lemmas.Bool.{or_right, cases_lt}
use Rattle.std.proofs.lemmas.List.Sorted.{searchable_from_sorted}
use Rattle.cm_points.specs.Installs.{InstalledRow, is_row, row_cmp}

-- the order of rows is one
pub row_cmp_total : IsTotalOrder row_cmp
row_cmp_total = then_total (then_total (on_total (λ (row : InstalledRow). row.1) nat_list_cmp_total) (on_total (λ (row : InstalledRow). row.2) nat_cmp_total)) (on_total (λ (row : InstalledRow). row.0) nat_list_cmp_total)

is_eq-then : (a b : Ordering) → is_eq (ordering_then a b) ≡ is_eq a && is_eq b
is_eq-then Less b = refl
is_eq-then Equal b = refl
is_eq-then Greater b = refl

point_first : (a b c : Bool) → ((a && b) && c) ≡ ((c && a) && b)
point_first true true true = refl
point_first true true false = refl
point_first true false true = refl
point_first true false false = refl
point_first false b true = refl
point_first false b false = refl

-- a row is that of a point, a package and a version where it is equal to it in the order
pub is_row-row_cmp : (point id : List ℕ) (version : ℕ) (row : InstalledRow) → is_eq (row_cmp row (point, id, version)) ≡ is_row point id version row
is_row-row_cmp point id version row =
    is_eq-then (ordering_then (slice_cmp nat_cmp row.1 id) (nat_cmp row.2 version)) (slice_cmp nat_cmp row.0 point)
    ∙ (ap (λ b. b && is_eq (slice_cmp nat_cmp row.0 point)) (is_eq-then (slice_cmp nat_cmp row.1 id) (nat_cmp row.2 version))
    ∙ (ap (λ b. (is_eq (slice_cmp nat_cmp row.1 id) && is_eq (nat_cmp row.2 version)) && b) (is_eq-slice_cmp row.0 point)
    ∙ (ap (λ b. (b && is_eq (nat_cmp row.2 version)) && bytes_eq row.0 point) (is_eq-slice_cmp row.1 id)
    ∙ (ap (λ b. (bytes_eq row.1 id && b) && bytes_eq row.0 point) (sym (unsigned_ties row.2 version))
    ∙ point_first (bytes_eq row.1 id) (row.2 == version) (bytes_eq row.0 point)))))

-- a test that one row passes
any_at : (p : InstalledRow → Bool) (rows : List InstalledRow) (at : ℕ) → at < length rows → ((row : InstalledRow) → p (get_or rows at row) ≡ true) → list_any p rows ≡ true
any_at p [] at l h = absurd (omega arith)
any_at p (row ∷ rows) zero l h = rw (h row)
any_at p (row ∷ rows) (suc at) l h = or_right (p row) (list_any p rows) (any_at p rows at (omega arith) h)

-- a test that none passes, of those before a place and from it on
any_none : (p : InstalledRow → Bool) (rows : List InstalledRow) → ((k : ℕ) (row : InstalledRow) → k < length rows → p (get_or rows k row) ≡ false) → list_any p rows ≡ false
any_none p [] h = refl
any_none p (row ∷ rows) h = rw (h zero row (omega arith)) (any_none p rows (λ k other l. h (suc k) other (omega arith)))

none_within : (p : InstalledRow → Bool) (ord : InstalledRow → Ordering) → ((row : InstalledRow) → is_eq (ord row) ≡ p row) → (rows : List InstalledRow) (at : ℕ)
    → AllWithin (λ row. ord row ≡ Less) rows 0 at → AllWithin (λ row. ord row ≡ Greater) rows at (length rows)
    → (k : ℕ) (row : InstalledRow) → k < length rows → (k < at) ⊎ (at ≤ k) → p (get_or rows k row) ≡ false
none_within p ord same rows at before behind k row l (inl h) = sym (same (get_or rows k row)) ∙ ap is_eq (before k row (omega arith) h)
none_within p ord same rows at before behind k row l (inr h) = sym (same (get_or rows k row)) ∙ ap is_eq (behind k row h l)

below_or_not : (k at : ℕ) → (k < at) ⊎ (at ≤ k)
below_or_not k at = cases_lt k at

-- what a search by halves finds
pub found_by_halves : (p : InstalledRow → Bool) (key : InstalledRow) → ((row : InstalledRow) → is_eq (row_cmp row key) ≡ p row) → (rows : List InstalledRow) (place : Result ℕ ℕ)
    → IsSorted row_cmp rows → IsSearchInRange place (length rows) → IsBinarySearchResult (λ row. row_cmp row key) rows place → is_ok place ≡ list_any p rows
found_by_halves p key same rows (Ok at) sorted low found =
    sym (any_at p rows at low (λ row. sym (same (get_or rows at row)) ∙ ap is_eq (found row)))
found_by_halves p key same rows (Err at) sorted low found =
    let parts = found (searchable_from_sorted row_cmp_total (λ (row : InstalledRow). row) rows key sorted) in
    sym (any_none p rows (λ k row l. none_within p (λ row. row_cmp row key) same rows at parts.0 parts.1 k row l (below_or_not k at)))
