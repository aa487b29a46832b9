-- The orders of versions, jobs and packages.
use Rattle.std.proofs.Common.{◌≡◌, ℕ, ◌<◌, List, ◌&&◌, ◌==◌, refl, ap, ◌∙◌, sym}
use Rattle.std.specs.Cmp.{IsTotalOrder}
use Rattle.std.specs.Cmp.Lexicographic.{slice_cmp}
use Rattle.std.specs.Ordering.{nat_cmp, is_eq, ordering_then}
use Rattle.std.specs.declared.cmp.Ordering.{Ordering}
use Rattle.std.specs.declared.cmp.Ordering.TheVariants.{Less, Equal, Greater}
use Rattle.std.proofs.lemmas.Cmp.{nat_list_cmp_total, nat_cmp_total, on_total, then_total}
use Rattle.std.proofs.lemmas.Map.Text.{is_eq-slice_cmp}
use Rattle.std.proofs.lemmas.Bool.{lt-ltb}
use Rattle.std.specs.Cmp.{unsigned_ties}
use Rattle.cm_pkglib.specs.declared.row.PkgRow.{PkgRow}
use Rattle.cm_pkglib.specs.Rows.{is_of, version_cmp}

abbrev pub VersionKey : Type 0
VersionKey = List ℕ × ℕ

abbrev pub key_of : PkgRow → VersionKey
key_of row = (row.package, row.version)

abbrev pub key_cmp : VersionKey → VersionKey → Ordering
key_cmp a b = ordering_then (slice_cmp nat_cmp a.0 b.0) (nat_cmp a.1 b.1)

pub key_total : IsTotalOrder key_cmp
key_total = then_total (on_total (λ (k : VersionKey). k.0) nat_list_cmp_total) (on_total (λ (k : VersionKey). k.1) nat_cmp_total)

then_equal : (a b : Ordering) → is_eq (ordering_then a b) ≡ is_eq a && is_eq b
then_equal Less b = refl
then_equal Equal b = refl
then_equal Greater b = refl

pub is_of-version_cmp : (id : List ℕ) (version : ℕ) (row : PkgRow) → is_of id version row ≡ is_eq (version_cmp id version row)
is_of-version_cmp id version row =
    ap (λ b. b && (row.version == version)) (sym (is_eq-slice_cmp row.package id))
    ∙ ap (λ b. is_eq (slice_cmp nat_cmp row.package id) && b) (unsigned_ties row.version version)
    ∙ sym (then_equal (slice_cmp nat_cmp row.package id) (nat_cmp row.version version))

pub less_from_lt : (a b : ℕ) → a < b → nat_cmp a b ≡ Less
less_from_lt a b h = rw (lt-ltb a b h)
