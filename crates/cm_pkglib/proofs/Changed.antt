-- What a change makes of rows that rise.
use Rattle.std.proofs.Common.{◌≡◌, ℕ, suc, true, false, List, [], ◌∷◌, ◌++◌, take, drop, refl, ap, sym, ◌∙◌, max, get_or, set, take-append-drop}
use Rattle.std.specs.List.{AllByRecursion}
use Rattle.std.specs.Cmp.Lexicographic.{slice_cmp}
use Rattle.std.specs.Ordering.{nat_cmp, is_eq}
use Rattle.std.specs.Str.{bytes_eq}
use Rattle.std.specs.declared.cmp.Ordering.TheVariants.{Less, Equal}
use Rattle.std.proofs.lemmas.Cmp.{nat_list_cmp_total}
use Rattle.std.proofs.lemmas.Map.Text.{is_eq-slice_cmp}
use Rattle.cm_pkglib.specs.declared.row.PkgRow.{PkgRow}
use Rattle.cm_pkglib.specs.Places.{IsBetween, IsGap, IsThere}
use Rattle.cm_pkglib.specs.Rows.{version_cmp, with_row, with_last}
use Rattle.cm_pkglib.proofs.Orders.{key_of, key_total}
use Rattle.cm_pkglib.proofs.Halves.{flip_less, flip_greater, read_of_rest, set_of_rest}

pub of_package : (id : List ℕ) (l : List ℕ × ℕ) → bytes_eq l.0 id ≡ is_eq (slice_cmp nat_cmp l.0 id)
of_package id l = sym (is_eq-slice_cmp l.0 id)

pub with_row_between : (row : PkgRow) (front back : List PkgRow) → IsBetween (version_cmp row.package row.version) front back → with_row row (front ++ back) ≡ front ++ row ∷ back
with_row_between row [] [] b = refl
with_row_between row [] (x ∷ back) b = rw (flip_greater key_total (key_of x) (key_of row) b.behind.0)
with_row_between row (x ∷ front) back b =
    rw (flip_less key_total (key_of x) (key_of row) b.before.0) (ap (λ t. x ∷ t) (with_row_between row front back (record { before = b.before.1; behind = b.behind })))

pub with_last_new : (id : List ℕ) (version : ℕ) (front back : List (List ℕ × ℕ)) → IsBetween (λ (l : List ℕ × ℕ). slice_cmp nat_cmp l.0 id) front back → with_last id version (front ++ back) ≡ front ++ (id, version) ∷ back
with_last_new id version [] [] b = refl
with_last_new id version [] (x ∷ back) b =
    let other : bytes_eq x.0 id ≡ false = of_package id x ∙ rw (b.behind.0) in
    rw (other, flip_greater nat_list_cmp_total x.0 id b.behind.0)
with_last_new id version (x ∷ front) back b =
    let other : bytes_eq x.0 id ≡ false = of_package id x ∙ rw (b.before.0) in
    rw (other, flip_less nat_list_cmp_total x.0 id b.before.0) (ap (λ t. x ∷ t) (with_last_new id version front back (record { before = b.before.1; behind = b.behind })))

pub with_last_old : (id : List ℕ) (version : ℕ) (front : List (List ℕ × ℕ)) (l : List ℕ × ℕ) (back : List (List ℕ × ℕ)) → AllByRecursion (λ (l : List ℕ × ℕ). slice_cmp nat_cmp l.0 id ≡ Less) front → slice_cmp nat_cmp l.0 id ≡ Equal → with_last id version (front ++ l ∷ back) ≡ front ++ (l.0, max l.1 version) ∷ back
with_last_old id version [] l back b e =
    let same : bytes_eq l.0 id ≡ true = of_package id l ∙ rw e in
    rw same
with_last_old id version (x ∷ front) l back b e =
    let other : bytes_eq x.0 id ≡ false = of_package id x ∙ rw (b.0) in
    rw (other, flip_less nat_list_cmp_total x.0 id b.0) (ap (λ t. x ∷ t) (with_last_old id version front l back b.1 e))

pub with_row_gap : (row : PkgRow) (xs : List PkgRow) (at : ℕ) → IsGap (version_cmp row.package row.version) xs at → with_row row xs ≡ take at xs ++ row ∷ drop at xs
with_row_gap row xs at g = ap (λ t. with_row row t) (sym (take-append-drop at xs)) ∙ with_row_between row (take at xs) (drop at xs) g.between

pub with_last_gap : (id : List ℕ) (version : ℕ) (xs : List (List ℕ × ℕ)) (at : ℕ) → IsGap (λ (l : List ℕ × ℕ). slice_cmp nat_cmp l.0 id) xs at → with_last id version xs ≡ take at xs ++ (id, version) ∷ drop at xs
with_last_gap id version xs at g = ap (λ t. with_last id version t) (sym (take-append-drop at xs)) ∙ with_last_new id version (take at xs) (drop at xs) g.between

pub with_last_there : (id : List ℕ) (version : ℕ) (xs : List (List ℕ × ℕ)) (at : ℕ) (l : List ℕ × ℕ) (most : ℕ) → IsThere (λ (l : List ℕ × ℕ). slice_cmp nat_cmp l.0 id) xs at → l ≡ get_or xs at l → most ≡ max l.1 version → with_last id version xs ≡ set xs at (l.0, most)
with_last_there id version xs at l most g e m =
    let same : l ≡ g.row = e ∙ read_of_rest xs at g.row _ g.rest l in
    let split : xs ≡ take at xs ++ g.row ∷ drop (suc at) xs = sym (ap (λ t. take at xs ++ t) (sym g.rest) ∙ take-append-drop at xs) in
    ap (λ t. with_last id version t) split
    ∙ with_last_old id version (take at xs) g.row (drop (suc at) xs) g.between.before g.equal
    ∙ sym (set_of_rest xs at g.row (drop (suc at) xs) (l.0, most) g.rest ∙ ap (λ t. take at xs ++ t ∷ drop (suc at) xs) (rw (m, same)))
