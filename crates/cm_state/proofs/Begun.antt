-- The manifest of a job that begins has a place of its own.
use Rattle.std.proofs.Common.{◌≡◌, ℕ, ◌<◌, ◌^◌, Bool, true, false, List, [], ◌∷◌, length, sym, ◌∙◌, ap, arith, eq-eqb}
use Rattle.std.specs.Prelude.{◌≢◌, map, ◌==◌, ◌&&◌}
use Rattle.std.specs.List.{AllByRecursion}
use Rattle.std.specs.Str.{bytes_eq}
use Rattle.std.proofs.lemmas.Bool.{false≢true}
use Rattle.std.proofs.lemmas.Slice.Eq.{bytes_eq-Decides}
use Rattle.cm_pkglib.specs.declared.row.PkgRow.{PkgRow}
use Rattle.cm_pkglib.specs.Rows.{is_of}
use Rattle.cm_datalib.specs.Places.{manifest_place}
use Rattle.cm_state.specs.State.{Held}
use Rattle.cm_state.specs.Sound.{IsNamed}
use Rattle.cm_state.proofs.Elsewhere.{manifest_names}
use Rattle.cm_state.proofs.Loaded.{row_of, job_of}

-- other versions have other places
pub other_place : (id : List ℕ) (version : ℕ) (row : PkgRow) → length id ≡ 8 → version < 2 ^ 32 → IsNamed row → is_of id version row ≡ false → manifest_place row.package row.version ≢ manifest_place id version
other_place id version row long below named other same =
    let n = manifest_names row.package row.version id version named.0 long (omega (arith, named.1)) (omega arith) same in
    let b : bytes_eq row.package id ≡ true = (bytes_eq-Decides row.package id).1 n.0 in
    let m : (row.version == version) ≡ true = eq-eqb row.version version n.1 in
    false≢true (sym other ∙ ap (λ (c : Bool). c && (row.version == version)) b ∙ m)

-- two facts of each row
pub both_versions : (P Q : PkgRow → Type 0) (hs : List Held) → AllByRecursion P (map row_of hs) → AllByRecursion Q (map row_of hs) → AllByRecursion (λ (h : Held). P h.row × Q h.row) hs
both_versions P Q [] p q = tt
both_versions P Q (h ∷ hs) p q = ((p.0, q.0), both_versions P Q hs p.1 q.1)

pub both_jobs : (P Q : PkgRow → Type 0) (js : List (ℕ × Held)) → AllByRecursion (λ (u : ℕ × PkgRow). P u.1) (map job_of js) → AllByRecursion (λ (u : ℕ × PkgRow). Q u.1) (map job_of js) → AllByRecursion (λ (j : ℕ × Held). P j.1.row × Q j.1.row) js
both_jobs P Q [] p q = tt
both_jobs P Q (j ∷ js) p q = ((p.0, q.0), both_jobs P Q js p.1 q.1)
