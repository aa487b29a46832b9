-- The stored manifests of rows.
use Rattle.std.proofs.Common.{◌≡◌, ℕ, Bool, true, false, List, [], ◌∷◌, length, refl, sym, ◌∙◌, ap, subst, eq-eqb}
use Rattle.std.specs.Prelude.{Option, None, Some, option_map, ok_or, map, find, not, cond, Result, Ok, Err, ◌==◌, ◌&&◌}
use Rattle.std.specs.Option.{option_and_then}
use Rattle.std.specs.List.{AllByRecursion}
use Rattle.std.specs.Str.{bytes_eq}
use Rattle.std.proofs.lemmas.Option.{same_Some}
use Rattle.std.proofs.lemmas.Slice.Eq.{bytes_eq-Decides}
use Rattle.std.proofs.lemmas.List.{map-append}
use Rattle.sha2.specs.Sha256.{sha256}
use Rattle.cm_disk.specs.Disk.{File, Files}
use Rattle.cm_pkglib.specs.declared.row.PkgRow.{PkgRow}
use Rattle.cm_pkglib.specs.declared.change.Change.TheVariants.{Opened, Done}
use Rattle.cm_pkglib.specs.Rows.{Rows, is_before, with_row, with_done, after}
use Rattle.cm_tree.specs.declared.entry.Entry.{Entry}
use Rattle.cm_tree.specs.declared.tree_fault.TreeFault.{TreeFault}
use Rattle.cm_tree.specs.Manifests.{IsManifest, spelling}
use Rattle.cm_tree.specs.Reading.{read_manifest}
use Rattle.cm_tree.proofs.Entries.{read_again}
use Rattle.cm_datalib.specs.Places.{manifest_place}
use Rattle.cm_state.specs.State.{Held, State, held_of, rows_of, with_held, with_done as with_held_done}
use Rattle.cm_state.specs.Changes.{Begun, Finished, changed}
use Rattle.cm_state.specs.Look.{counted, manifest_in, held, held_or_place, both, of_job, all_held, all_jobs, state_of, loaded}
use Rattle.cm_state.proofs.Lists.{over_cond, find_map, filter_map, all_filter, found_one}

-- this is what the files have for its row
abbrev pub HasHeld : Files → Held → Type 0
HasHeld files h = held files h.row ≡ Some h

abbrev pub HasJob : Files → ℕ × Held → Type 0
HasJob files job = HasHeld files job.1

-- the row of a job and of what it holds
abbrev pub job_of : ℕ × Held → ℕ × PkgRow
job_of job = (job.0, job.1.row)

abbrev pub row_of : Held → PkgRow
row_of h = h.row

-- rows by their four parts
pub rows_same : (a b : Rows) → a.versions ≡ b.versions → a.jobs ≡ b.jobs → a.next ≡ b.next → a.lasts ≡ b.lasts → a ≡ b
rows_same a b v j n l = λ i. record { versions = v i; jobs = j i; next = n i; lasts = l i }

-- two values of one answer
same_Ok : {A : Type 0} (x y : A) → (let r : Result A (List ℕ) = Ok x in r) ≡ Ok y → x ≡ y
same_Ok x y e = cc

-- a value that is there
ok_some : {A : Type 0} (o : Option A) (place : List ℕ) (x : A) → ok_or o place ≡ Ok x → o ≡ Some x
ok_some None place x is = absurd (cc)
ok_some {A = A} (Some y) place x is = ap (λ (z : A). Some z) (same_Ok y x is)

-- all of a list, by its parts
pub record IsBoth {A : Type 0} (one : Result A (List ℕ)) (rest : Result (List A) (List ℕ)) (all : List A) : Type 0 where
  pub first : A
  pub others : List A
  pub one_is : one ≡ Ok first
  pub rest_is : rest ≡ Ok others
  pub all_is : all ≡ first ∷ others

both_ok : {A : Type 0} (one : Result A (List ℕ)) (rest : Result (List A) (List ℕ)) (all : List A) → both one rest ≡ Ok all → IsBoth one rest all
both_ok (Err place) rest all is = absurd (cc)
both_ok (Ok x) (Err place) all is = absurd (cc)
both_ok (Ok x) (Ok xs) all is = record { first = x; others = xs; one_is = refl; rest_is = refl; all_is = sym (same_Ok (x ∷ xs) all is) }

-- what is held has the row that it is held for
held_row : (row : PkgRow) (found : Option (List Entry)) (h : Held) → option_map (λ (manifest : List Entry). let h : Held = record { row = row; manifest = manifest } in h) found ≡ Some h → h.row ≡ row
held_row row None h is = absurd (cc)
held_row row (Some manifest) h is = ap (λ (h : Held). h.row) (sym (same_Some _ h is))

row_is : (files : Files) (row : PkgRow) (h : Held) → held files row ≡ Some h → h.row ≡ row
row_is files row h is = held_row row (option_and_then (manifest_in row) (files (manifest_place row.package row.version))) h is

is_held : (files : Files) (row : PkgRow) (h : Held) → held files row ≡ Some h → HasHeld files h
is_held files row h is = ap (λ (r : PkgRow). held files r) (row_is files row h is) ∙ is

-- the versions that were found
pub record Found (files : Files) (rows : List PkgRow) (hs : List Held) : Type 0 where
  pub rows_are : map row_of hs ≡ rows
  pub each : AllByRecursion (HasHeld files) hs

pub versions_found : (files : Files) (rows : List PkgRow) (hs : List Held) → all_held files rows ≡ Ok hs → Found files rows hs
versions_found files [] hs is = subst (Found files []) (same_Ok [] hs is) (record { rows_are = refl; each = tt })
versions_found files (row ∷ rows) hs is =
    let b = both_ok (held_or_place files row) (all_held files rows) hs is in
    let one = ok_some (held files row) (manifest_place row.package row.version) b.first b.one_is in
    let f = versions_found files rows b.others b.rest_is in
    subst (Found files (row ∷ rows)) (sym b.all_is)
    (record {
      rows_are = ap (λ (r : PkgRow). r ∷ map row_of b.others) (row_is files row b.first one) ∙ ap (λ (rs : List PkgRow). row ∷ rs) f.rows_are;
      each = (is_held files row b.first one, f.each);
    })

-- what is held is no place of a wrong manifest
pub no_place : (files : Files) (row : PkgRow) (h : Held) → held files row ≡ Some h → held_or_place files row ≡ Ok h
no_place files row h is = ap (λ (o : Option Held). ok_or o (manifest_place row.package row.version)) is

pub versions_held : (files : Files) (hs : List Held) → AllByRecursion (HasHeld files) hs → all_held files (map row_of hs) ≡ Ok hs
versions_held files [] all = refl
versions_held files (h ∷ hs) all =
    ap (λ (o : Result Held (List ℕ)). both o (all_held files (map row_of hs))) (no_place files h.row h all.0)
    ∙ ap (λ (o : Result (List Held) (List ℕ)). both (Ok h) o) (versions_held files hs all.1)

-- a job that was found
job_found : (n : ℕ) (o : Result Held (List ℕ)) (job : ℕ × Held) → of_job n o ≡ Ok job → (o ≡ Ok job.1) × (job.0 ≡ n)
job_found n (Err place) job is = absurd (cc)
job_found n (Ok h) job is =
    let same : (n, h) ≡ job = same_Ok (n, h) job is in
    (ap (λ (j : ℕ × Held). let r : Result Held (List ℕ) = Ok j.1 in r) same, ap (λ (j : ℕ × Held). j.0) (sym same))

pub record FoundJobs (files : Files) (jobs : List (ℕ × PkgRow)) (js : List (ℕ × Held)) : Type 0 where
  pub rows_are : map job_of js ≡ jobs
  pub each : AllByRecursion (HasJob files) js

pub jobs_found : (files : Files) (jobs : List (ℕ × PkgRow)) (js : List (ℕ × Held)) → all_jobs files jobs ≡ Ok js → FoundJobs files jobs js
jobs_found files [] js is = subst (FoundJobs files []) (same_Ok [] js is) (record { rows_are = refl; each = tt })
jobs_found files (job ∷ jobs) js is =
    let b = both_ok (of_job job.0 (held_or_place files job.1)) (all_jobs files jobs) js is in
    let j = job_found job.0 (held_or_place files job.1) b.first b.one_is in
    let one = ok_some (held files job.1) (manifest_place job.1.package job.1.version) b.first.1 j.0 in
    let f = jobs_found files jobs b.others b.rest_is in
    subst (FoundJobs files (job ∷ jobs)) (sym b.all_is)
    (record {
      rows_are = ap (λ (n : ℕ). (n, b.first.1.row) ∷ map job_of b.others) j.1 ∙ ap (λ (r : PkgRow). (job.0, r) ∷ map job_of b.others) (row_is files job.1 b.first.1 one) ∙ ap (λ (rs : List (ℕ × PkgRow)). job ∷ rs) f.rows_are;
      each = (is_held files job.1 b.first.1 one, f.each);
    })

pub jobs_held : (files : Files) (js : List (ℕ × Held)) → AllByRecursion (HasJob files) js → all_jobs files (map job_of js) ≡ Ok js
jobs_held files [] all = refl
jobs_held files (job ∷ jobs) all =
    ap (λ (o : Result Held (List ℕ)). both (of_job job.0 o) (all_jobs files (map job_of jobs))) (no_place files job.1.row job.1 all.0)
    ∙ ap (λ (o : Result (List (ℕ × Held)) (List ℕ)). both (Ok job) o) (jobs_held files jobs all.1)

-- what is loaded
pub record IsLoaded (files : Files) (rows : Rows) (s : State) : Type 0 where
  pub rows_are : rows ≡ rows_of s
  pub versions : AllByRecursion (HasHeld files) s.versions
  pub jobs : AllByRecursion (HasJob files) s.jobs

loaded_parts : (files : Files) (rows : Rows) (vs : Result (List Held) (List ℕ)) (js : Result (List (ℕ × Held)) (List ℕ)) (s : State) → all_held files rows.versions ≡ vs → all_jobs files rows.jobs ≡ js → state_of rows vs js ≡ Ok s → IsLoaded files rows s
loaded_parts files rows (Err place) js s v j is = absurd (cc)
loaded_parts files rows (Ok vs) (Err place) s v j is = absurd (cc)
loaded_parts files rows (Ok vs) (Ok js) s v j is =
    let f = versions_found files rows.versions vs v in
    let g = jobs_found files rows.jobs js j in
    subst (IsLoaded files rows) (same_Ok _ s is)
    (record { rows_are = rows_same rows _ (sym f.rows_are) (sym g.rows_are) refl refl; versions = f.each; jobs = g.each })

pub loaded_is : (files : Files) (rows : Rows) (s : State) → loaded files rows ≡ Ok s → IsLoaded files rows s
loaded_is files rows s is = loaded_parts files rows (all_held files rows.versions) (all_jobs files rows.jobs) s refl refl is

pub loaded_state : (files : Files) (s : State) → AllByRecursion (HasHeld files) s.versions → AllByRecursion (HasJob files) s.jobs → loaded files (rows_of s) ≡ Ok s
loaded_state files s vs js =
    ap (λ (o : Result (List Held) (List ℕ)). state_of (rows_of s) o (all_jobs files (map job_of s.jobs))) (versions_held files s.versions vs)
    ∙ ap (λ (o : Result (List (ℕ × Held)) (List ℕ)). state_of (rows_of s) (Ok s.versions) o) (jobs_held files s.jobs js)

-- files that agree at a row's manifest
pub same_manifest : (files now : Files) (row : PkgRow) → now (manifest_place row.package row.version) ≡ files (manifest_place row.package row.version) → held now row ≡ held files row
same_manifest files now row same = ap (λ (f : File). option_map (λ (manifest : List Entry). let h : Held = record { row = row; manifest = manifest } in h) (option_and_then (manifest_in row) f)) same

-- the manifest that is spelled there is held
pub manifest_held : (files : Files) (id : List ℕ) (version : ℕ) (manifest : List Entry) → files (manifest_place id version) ≡ Some (spelling manifest) → IsManifest manifest → HasHeld files (held_of id version manifest)
manifest_held files id version manifest there form =
    let row = (held_of id version manifest).row in
    ap (λ (f : File). option_map (λ (manifest : List Entry). let h : Held = record { row = row; manifest = manifest } in h) (option_and_then (manifest_in row) f)) there
    ∙ ap (λ (b : Bool). option_map (λ (manifest : List Entry). let h : Held = record { row = row; manifest = manifest } in h) (cond b (counted row (read_manifest (spelling manifest))) None)) right
    ∙ ap (λ (r : Result (List Entry) TreeFault). option_map (λ (manifest : List Entry). let h : Held = record { row = row; manifest = manifest } in h) (counted row r)) (read_again manifest form)
    ∙ ap (λ (b : Bool). option_map (λ (manifest : List Entry). let h : Held = record { row = row; manifest = manifest } in h) (cond b (Some manifest) None)) (eq-eqb (length manifest) (length manifest) refl)
  where
    right : (length (spelling manifest) == length (spelling manifest) && bytes_eq (sha256 (spelling manifest)) (sha256 (spelling manifest))) ≡ true
    right = ap (λ (b : Bool). b && bytes_eq (sha256 (spelling manifest)) (sha256 (spelling manifest))) (eq-eqb (length (spelling manifest)) (length (spelling manifest)) refl) ∙ (bytes_eq-Decides (sha256 (spelling manifest)) (sha256 (spelling manifest))).1 refl

-- a job begins: its rows
pub rows_begun : (s : State) (job : ℕ) (id : List ℕ) (version : ℕ) (manifest : List Entry)
    → rows_of (changed (Begun job id version manifest) s) ≡ after (Opened job id version (length manifest) (length (spelling manifest)) (record { 0 = sha256 (spelling manifest) })) (rows_of s)
rows_begun s job id version manifest = rows_same _ _ refl (map-append job_of s.jobs ((job, held_of id version manifest) ∷ [])) refl refl

-- a job is finished: its rows
row_put : (h : Held) (vs : List Held) → map row_of (with_held h vs) ≡ with_row h.row (map row_of vs)
row_put h [] = refl
row_put h (v ∷ vs) =
    sym (over_cond (λ (l : List Held). map row_of l) (is_before h.row v.row) (h ∷ v ∷ vs) (v ∷ with_held h vs))
    ∙ ap (λ (l : List PkgRow). cond (is_before h.row v.row) (h.row ∷ v.row ∷ map row_of vs) (v.row ∷ l)) (row_put h vs)

job_done : (o : Option (ℕ × Held)) (vs : List Held) → map row_of (with_held_done (option_map (λ (u : ℕ × Held). u.1) o) vs) ≡ with_done (option_map (λ (u : ℕ × PkgRow). u.1) (option_map job_of o)) (map row_of vs)
job_done None vs = refl
job_done (Some job) vs = row_put job.1 vs

pub rows_finished : (s : State) (job : ℕ) → rows_of (changed (Finished job) s) ≡ after (Done job) (rows_of s)
rows_finished s job = rows_same _ _
    (job_done (find (λ (u : ℕ × Held). u.0 == job) s.jobs) s.versions
    ∙ ap (λ (o : Option (ℕ × PkgRow)). with_done (option_map (λ (u : ℕ × PkgRow). u.1) o) (map row_of s.versions)) (sym (find_map job_of (λ (u : ℕ × Held). u.0 == job) (λ (u : ℕ × PkgRow). u.0 == job) (λ u. refl) s.jobs)))
    (sym (filter_map job_of (λ (u : ℕ × Held). not (u.0 == job)) (λ (u : ℕ × PkgRow). not (u.0 == job)) (λ u. refl) s.jobs))
    refl
    refl

-- what holds of the versions and of one more
all_put : (P : Held → Type 0) (h : Held) (vs : List Held) → P h → AllByRecursion P vs → AllByRecursion P (with_held h vs)
all_put P h [] p all = (p, tt)
all_put P h (v ∷ vs) p all = by (is_before h.row v.row) (all_put P h vs p all.1)
  where
    by : (b : Bool) → AllByRecursion P (with_held h vs) → AllByRecursion P (cond b (h ∷ v ∷ vs) (v ∷ with_held h vs))
    by true rest = (p, (all.0, all.1))
    by false rest = (all.0, rest)

held_after : (files : Files) (o : Option (ℕ × Held)) (vs : List Held) → ((job : ℕ × Held) → o ≡ Some job → HasJob files job) → AllByRecursion (HasHeld files) vs → AllByRecursion (HasHeld files) (with_held_done (option_map (λ (u : ℕ × Held). u.1) o) vs)
held_after files None vs one all = all
held_after files (Some job) vs one all = all_put (HasHeld files) job.1 vs (one job refl) all

pub finished_versions : (files : Files) (s : State) (job : ℕ) → AllByRecursion (HasHeld files) s.versions → AllByRecursion (HasJob files) s.jobs → AllByRecursion (HasHeld files) (changed (Finished job) s).versions
finished_versions files s job vs js = held_after files (find (λ (u : ℕ × Held). u.0 == job) s.jobs) s.versions (λ j is. found_one (HasJob files) (λ (u : ℕ × Held). u.0 == job) s.jobs js j is) vs

pub finished_jobs : (files : Files) (s : State) (job : ℕ) → AllByRecursion (HasJob files) s.jobs → AllByRecursion (HasJob files) (changed (Finished job) s).jobs
finished_jobs files s job js = all_filter (HasJob files) (λ (u : ℕ × Held). not (u.0 == job)) s.jobs js
