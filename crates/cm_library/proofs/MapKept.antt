-- Stored manifests, kept in a map.
use Rattle.std.proofs.Common.{◌≡◌, ℕ, Bool, true, false, List, [], ◌∷◌, ◌++◌, length, suc, ◌<◌, take, drop, get_or, refl, sym, ◌∙◌, ap}
use Rattle.std.specs.Prelude.{Option, None, Some, option_map, ok_or, map, Result, Ok, Err, ◌==◌, ◌&&◌}
use Rattle.std.specs.Option.{option_and_then}
use Rattle.std.specs.List.{AllByRecursion}
use Rattle.std.specs.Str.{bytes_eq}
use Rattle.std.proofs.lemmas.Bool.{eqb-true}
use Rattle.std.proofs.lemmas.Option.{same_Some}
use Rattle.std.proofs.lemmas.Slice.Eq.{bytes_eq-Decides}
use Rattle.sha2.specs.Sha256.{sha256}
use Rattle.cm_disk.specs.Disk.{File, Files, LeavesNoMore}
use Rattle.cm_pkglib.specs.declared.row.PkgRow.{PkgRow}
use Rattle.cm_pkglib.specs.Rows.{Rows, is_of}
use Rattle.cm_tree.specs.declared.entry.Entry.{Entry}
use Rattle.cm_tree.specs.declared.tree_fault.TreeFault.{TreeFault}
use Rattle.cm_tree.specs.Reading.{read_manifest}
use Rattle.cm_datalib.specs.Places.{manifest_place}
use Rattle.cm_state.specs.State.{Held}
use Rattle.cm_state.specs.Look.{counted, manifest_in, held_or_place, both, of_job, all_held, all_jobs, state_of, loaded}
use Rattle.cm_state.specs.Sure.{held_in, IsManifestSure}
use Rattle.cm_contents.specs.Contents.{held_with, job_held_with, state_with, manifest_in_map, PutsManifest}
use Rattle.cm_library.specs.Loads.{Map, IsKept, IsDurable, StaysKept}
use Rattle.cm_state.proofs.Loaded.{no_place}
use Rattle.cm_state.proofs.Replaying.{cond_some, then_some}
use Rattle.cm_state.proofs.Lists.{and_left, and_right, split_at}

-- the stored bytes of a row
abbrev stored : Files → PkgRow → Option (List Entry)
stored files row = option_and_then (manifest_in row) (files (manifest_place row.package row.version))

counted_is : (row : PkgRow) (r : Result (List Entry) TreeFault) (m : List Entry) → counted row r ≡ Some m → r ≡ Ok m
counted_is row (Err e) m is = absurd (cc)
counted_is row (Ok x) m is =
    let same : x ≡ m = same_Some x m (cond_some (length x == row.entries) (Some x) m is).1 in
    ap (λ (l : List Entry). let r : Result (List Entry) TreeFault = Ok l in r) same

-- what is found in bytes is what they spell
found_in : (row : PkgRow) (bytes : List ℕ) (m : List Entry) → manifest_in row bytes ≡ Some m → read_manifest bytes ≡ Ok m
found_in row bytes m is = counted_is row (read_manifest bytes) m (cond_some (length bytes == row.size && bytes_eq (sha256 bytes) row.hash.0) (counted row (read_manifest bytes)) m is).1

held_stored : (row : PkgRow) (o : Option (List Entry)) (h : Held) → option_map (λ (manifest : List Entry). let h : Held = record { row = row; manifest = manifest } in h) o ≡ Some h → o ≡ Some h.manifest
held_stored row None h is = absurd (cc)
held_stored row (Some m) h is = ap (λ (h : Held). Some h.manifest) (same_Some _ h is)

-- two rows of one version have one manifest
one_manifest : (files : Files) (a b : PkgRow) (m n : List Entry) → a.package ≡ b.package → a.version ≡ b.version → stored files a ≡ Some m → stored files b ≡ Some n → m ≡ n
one_manifest files a b m n p v is is' =
    let s = then_some (files (manifest_place a.package a.version)) (manifest_in a) m is in
    let t = then_some (files (manifest_place b.package b.version)) (manifest_in b) n is' in
    let same : s.0 ≡ t.0 = same_Some s.0 t.0 (sym s.1 ∙ ap (λ (q : List ℕ). files (manifest_place q a.version)) p ∙ ap (λ (k : ℕ). files (manifest_place b.package k)) v ∙ t.1) in
    let e : Ok m ≡ Ok n = sym (found_in a s.0 m s.2) ∙ ap read_manifest same ∙ found_in b t.0 n t.2 in
    ok_same m n e
  where
    ok_same : (m n : List Entry) → (let r : Result (List Entry) TreeFault = Ok m in r) ≡ Ok n → m ≡ n
    ok_same m n is = cc

-- a manifest that is loaded joins the map
pub one_kept : (files : Files) (row : PkgRow) (manifest : List Entry) (old new : Map) → Some manifest ≡ option_and_then (manifest_in row) (files (manifest_place row.package row.version)) → PutsManifest old new row.package row.version manifest → IsKept files new row
one_kept files row manifest old new is puts =
    ap (λ (o : Option (List Entry)). option_map (λ (manifest : List Entry). let h : Held = record { row = row; manifest = manifest } in h) o) (sym is)
    ∙ ap (λ (m : List Entry). let h : Held = record { row = row; manifest = m } in Some h) (sym puts.here)

-- and those that were there stay
pub one_stays : (files : Files) (row : PkgRow) (manifest : List Entry) (old new : Map) → Some manifest ≡ option_and_then (manifest_in row) (files (manifest_place row.package row.version)) → PutsManifest old new row.package row.version manifest → StaysKept files old new
one_stays files row manifest old new is puts r kept = by (is_of row.package row.version r) refl
  where
    by : (b : Bool) → is_of row.package row.version r ≡ b → IsKept files new r
    by false other = kept ∙ ap (λ (m : List Entry). let h : Held = record { row = r; manifest = m } in Some h) (sym (puts.others r other))
    by true same =
        let p : r.package ≡ row.package = (bytes_eq-Decides r.package row.package).0 (and_left (bytes_eq r.package row.package) (r.version == row.version) same) in
        let v : r.version ≡ row.version = eqb-true r.version row.version (and_right (bytes_eq r.package row.package) (r.version == row.version) same) in
        let m : manifest_in_map old r.package r.version ≡ manifest = one_manifest files r row (manifest_in_map old r.package r.version) manifest p v (held_stored r (stored files r) (held_with (manifest_in_map old) r) kept) (sym is) in
        let n : manifest_in_map new r.package r.version ≡ manifest = ap (λ (q : List ℕ). manifest_in_map new q r.version) p ∙ ap (λ (k : ℕ). manifest_in_map new row.package k) v ∙ puts.here in
        kept ∙ ap (λ (m : List Entry). let h : Held = record { row = r; manifest = m } in Some h) (m ∙ sym n)

-- a manifest that is absent or not what its row says
pub none_held : (files : Files) (row : PkgRow) → None ≡ option_and_then (manifest_in row) (files (manifest_place row.package row.version)) → held_or_place files row ≡ Err (manifest_place row.package row.version)
none_held files row is =
    ap (λ (o : Option (List Entry)). ok_or (option_map (λ (manifest : List Entry). let h : Held = record { row = row; manifest = manifest } in h) o) (manifest_place row.package row.version)) (sym is)

-- all of the manifests
pub all_kept : (files : Files) (m : Map) (rows : List PkgRow) → AllByRecursion (IsKept files m) rows → all_held files rows ≡ Ok (map (held_with (manifest_in_map m)) rows)
all_kept files m [] all = refl
all_kept files m (row ∷ rows) all =
    ap (λ (o : Result Held (List ℕ)). both o (all_held files rows)) (no_place files row (held_with (manifest_in_map m) row) all.0)
    ∙ ap (λ (o : Result (List Held) (List ℕ)). both (Ok (held_with (manifest_in_map m) row)) o) (all_kept files m rows all.1)

pub jobs_kept : (files : Files) (m : Map) (jobs : List (ℕ × PkgRow)) → AllByRecursion (λ (job : ℕ × PkgRow). IsKept files m job.1) jobs → all_jobs files jobs ≡ Ok (map (job_held_with (manifest_in_map m)) jobs)
jobs_kept files m [] all = refl
jobs_kept files m (job ∷ jobs) all =
    ap (λ (o : Result Held (List ℕ)). both (of_job job.0 o) (all_jobs files jobs)) (no_place files job.1 (held_with (manifest_in_map m) job.1) all.0)
    ∙ ap (λ (o : Result (List (ℕ × Held)) (List ℕ)). both (Ok (job_held_with (manifest_in_map m) job)) o) (jobs_kept files m jobs all.1)

-- the first that is wrong
lacks_held : (files : Files) (m : Map) (front : List PkgRow) (row : PkgRow) (back : List PkgRow) (place : List ℕ) → AllByRecursion (IsKept files m) front → held_or_place files row ≡ Err place → all_held files (front ++ row ∷ back) ≡ Err place
lacks_held files m [] row back place all none = ap (λ (o : Result Held (List ℕ)). both o (all_held files back)) none
lacks_held files m (r ∷ front) row back place all none =
    ap (λ (o : Result Held (List ℕ)). both o (all_held files (front ++ row ∷ back))) (no_place files r (held_with (manifest_in_map m) r) all.0)
    ∙ ap (λ (o : Result (List Held) (List ℕ)). both (Ok (held_with (manifest_in_map m) r)) o) (lacks_held files m front row back place all.1 none)

lacks_job : (files : Files) (m : Map) (front : List (ℕ × PkgRow)) (job : ℕ × PkgRow) (back : List (ℕ × PkgRow)) (place : List ℕ) → AllByRecursion (λ (job : ℕ × PkgRow). IsKept files m job.1) front → held_or_place files job.1 ≡ Err place
    → all_jobs files (front ++ job ∷ back) ≡ Err place
lacks_job files m [] job back place all none = ap (λ (o : Result Held (List ℕ)). both (of_job job.0 o) (all_jobs files back)) none
lacks_job files m (j ∷ front) job back place all none =
    ap (λ (o : Result Held (List ℕ)). both (of_job j.0 o) (all_jobs files (front ++ job ∷ back))) (no_place files j.1 (held_with (manifest_in_map m) j.1) all.0)
    ∙ ap (λ (o : Result (List (ℕ × Held)) (List ℕ)). both (Ok (job_held_with (manifest_in_map m) j)) o) (lacks_job files m front job back place all.1 none)

pub lacks_at : (files : Files) (m : Map) (rows : List PkgRow) (i : ℕ) (row : PkgRow) (place : List ℕ) → i < length rows → row ≡ get_or rows i row → AllByRecursion (IsKept files m) (take i rows) → held_or_place files row ≡ Err place → all_held files rows ≡ Err place
lacks_at files m rows i row place lt is all none =
    ap (λ (rs : List PkgRow). all_held files rs) (split_at rows i row lt is) ∙ lacks_held files m (take i rows) row (drop (suc i) rows) place all none

pub lacks_job_at : (files : Files) (m : Map) (jobs : List (ℕ × PkgRow)) (i : ℕ) (job : ℕ × PkgRow) (place : List ℕ) → i < length jobs → job ≡ get_or jobs i job → AllByRecursion (λ (job : ℕ × PkgRow). IsKept files m job.1) (take i jobs) → held_or_place files job.1 ≡ Err place
    → all_jobs files jobs ≡ Err place
lacks_job_at files m jobs i job place lt is all none =
    ap (λ (js : List (ℕ × PkgRow)). all_jobs files js) (split_at jobs i job lt is) ∙ lacks_job files m (take i jobs) job (drop (suc i) jobs) place all none

-- loaded, or not
pub loads_all : (files : Files) (rows : Rows) (m : Map) → AllByRecursion (IsKept files m) rows.versions → AllByRecursion (λ (job : ℕ × PkgRow). IsKept files m job.1) rows.jobs → loaded files rows ≡ Ok (state_with (manifest_in_map m) rows)
loads_all files rows m vs js =
    ap (λ (o : Result (List Held) (List ℕ)). state_of rows o (all_jobs files rows.jobs)) (all_kept files m rows.versions vs)
    ∙ ap (λ (o : Result (List (ℕ × Held)) (List ℕ)). state_of rows (Ok (map (held_with (manifest_in_map m)) rows.versions)) o) (jobs_kept files m rows.jobs js)

pub no_versions : (files : Files) (rows : Rows) (place : List ℕ) → all_held files rows.versions ≡ Err place → loaded files rows ≡ Err place
no_versions files rows place none = ap (λ (o : Result (List Held) (List ℕ)). state_of rows o (all_jobs files rows.jobs)) none

pub no_jobs : (files : Files) (rows : Rows) (m : Map) (place : List ℕ) → AllByRecursion (IsKept files m) rows.versions → all_jobs files rows.jobs ≡ Err place → loaded files rows ≡ Err place
no_jobs files rows m place vs none =
    ap (λ (o : Result (List Held) (List ℕ)). state_of rows o (all_jobs files rows.jobs)) (all_kept files m rows.versions vs)
    ∙ ap (λ (o : Result (List (ℕ × Held)) (List ℕ)). state_of rows (Ok (map (held_with (manifest_in_map m)) rows.versions)) o) none

-- what reads give at the places of manifests, on a disk that leaves no more
pub still_durable : (files : Files) (old new : List ℕ → File → Type 0) → LeavesNoMore old new → (row : PkgRow) → IsDurable files old row → IsDurable files new row
still_durable files old new stop row durable left l = durable left (stop (manifest_place row.package row.version) left l)

-- a manifest that is kept and durable is sure
pub manifests_sure : (files : Files) (may_leave : List ℕ → File → Type 0) (m : Map) (rows : List PkgRow) → AllByRecursion (IsKept files m) rows → AllByRecursion (IsDurable files may_leave) rows → AllByRecursion (IsManifestSure may_leave) (map (held_with (manifest_in_map m)) rows)
manifests_sure files may_leave m [] kept durable = tt
manifests_sure files may_leave m (row ∷ rows) kept durable =
    ((λ left l. ap (λ (f : File). held_in (held_with (manifest_in_map m) row) f) (durable.0 left l) ∙ kept.0), manifests_sure files may_leave m rows kept.1 durable.1)

pub jobs_sure : (files : Files) (may_leave : List ℕ → File → Type 0) (m : Map) (jobs : List (ℕ × PkgRow)) → AllByRecursion (λ (job : ℕ × PkgRow). IsKept files m job.1) jobs → AllByRecursion (λ (job : ℕ × PkgRow). IsDurable files may_leave job.1) jobs
    → AllByRecursion (λ (job : ℕ × Held). IsManifestSure may_leave job.1) (map (job_held_with (manifest_in_map m)) jobs)
jobs_sure files may_leave m [] kept durable = tt
jobs_sure files may_leave m (job ∷ jobs) kept durable =
    ((λ left l. ap (λ (f : File). held_in (held_with (manifest_in_map m) job.1) f) (durable.0 left l) ∙ kept.0), jobs_sure files may_leave m jobs kept.1 durable.1)
