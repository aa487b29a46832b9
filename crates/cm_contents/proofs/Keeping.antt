-- What is kept in memory is a state, before and after a change.
use Rattle.std.proofs.Common.{◌≡◌, ℕ, ◌+◌, ◌≤◌, Bool, true, false, List, [], ◌∷◌, ◌++◌, length, refl, sym, ◌∙◌, ap, subst, arith, length-append, eq-eqb}
use Rattle.std.specs.Prelude.{Option, None, Some, IsSome, is_some, IfSome, option_map, map, filter, find, not, cond, unwrap_or, ◌==◌, ◌&&◌, Result, Ok, Err, IsOk, OnOk, OnErr}
use Rattle.std.specs.List.{AllByRecursion}
use Rattle.std.specs.Str.{bytes_eq}
use Rattle.std.specs.Ordering.{is_eq}
use Rattle.std.specs.BTreeMap.{BTreeMap, Updates}
use Rattle.std.proofs.lemmas.Bool.{eqb-true, false≢true}
use Rattle.std.proofs.lemmas.List.{map-append, length-map}
use Rattle.std.proofs.lemmas.Slice.Eq.{bytes_eq-Decides}
use Rattle.sha2.specs.Sha256.{sha256}
use Rattle.cm_pkglib.specs.declared.row.PkgRow.{PkgRow}
use Rattle.cm_pkglib.specs.declared.change.Change.{Change}
use Rattle.cm_pkglib.specs.declared.change.Change.TheVariants.{Opened, Done, Dropped as DroppedRecord, Removed as RemovedRecord}
use Rattle.cm_pkglib.specs.Rows.{Rows, is_of, is_before, opened_fault, fault_of, with_row, with_done, after}
use Rattle.cm_pkglib.proofs.Among.{none_of_any, none_of_find}
use Rattle.cm_pkglib.proofs.Orders.{is_of-version_cmp}
use Rattle.cm_pkglib.proofs.Steps.{may_open}
use Rattle.cm_tree.specs.declared.entry.Entry.{Entry}
use Rattle.cm_tree.specs.Manifests.{spelling}
use Rattle.cm_state.specs.declared.row.VersionRow.{VersionRow}
use Rattle.cm_state.specs.declared.row.JobRow.{JobRow}
use Rattle.cm_state.specs.State.{Held, State, held_of, rows_of, with_held, with_done as with_held_done, version_row, job_row, version_rows, job_rows, bytes_of}
use Rattle.cm_state.specs.Changes.{Begun, Finished, Dropped, Removed, changed}
use Rattle.cm_base.specs.declared.hash.Hash.{Hash}
use Rattle.cm_contents.specs.Contents.{held_with, job_held_with, state_with, taken_with, kept_with, key_cmp, PutsManifest, told_before, with_told, finished_row, with_told_done, without_told, AreTold, InMemory, HasMemory}
use Rattle.cm_state.proofs.Lists.{no_some, and_left, and_right, over_cond, map_back, map_map, find_map, filter_map}
use Rattle.cm_state.proofs.Loaded.{row_of, job_of, rows_same}

abbrev Find : Type 0
Find = List ℕ → ℕ → List Entry

-- the rows of a state that rows make
pub rows_back : (f : Find) (rows : Rows) → rows_of (state_with f rows) ≡ rows
rows_back f rows = rows_same _ rows (map_back (held_with f) row_of (λ r. refl) rows.versions) (map_back (job_held_with f) job_of (λ j. refl) rows.jobs) refl refl

-- the rows take a change where the state's do
pub opened_free : (f : Find) (rows : Rows) (s : State) (job : ℕ) (id : List ℕ) (version entries : ℕ) → state_with f rows ≡ s → job ≡ rows.next → opened_fault (rows_of s) s.next id version entries ≡ None → opened_fault rows job id version entries ≡ None
opened_free f rows s job id version entries is next free =
    let here = subst (λ (s : State). opened_fault (rows_of s) s.next id version entries ≡ None) (sym is) free in
    ap (λ (j : ℕ). opened_fault rows j id version entries) next ∙ subst (λ (r : Rows). opened_fault r rows.next id version entries ≡ None) (rows_back f rows) here

pub done_free : (f : Find) (rows : Rows) (s : State) (job : ℕ) → state_with f rows ≡ s → fault_of (rows_of s) (Done job) ≡ None → fault_of rows (Done job) ≡ None
done_free f rows s job is free =
    subst (λ (r : Rows). fault_of r (Done job) ≡ None) (rows_back f rows) (subst (λ (s : State). fault_of (rows_of s) (Done job) ≡ None) (sym is) free)

-- a state by its four parts
pub state_same : (a b : State) → a.versions ≡ b.versions → a.jobs ≡ b.jobs → a.next ≡ b.next → a.lasts ≡ b.lasts → a ≡ b
state_same a b v j n l = λ i. record { versions = v i; jobs = j i; next = n i; lasts = l i }

versions_other : (id : List ℕ) (version : ℕ) (f g : Find) → ((row : PkgRow) → is_of id version row ≡ false → g row.package row.version ≡ f row.package row.version)
    → (rows : List PkgRow) → AllByRecursion (λ (r : PkgRow). is_of id version r ≡ false) rows → map (held_with g) rows ≡ map (held_with f) rows
versions_other id version f g agree [] all = refl
versions_other id version f g agree (row ∷ rows) all =
    ap (λ (m : List Entry). let h : Held = record { row = row; manifest = m } in h ∷ map (held_with g) rows) (agree row all.0)
    ∙ ap (λ (hs : List Held). held_with f row ∷ hs) (versions_other id version f g agree rows all.1)

jobs_other : (id : List ℕ) (version : ℕ) (f g : Find) → ((row : PkgRow) → is_of id version row ≡ false → g row.package row.version ≡ f row.package row.version)
    → (jobs : List (ℕ × PkgRow)) → AllByRecursion (λ (u : ℕ × PkgRow). is_of id version u.1 ≡ false) jobs → map (job_held_with g) jobs ≡ map (job_held_with f) jobs
jobs_other id version f g agree [] all = refl
jobs_other id version f g agree (job ∷ jobs) all =
    ap (λ (m : List Entry). let h : ℕ × Held = (job.0, record { row = job.1; manifest = m }) in h ∷ map (job_held_with g) jobs) (agree job.1 all.0)
    ∙ ap (λ (hs : List (ℕ × Held)). job_held_with f job ∷ hs) (jobs_other id version f g agree jobs all.1)

-- the manifest of a version that is not there does not matter
pub state_other : (id : List ℕ) (version entries job : ℕ) (f g : Find) (rows : Rows) → ((row : PkgRow) → is_of id version row ≡ false → g row.package row.version ≡ f row.package row.version)
    → opened_fault rows job id version entries ≡ None → state_with g rows ≡ state_with f rows
state_other id version entries job f g rows agree free =
    let may = may_open rows job id version entries free in
    state_same _ _
    (versions_other id version f g agree rows.versions (none_of_any (is_of id version) rows.versions may.no_version))
    (jobs_other id version f g agree rows.jobs (none_of_find (λ (u : ℕ × PkgRow). is_of id version u.1) rows.jobs (no_some (λ (u : ℕ × PkgRow). u.0) (find (λ (u : ℕ × PkgRow). is_of id version u.1) rows.jobs) may.no_job)))
    refl
    refl

-- a key that ties is that version
key_apart : (id : List ℕ) (version : ℕ) (row : PkgRow) → is_of id version row ≡ false → is_eq (key_cmp (id, version) (row.package, row.version)) ≡ false
key_apart id version row other = sym (is_of-version_cmp row.package row.version me) ∙ by (is_of row.package row.version me) refl
  where
    me : PkgRow
    me = record row { «package» = id; version = version }

    by : (b : Bool) → is_of row.package row.version me ≡ b → b ≡ false
    by false is = refl
    by true is =
        let e : id ≡ row.package = (bytes_eq-Decides id row.package).0 (and_left (bytes_eq id row.package) (version == row.version) is) in
        let n : version ≡ row.version = eqb-true version row.version (and_right (bytes_eq id row.package) (version == row.version) is) in
        let b : bytes_eq row.package id ≡ true = (bytes_eq-Decides row.package id).1 (sym e) in
        let m : (row.version == version) ≡ true = ap (λ (n : ℕ). n == version) (sym n) ∙ eq-eqb version version refl in
        absurd (false≢true (sym other ∙ ap (λ (c : Bool). c && (row.version == version)) b ∙ m))

-- a manifest more in the map
pub puts_manifest : (m n : BTreeMap (List ℕ × ℕ) (List Entry)) (id : List ℕ) (version : ℕ) (manifest : List Entry) → Updates key_cmp m n (id, version) (Some manifest) → PutsManifest m n id version manifest
puts_manifest m n id version manifest updates = record {
  here = ap (λ (o : Option (List Entry)). unwrap_or o []) updates.1;
  kept = ap (λ (o : Option (List Entry)). is_some o) updates.1;
  others = λ row other. ap (λ (o : Option (List Entry)). unwrap_or o []) (updates.2 (row.package, row.version) (key_apart id version row other));
}

-- a job begins
pub begun_with : (f g : Find) (rows : Rows) (job : ℕ) (row : PkgRow) (manifest : List Entry) → row ≡ (held_of row.package row.version manifest).row → g row.package row.version ≡ manifest → state_with g rows ≡ state_with f rows
    → state_with g (after (Opened job row.package row.version row.entries row.size row.hash) rows) ≡ changed (Begun job row.package row.version manifest) (state_with f rows)
begun_with f g rows job row manifest is_row here same =
    state_same _ _
    (ap (λ (s : State). s.versions) same)
    (map-append (job_held_with g) rows.jobs ((job, row) ∷ [])
    ∙ ap (λ (js : List (ℕ × Held)). js ++ (job, held_with g row) ∷ []) (ap (λ (s : State). s.jobs) same)
    ∙ ap (λ (m : List Entry). let j : ℕ × Held = (job, record { row = row; manifest = m }) in map (job_held_with f) rows.jobs ++ j ∷ []) here
    ∙ ap (λ (r : PkgRow). let j : ℕ × Held = (job, record { row = r; manifest = manifest }) in map (job_held_with f) rows.jobs ++ j ∷ []) is_row)
    refl
    refl

-- a job is finished
held_put : (f : Find) (row : PkgRow) (rows : List PkgRow) → map (held_with f) (with_row row rows) ≡ with_held (held_with f row) (map (held_with f) rows)
held_put f row [] = refl
held_put f row (r ∷ rows) =
    sym (over_cond (λ (l : List PkgRow). map (held_with f) l) (is_before row r) (row ∷ r ∷ rows) (r ∷ with_row row rows))
    ∙ ap (λ (l : List Held). cond (is_before row r) (held_with f row ∷ held_with f r ∷ map (held_with f) rows) (held_with f r ∷ l)) (held_put f row rows)

done_put : (f : Find) (o : Option (ℕ × PkgRow)) (rows : List PkgRow) → map (held_with f) (with_done (option_map (λ (u : ℕ × PkgRow). u.1) o) rows) ≡ with_held_done (option_map (λ (u : ℕ × Held). u.1) (option_map (job_held_with f) o)) (map (held_with f) rows)
done_put f None rows = refl
done_put f (Some job) rows = held_put f job.1 rows

pub finished_with : (f : Find) (rows : Rows) (job : ℕ) → state_with f (after (Done job) rows) ≡ changed (Finished job) (state_with f rows)
finished_with f rows job =
    state_same _ _
    (done_put f (find (λ (u : ℕ × PkgRow). u.0 == job) rows.jobs) rows.versions
    ∙ ap (λ (o : Option (ℕ × Held)). with_held_done (option_map (λ (u : ℕ × Held). u.1) o) (map (held_with f) rows.versions)) (sym (find_map (job_held_with f) (λ (u : ℕ × PkgRow). u.0 == job) (λ (u : ℕ × Held). u.0 == job) (λ u. refl) rows.jobs)))
    (sym (filter_map (job_held_with f) (λ (u : ℕ × PkgRow). not (u.0 == job)) (λ (u : ℕ × Held). not (u.0 == job)) (λ u. refl) rows.jobs))
    refl
    refl

-- the told rows of a state in which a job begins
pub told_begun : (s : State) (job : ℕ) (id : List ℕ) (version : ℕ) (manifest : List Entry) (told : JobRow) (versions : List VersionRow) (jobs : List JobRow) (room more : ℕ)
    → AreTold s versions jobs room → told ≡ job_row (job, held_of id version manifest) → length versions + length jobs + 1 ≤ more → AreTold (changed (Begun job id version manifest) s) versions (jobs ++ told ∷ []) more
told_begun s job id version manifest told versions jobs room more old is enough = record {
  versions_told = old.versions_told;
  jobs_told = ap (λ (js : List JobRow). js ++ told ∷ []) old.jobs_told
      ∙ ap (λ (j : JobRow). job_rows s ++ j ∷ []) is
      ∙ sym (map-append job_row s.jobs ((job, held_of id version manifest) ∷ []));
  enough = omega (arith, length-append jobs (told ∷ []));
}

-- the told rows of a state in which a job is finished
told_put : (h : Held) (hs : List Held) → map version_row (with_held h hs) ≡ with_told (version_row h) (map version_row hs)
told_put h [] = refl
told_put h (v ∷ vs) =
    sym (over_cond (λ (l : List Held). map version_row l) (is_before h.row v.row) (h ∷ v ∷ vs) (v ∷ with_held h vs))
    ∙ ap (λ (l : List VersionRow). cond (is_before h.row v.row) (version_row h ∷ version_row v ∷ map version_row vs) (version_row v ∷ l)) (told_put h vs)

told_done : (o : Option (ℕ × Held)) (hs : List Held) → map version_row (with_held_done (option_map (λ (u : ℕ × Held). u.1) o) hs) ≡ with_told_done (option_map job_row o) (map version_row hs)
told_done None hs = refl
told_done (Some job) hs = told_put job.1 hs

told_length : (row : VersionRow) (rows : List VersionRow) → length (with_told row rows) ≡ length rows + 1
told_length row [] = refl
told_length row (r ∷ rows) = by (told_before row r) (told_length row rows)
  where
    by : (b : Bool) → length (with_told row rows) ≡ length rows + 1 → length (cond b (row ∷ r ∷ rows) (r ∷ with_told row rows)) ≡ length (r ∷ rows) + 1
    by true rest = omega arith
    by false rest = omega arith

-- one fewer where one was found
abbrev found_count : {A : Type 0} → Option A → ℕ
found_count None = 0
found_count (Some x) = 1

done_length : (o : Option JobRow) (rows : List VersionRow) → length (with_told_done o rows) ≡ length rows + found_count o
done_length None rows = omega arith
done_length (Some job) rows = told_length (finished_row job) rows

abbrev is_job : ℕ → JobRow → Bool
is_job job row = row.job == job

left_length : (job : ℕ) (jobs : List JobRow) → length (filter (λ (row : JobRow). not (is_job job row)) jobs) ≤ length jobs
left_length job [] = omega arith
left_length job (j ∷ jobs) = by (is_job job j) (left_length job jobs)
  where
    by : (b : Bool) → length (filter (λ (row : JobRow). not (is_job job row)) jobs) ≤ length jobs → length (cond (not b) (j ∷ filter (λ (row : JobRow). not (is_job job row)) jobs) (filter (λ (row : JobRow). not (is_job job row)) jobs)) ≤ length (j ∷ jobs)
    by true rest = omega arith
    by false rest = omega arith

pub taken_length : (job : ℕ) (jobs : List JobRow) → length (filter (λ (row : JobRow). not (is_job job row)) jobs) + found_count (find (is_job job) jobs) ≤ length jobs
taken_length job [] = omega arith
taken_length job (j ∷ jobs) = by (is_job job j) (taken_length job jobs) (left_length job jobs)
  where
    by : (b : Bool) → length (filter (λ (row : JobRow). not (is_job job row)) jobs) + found_count (find (is_job job) jobs) ≤ length jobs → length (filter (λ (row : JobRow). not (is_job job row)) jobs) ≤ length jobs
        → length (cond (not b) (j ∷ filter (λ (row : JobRow). not (is_job job row)) jobs) (filter (λ (row : JobRow). not (is_job job row)) jobs)) + found_count (cond b (Some j) (find (is_job job) jobs)) ≤ length (j ∷ jobs)
    by true rest left = omega arith
    by false rest left = omega arith

pub some_counts : {A : Type 0} (o : Option A) → IsSome o → found_count o ≡ 1
some_counts None is = absurd (false≢true is)
some_counts (Some x) is = refl

pub told_finished : (s : State) (job : ℕ) (versions : List VersionRow) (jobs : List JobRow) (room more : ℕ) (done : Option JobRow) → AreTold s versions jobs room → done ≡ find (is_job job) jobs → room ≤ more
    → AreTold (changed (Finished job) s) (with_told_done done versions) (filter (λ (row : JobRow). not (is_job job row)) jobs) more
told_finished s job versions jobs room more done old is grows = record {
  versions_told = ap (λ (o : Option JobRow). with_told_done o versions) (is ∙ ap (λ (js : List JobRow). find (is_job job) js) old.jobs_told ∙ find_map job_row (λ (u : ℕ × Held). u.0 == job) (is_job job) (λ u. refl) s.jobs)
      ∙ ap (λ (vs : List VersionRow). with_told_done (option_map job_row (find (λ (u : ℕ × Held). u.0 == job) s.jobs)) vs) old.versions_told
      ∙ sym (told_done (find (λ (u : ℕ × Held). u.0 == job) s.jobs) s.versions);
  jobs_told = ap (λ (js : List JobRow). filter (λ (row : JobRow). not (is_job job row)) js) old.jobs_told
      ∙ filter_map job_row (λ (u : ℕ × Held). not (u.0 == job)) (λ (row : JobRow). not (is_job job row)) (λ u. refl) s.jobs;
  enough =
      let count : found_count done ≡ found_count (find (is_job job) jobs) = ap (λ (o : Option JobRow). found_count o) is in
      omega (arith, done_length done versions, taken_length job jobs, count, old.enough);
}

-- a result that is one
pub on_ok : {T E : Type 0} {P : Type 0} (r : Result T E) → IsOk r → OnOk r P → P
on_ok (Ok x) is p = p
on_ok (Err e) is p = absurd (false≢true is)

-- the told rows of what rows and manifests make
pub told_of : (f : Find) (rows : Rows) (versions : List VersionRow) (jobs : List JobRow) (room : ℕ)
    → versions ≡ map (λ row. version_row (held_with f row)) rows.versions → jobs ≡ map (λ job. job_row (job_held_with f job)) rows.jobs → length rows.versions + length rows.jobs ≤ room
    → AreTold (state_with f rows) versions jobs room
told_of f rows versions jobs room v j enough = record {
  versions_told = v ∙ sym (map_map (held_with f) version_row rows.versions);
  jobs_told = j ∙ sym (map_map (job_held_with f) job_row rows.jobs);
  enough = omega (arith, ap length v, ap length j, length-map rows.versions (λ row. version_row (held_with f row)), length-map rows.jobs (λ job. job_row (job_held_with f job)));
}

-- a fact that holds is one after an Err
pub after_err : {T E : Type 0} {P : Type 0} (r : Result T E) → P → OnErr r P
after_err (Ok x) p = tt
after_err (Err e) p = p

-- the same told rows, with more room
pub told_grown : (s t : State) (versions vs : List VersionRow) (jobs js : List JobRow) (room more : ℕ) → AreTold s versions jobs room → t ≡ s → vs ≡ versions → js ≡ jobs → room ≤ more → AreTold t vs js more
told_grown s t versions vs jobs js room more old is v j grows = record {
  versions_told = v ∙ old.versions_told ∙ ap version_rows (sym is);
  jobs_told = j ∙ old.jobs_told ∙ ap job_rows (sym is);
  enough = omega (arith, ap length v, ap length j, old.enough);
}

-- the told row of a job that begins
pub told_job_is : (job bytes : ℕ) (row : PkgRow) (manifest : List Entry) → row ≡ (held_of row.package row.version manifest).row → bytes ≡ bytes_of manifest
    → (let told : JobRow = record { job = job; «package» = row.package; version = row.version; entries = row.entries; bytes = bytes; hash = row.hash } in told) ≡ job_row (job, held_of row.package row.version manifest)
told_job_is job bytes row manifest is_row is_bytes =
    ap (λ (r : PkgRow). let told : JobRow = record { job = job; «package» = row.package; version = row.version; entries = r.entries; bytes = bytes; hash = r.hash } in told) is_row
    ∙ ap (λ (b : ℕ). let told : JobRow = record { job = job; «package» = row.package; version = row.version; entries = length manifest; bytes = b; hash = record { 0 = sha256 (spelling manifest) } } in told) is_bytes

-- two maps with the same manifests
pub same_manifests : (f g : Find) (rows : Rows) → ((id : List ℕ) (version : ℕ) → g id version ≡ f id version) → state_with g rows ≡ state_with f rows
same_manifests f g rows same =
    let e : g ≡ f = λ i id version. same id version i in
    ap (λ (h : Find). state_with h rows) e

-- a job is given up
pub dropped_with : (f : Find) (rows : Rows) (job : ℕ) → state_with f (after (DroppedRecord job) rows) ≡ changed (Dropped job) (state_with f rows)
dropped_with f rows job =
    state_same _ _
    refl
    (sym (filter_map (job_held_with f) (λ (u : ℕ × PkgRow). not (u.0 == job)) (λ (u : ℕ × Held). not (u.0 == job)) (λ u. refl) rows.jobs))
    refl
    refl

-- a version is removed
pub removed_with : (f : Find) (rows : Rows) (id : List ℕ) (version : ℕ) → state_with f (after (RemovedRecord id version) rows) ≡ changed (Removed id version) (state_with f rows)
removed_with f rows id version =
    state_same _ _
    (sym (filter_map (held_with f) (λ (r : PkgRow). not (is_of id version r)) (λ (h : Held). not (is_of id version h.row)) (λ r. refl) rows.versions))
    refl
    refl
    refl

-- a filter leaves no more
fewer : {A : Type 0} (p : A → Bool) (xs : List A) → length (filter p xs) ≤ length xs
fewer p [] = omega arith
fewer p (x ∷ xs) = by (p x) (fewer p xs)
  where
    by : (b : Bool) → length (filter p xs) ≤ length xs → length (cond b (x ∷ filter p xs) (filter p xs)) ≤ length (x ∷ xs)
    by true rest = omega arith
    by false rest = omega arith

pub told_dropped : (s : State) (job : ℕ) (versions : List VersionRow) (jobs : List JobRow) (room more : ℕ) → AreTold s versions jobs room → room ≤ more
    → AreTold (changed (Dropped job) s) versions (filter (λ (row : JobRow). not (is_job job row)) jobs) more
told_dropped s job versions jobs room more old grows = record {
  versions_told = old.versions_told;
  jobs_told = ap (λ (js : List JobRow). filter (λ (row : JobRow). not (is_job job row)) js) old.jobs_told
      ∙ filter_map job_row (λ (u : ℕ × Held). not (u.0 == job)) (λ (row : JobRow). not (is_job job row)) (λ u. refl) s.jobs;
  enough = omega (arith, fewer (λ (row : JobRow). not (is_job job row)) jobs, old.enough);
}

pub told_removed : (s : State) (id : List ℕ) (version : ℕ) (versions : List VersionRow) (jobs : List JobRow) (room more : ℕ) → AreTold s versions jobs room → room ≤ more
    → AreTold (changed (Removed id version) s) (without_told id version versions) jobs more
told_removed s id version versions jobs room more old grows = record {
  versions_told = ap (λ (vs : List VersionRow). without_told id version vs) old.versions_told
      ∙ filter_map version_row (λ (h : Held). not (is_of id version h.row)) (λ (row : VersionRow). not (bytes_eq row.package id && row.version == version)) (λ h. refl) s.versions;
  jobs_told = old.jobs_told;
  enough = omega (arith, fewer (λ (row : VersionRow). not (bytes_eq row.package id && row.version == version)) versions, old.enough);
}

-- the room for what is to begin, where there is no less of it
pub memory_kept : (o : Option Held) (r v j vr jr r' v' j' vr' jr' : ℕ) → r ≤ r' → v' + j' ≤ v + j → j' ≤ j → vr ≤ vr' → jr ≤ jr' → IfSome o (λ _. HasMemory r v j vr jr) → IfSome o (λ _. HasMemory r' v' j' vr' jr')
memory_kept None r v j vr jr r' v' j' vr' jr' rows sum few versions jobs m = tt
memory_kept (Some x) r v j vr jr r' v' j' vr' jr' rows sum few versions jobs m = record {
  in_rows = omega (arith, m.in_rows);
  in_versions = omega (arith, m.in_versions);
  in_jobs = omega (arith, m.in_jobs);
}

-- what is kept in memory, by its two parts
pub memory_same : (a b : InMemory) → a.state ≡ b.state → a.taken ≡ b.taken → a ≡ b
memory_same a b s t = λ i. record { state = s i; taken = t i }

-- the job of a version begins whose manifest is in the map
pub taken_begun : (f : Find) (rows : Rows) (job : ℕ) (row : PkgRow) (key : List ℕ × ℕ) → row ≡ (taken_with f key).row
    → state_with f (after (Opened job row.package row.version row.entries row.size row.hash) rows) ≡ changed (Begun job key.0 key.1 (f key.0 key.1)) (state_with f rows)
taken_begun f rows job row key is =
    subst (λ (r : PkgRow). state_with f (after (Opened job r.package r.version r.entries r.size r.hash) rows) ≡ changed (Begun job key.0 key.1 (f key.0 key.1)) (state_with f rows)) (sym is)
    (begun_with f f rows job (taken_with f key).row (f key.0 key.1) refl refl refl)

-- its told row
pub told_taken : (f : Find) (job : ℕ) (row : PkgRow) (key : List ℕ × ℕ) → row ≡ (taken_with f key).row → job_row (job_held_with f (job, row)) ≡ job_row (job, taken_with f key)
told_taken f job row key is = ap (λ (r : PkgRow). job_row (job_held_with f (job, r))) is

-- the told rows when a job is finished, together and those of jobs
pub finished_fewer : (job : ℕ) (versions vs : List VersionRow) (jobs js : List JobRow) (done : Option JobRow) → done ≡ find (is_job job) jobs → vs ≡ with_told_done done versions → js ≡ filter (λ (row : JobRow). not (is_job job row)) jobs
    → (length vs + length js ≤ length versions + length jobs) × (length js ≤ length jobs)
finished_fewer job versions vs jobs js done is v j =
    let count : found_count done ≡ found_count (find (is_job job) jobs) = ap (λ (o : Option JobRow). found_count o) is in
    (omega (arith, done_length done versions, taken_length job jobs, count, ap length v, ap length j), omega (arith, left_length job jobs, ap length j))

-- when a job is given up, and when a version is removed
pub dropped_fewer : (job : ℕ) (jobs js : List JobRow) → js ≡ filter (λ (row : JobRow). not (is_job job row)) jobs → length js ≤ length jobs
dropped_fewer job jobs js j = omega (arith, left_length job jobs, ap length j)

pub removed_fewer : (id : List ℕ) (version : ℕ) (versions vs : List VersionRow) → vs ≡ without_told id version versions → length vs ≤ length versions
removed_fewer id version versions vs v = omega (arith, fewer (λ (row : VersionRow). not (bytes_eq row.package id && row.version == version)) versions, ap length v)

-- the rows take a change where the state's do
pub change_free : (f : Find) (rows : Rows) (s : State) (change : Change) → state_with f rows ≡ s → fault_of (rows_of s) change ≡ None → fault_of rows change ≡ None
change_free f rows s change is free =
    subst (λ (r : Rows). fault_of r change ≡ None) (rows_back f rows) (subst (λ (s : State). fault_of (rows_of s) change ≡ None) (sym is) free)

-- what is taken, with the manifest of the map
pub taken_is : (f : Find) (rows : Rows) (taken : Option (List ℕ × ℕ)) (m : InMemory) (key : List ℕ × ℕ) → kept_with f rows taken ≡ m → taken ≡ Some key → m.taken ≡ Some (taken_with f key)
taken_is f rows taken m key view is = sym (ap (λ (m : InMemory). m.taken) view) ∙ ap (λ (o : Option (List ℕ × ℕ)). option_map (taken_with f) o) is

-- its row, by the size and the hash of its encoded manifest
pub taken_row : (f : Find) (key : List ℕ × ℕ) (row : PkgRow) (size : ℕ) (hash : Hash) → row ≡ record { «package» = key.0; version = key.1; entries = length (f key.0 key.1); size = size; hash = hash } → size ≡ (taken_with f key).row.size → hash ≡ (taken_with f key).row.hash
    → row ≡ (taken_with f key).row
taken_row f key row size hash is s h = is ∙ λ i. record { «package» = key.0; version = key.1; entries = length (f key.0 key.1); size = s i; hash = h i }

-- what a map has is its manifest
pub manifest_there : (o : Option (List Entry)) → is_some o ≡ true → o ≡ Some (unwrap_or o [])
manifest_there None there = absurd (false≢true there)
manifest_there (Some manifest) there = refl
