-- The room that is left behind the record of a change.
use Rattle.std.proofs.Common.{◌≡◌, ℕ, ◌+◌, ◌-◌, ◌*◌, ◌≤◌, ◌^◌, Bool, true, false, true≢false, List, [], ◌∷◌, ◌++◌, length, refl, ◌∙◌, ap, arith, length-append}
use Rattle.std.specs.Prelude.{Option, None, Some, is_some, cond, find, filter, not, option_map, ◌==◌, ◌||◌}
use Rattle.std.specs.List.{list_any}
use Rattle.std.specs.Int.{w32, w64, to_le_bytes}
use Rattle.std.proofs.lemmas.Bool.{false≢true, le-leb, leb-true}
use Rattle.std.proofs.lemmas.List.{length-map}
use Rattle.sha2.specs.Sha256.{sha256}
use Rattle.sha2.proofs.Facts256.{length-sha256}
use Rattle.cm_pkglib.specs.declared.row.PkgRow.{PkgRow}
use Rattle.cm_pkglib.specs.declared.change.Change.TheVariants.{Done, Dropped, Removed}
use Rattle.cm_pkglib.specs.declared.fault.RowFault.TheVariants.{NoJob, NoVersion}
use Rattle.cm_pkglib.specs.Changes.{spelled, IsChange}
use Rattle.cm_pkglib.specs.Rows.{Rows, is_of, has_version, is_before, opened_fault, fault_of, when, is_opened, row_of_job, with_row, with_done, after}
use Rattle.cm_pkglib.proofs.Steps.{may_open, when_true}
use Rattle.cm_tree.specs.declared.entry.Entry.{Entry}
use Rattle.cm_tree.specs.Manifests.{spelling}
use Rattle.cm_state.specs.State.{State, held_of, rows_of}
use Rattle.cm_state.specs.Changes.{StateChange, Begun, Finished, Dropped as DroppedJob, Removed as RemovedVersion, record_of, changed}
use Rattle.cm_state.specs.Look.{has_room}
use Rattle.cm_state.proofs.ImagesOpen.{rows_changed}
use Rattle.cm_state.proofs.Loaded.{job_of}
use Rattle.cm_state.proofs.Soundness.{id_long}

-- the lengths of records
length_of : (n : ℕ) (a b c d e f : List ℕ) → length (n ∷ a ++ b ++ c ++ d ++ e ++ f) ≡ length a + length b + length c + length d + length e + length f + 1
length_of n a b c d e f =
    omega (arith, length-append (n ∷ a ++ b ++ c ++ d ++ e) f, length-append (n ∷ a ++ b ++ c ++ d) e, length-append (n ∷ a ++ b ++ c) d, length-append (n ∷ a ++ b) c, length-append (n ∷ a) b)

pub begun_length : (job : ℕ) (id : List ℕ) (version : ℕ) (manifest : List Entry) → length id ≡ 8 → length (spelled (record_of (Begun job id version manifest))) ≡ 61
begun_length job id version manifest long =
    length_of 1 (to_le_bytes w64 job) id (to_le_bytes w32 version) (to_le_bytes w32 (length manifest)) (to_le_bytes w32 (length (spelling manifest))) (sha256 (spelling manifest))
    ∙ sum (length id) (length (sha256 (spelling manifest))) long (length-sha256 (spelling manifest))
  where
    sum : (a b : ℕ) → a ≡ 8 → b ≡ 32 → 8 + a + 4 + 4 + 4 + b + 1 ≡ 61
    sum a b e f = omega arith

removed_length : (id : List ℕ) (version : ℕ) → length id ≡ 8 → length (spelled (Removed id version)) ≡ 13
removed_length id version long = omega (arith, long, length-append (4 ∷ id) (to_le_bytes w32 version))

-- a job that begins
pub begun_room : (s : State) (end job : ℕ) (id : List ℕ) (version : ℕ) (manifest : List Entry) → opened_fault (rows_of s) job id version (length manifest) ≡ None → end ≤ 2 ^ 40 - 1048576 → length (spelled (record_of (Begun job id version manifest))) ≡ 61
    → has_room (end + 5 + length (spelled (record_of (Begun job id version manifest)))) (rows_of (changed (Begun job id version manifest) s)) ≡ true
begun_room s end job id version manifest free within long =
    let may = may_open (rows_of s) job id version (length manifest) free in
    le-leb _ _ (omega (arith, long, may.few_versions, length-map (s.jobs ++ (job, held_of id version manifest) ∷ []) job_of, length-map s.jobs job_of, length-append s.jobs ((job, held_of id version manifest) ∷ [])))

with_length : (row : PkgRow) (rows : List PkgRow) → length (with_row row rows) ≡ length rows + 1
with_length row [] = refl
with_length row (r ∷ rows) = by (is_before row r) (with_length row rows)
  where
    by : (b : Bool) → length (with_row row rows) ≡ length rows + 1 → length (cond b (row ∷ r ∷ rows) (r ∷ with_row row rows)) ≡ length (r ∷ rows) + 1
    by true rest = omega arith
    by false rest = omega arith

left_length : {A : Type 0} (p : A → Bool) (xs : List A) → length (filter (λ x. not (p x)) xs) ≤ length xs
left_length p [] = omega arith
left_length p (x ∷ xs) = by (p x) (left_length p xs)
  where
    by : (b : Bool) → length (filter (λ x. not (p x)) xs) ≤ length xs → length (cond (not b) (x ∷ filter (λ x. not (p x)) xs) (filter (λ x. not (p x)) xs)) ≤ length (x ∷ xs)
    by true rest = omega arith
    by false rest = omega arith

fewer : {A : Type 0} (p : A → Bool) (xs : List A) (y : A) → find p xs ≡ Some y → length (filter (λ x. not (p x)) xs) + 1 ≤ length xs
fewer p [] y is = absurd (cc)
fewer p (x ∷ xs) y is = by (p x) is (fewer p xs y) (left_length p xs)
  where
    by : (b : Bool) → cond b (Some x) (find p xs) ≡ Some y → (find p xs ≡ Some y → length (filter (λ x. not (p x)) xs) + 1 ≤ length xs) → length (filter (λ x. not (p x)) xs) ≤ length xs
        → length (cond (not b) (x ∷ filter (λ x. not (p x)) xs) (filter (λ x. not (p x)) xs)) + 1 ≤ length (x ∷ xs)
    by true e rest left = omega arith
    by false e rest left = let r = rest e in omega (arith, r)

fewer_any : {A : Type 0} (p : A → Bool) (xs : List A) → list_any p xs ≡ true → length (filter (λ x. not (p x)) xs) + 1 ≤ length xs
fewer_any p [] is = absurd (false≢true is)
fewer_any p (x ∷ xs) is = by (p x) is (fewer_any p xs) (left_length p xs)
  where
    by : (b : Bool) → (b || list_any p xs) ≡ true → (list_any p xs ≡ true → length (filter (λ x. not (p x)) xs) + 1 ≤ length xs) → length (filter (λ x. not (p x)) xs) ≤ length xs
        → length (cond (not b) (x ∷ filter (λ x. not (p x)) xs) (filter (λ x. not (p x)) xs)) + 1 ≤ length (x ∷ xs)
    by true e rest left = omega arith
    by false e rest left = let r = rest e in omega (arith, r)

-- the job that is not refused is there
found_job : (job : ℕ) (jobs : List (ℕ × PkgRow)) → when (not (is_some (row_of_job job jobs))) NoJob ≡ None → (u : ℕ × PkgRow) × (find (λ (u : ℕ × PkgRow). u.0 == job) jobs ≡ Some u)
found_job job jobs free = by (find (λ (u : ℕ × PkgRow). u.0 == job) jobs) refl free
  where
    by : (o : Option (ℕ × PkgRow)) → find (λ (u : ℕ × PkgRow). u.0 == job) jobs ≡ o → when (not (is_some (option_map (λ (u : ℕ × PkgRow). u.1) o))) NoJob ≡ None → (u : ℕ × PkgRow) × (find (λ (u : ℕ × PkgRow). u.0 == job) jobs ≡ Some u)
    by None is none = absurd (cc)
    by (Some u) is none = (u, is)

finished_room : (rows : Rows) (job end : ℕ) → fault_of rows (Done job) ≡ None → has_room end rows ≡ true → has_room (end + 14) (after (Done job) rows) ≡ true
finished_room rows job end free room =
    let le = leb-true (end + 18 * length rows.versions + 36 * length rows.jobs) (2 ^ 40 - 1) room in
    let u = found_job job rows.jobs free in
    let versions : with_done (row_of_job job rows.jobs) rows.versions ≡ with_row u.0.1 rows.versions = ap (λ (o : Option (ℕ × PkgRow)). with_done (option_map (λ (u : ℕ × PkgRow). u.1) o) rows.versions) u.1 in
    le-leb _ _ (omega (arith, le, ap length versions, with_length u.0.1 rows.versions, fewer (λ (u : ℕ × PkgRow). u.0 == job) rows.jobs u.0 u.1))

dropped_room : (rows : Rows) (job end : ℕ) → fault_of rows (Dropped job) ≡ None → has_room end rows ≡ true → has_room (end + 14) (after (Dropped job) rows) ≡ true
dropped_room rows job end free room =
    let le = leb-true (end + 18 * length rows.versions + 36 * length rows.jobs) (2 ^ 40 - 1) room in
    let u = found_job job rows.jobs free in
    le-leb _ _ (omega (arith, le, fewer (λ (u : ℕ × PkgRow). u.0 == job) rows.jobs u.0 u.1))

removed_room : (rows : Rows) (id : List ℕ) (version end : ℕ) → fault_of rows (Removed id version) ≡ None → has_room end rows ≡ true → has_room (end + 18) (after (Removed id version) rows) ≡ true
removed_room rows id version end free room =
    let le = leb-true (end + 18 * length rows.versions + 36 * length rows.jobs) (2 ^ 40 - 1) room in
    le-leb _ _ (omega (arith, le, fewer_any (is_of id version) rows.versions (when_true (has_version id version rows) NoVersion free)))

-- a change other than that a job begins
pub ended_room : (s : State) (end : ℕ) (change : StateChange) → is_opened (record_of change) ≡ false → IsChange (record_of change) → fault_of (rows_of s) (record_of change) ≡ None → has_room end (rows_of s) ≡ true
    → has_room (end + 5 + length (spelled (record_of change))) (rows_of (changed change s)) ≡ true
ended_room s end (Begun job id version manifest) ends form free room = absurd (true≢false ends)
ended_room s end (Finished job) ends form free room =
    let sum : end + 5 + length (spelled (Done job)) ≡ end + 14 = omega arith in
    ap (λ (r : Rows). has_room (end + 5 + length (spelled (Done job))) r) (rows_changed s (Finished job)) ∙ ap (λ (n : ℕ). has_room n (after (Done job) (rows_of s))) sum ∙ finished_room (rows_of s) job end free room
ended_room s end (DroppedJob job) ends form free room =
    let sum : end + 5 + length (spelled (Dropped job)) ≡ end + 14 = omega arith in
    ap (λ (r : Rows). has_room (end + 5 + length (spelled (Dropped job))) r) (rows_changed s (DroppedJob job)) ∙ ap (λ (n : ℕ). has_room n (after (Dropped job) (rows_of s))) sum ∙ dropped_room (rows_of s) job end free room
ended_room s end (RemovedVersion id version) ends form free room =
    let long = removed_length id version (id_long id form.0) in
    let sum : end + 5 + length (spelled (Removed id version)) ≡ end + 18 = omega (arith, long) in
    ap (λ (r : Rows). has_room (end + 5 + length (spelled (Removed id version))) r) (rows_changed s (RemovedVersion id version)) ∙ ap (λ (n : ℕ). has_room n (after (Removed id version) (rows_of s))) sum ∙ removed_room (rows_of s) id version end free room
