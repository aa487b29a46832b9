-- What jobs hold, and how they end.
use Rattle.std.proofs.Common.{◌≡◌, inl, inr, ℕ, zero, suc, ◌<◌, ◌==◌, Bool, true, false, cond, List, [], ◌∷◌, refl, sym, ◌∙◌, ap, subst, arith}
use Rattle.std.specs.Prelude.{◌≢◌, ◌&&◌, not, is_some, if◌then◌else◌, find, map, Option, None, Some, option_map, slice_get, Contains}
use Rattle.std.specs.Option.{option_or}
use Rattle.std.specs.List.{AllByRecursion}
use Rattle.std.specs.Str.{bytes_eq}
use Rattle.std.proofs.lemmas.Bool.{eq-eqb, ne_eqb, false≢true}
use Rattle.std.proofs.lemmas.List.Folds.{find-append}
use Rattle.std.proofs.lemmas.Option.{none-some, same_Some}
use Rattle.cm_base.specs.declared.hash.Hash.{Hash}
use Rattle.cm_pkglib.specs.declared.change.Change.TheVariants.{Done}
use Rattle.cm_pkglib.specs.declared.counts.Seal.{Seal}
use Rattle.cm_pkglib.specs.declared.fault.RowFault.{RowFault}
use Rattle.cm_pkglib.specs.declared.fault.RowFault.TheVariants.{NoJob as NoRow}
use Rattle.cm_pkglib.specs.declared.row.PkgRow.{PkgRow}
use Rattle.cm_pkglib.specs.Rows.{fault_of, when}
use Rattle.cm_filelib.specs.declared.writing.Writing.{Writing}
use Rattle.cm_filelib.specs.Writings.{hash_of}
use Rattle.cm_tree.specs.declared.entry.Entry.{Entry}
use Rattle.cm_state.specs.Changes.{Begun, Finished, Dropped, changed}
use Rattle.cm_state.specs.Faults.{of_row_fault}
use Rattle.cm_state.specs.Sound.{IsSound}
use Rattle.cm_state.specs.State.{Held, State, rows_of, held_of, held_by_job}
use Rattle.cm_state.specs.declared.fault.LibFault.TheVariants.{NoJob, NotStored}
use Rattle.cm_state.proofs.Committed.{all_through}
use Rattle.cm_state.proofs.Lists.{find_map, find_none, find_last}
use Rattle.cm_state.proofs.Members.{first_member, later_member, each_member, at_member}
use Rattle.cm_contents.specs.Seals.{has_size, is_stored, job_manifest, first_fault, end_fault, unstored}
use Rattle.cm_library.specs.Filing.{KeepsRows}
use Rattle.cm_library.specs.Kept.{Seen}
use Rattle.cm_library.specs.Started.{started_by, without_file, with_file, holder_of, unstarted, file_fault}
use Rattle.cm_contents.specs.Wants.{HasOneSize, HaveOneSize}
use Rattle.cm_intake.specs.Filling.{HoldsSame, SealsWanted}

pub hash_is : (a b : Hash) → a.0 ≡ b.0 → a ≡ b
hash_is a b is = ap (λ (bytes : List ℕ). let h : Hash = record { 0 = bytes } in h) is

pub member_at : {A : Type 0} (xs : List A) (k : ℕ) (x : A) → slice_get xs k ≡ Some x → Contains xs x
member_at [] k x is = absurd (none-some x is)
member_at (y ∷ ys) zero x is = subst (λ z. Contains (y ∷ ys) z) (same_Some y x is) (first_member y ys)
member_at (y ∷ ys) (suc k) x is = later_member y ys x (member_at ys k x is)

pub rows_then : {D : Type 0} (a b c : Seen D) → KeepsRows a b → KeepsRows b c → KeepsRows a c
rows_then a b c first second = record {
  start = second.start ∙ first.start;
  state = second.state ∙ first.state;
  end = second.end ∙ first.end;
  pending = second.pending ∙ first.pending;
}

-- no file that is left is of the job
none_of_job : (job : ℕ) (started : List (ℕ × Writing)) → AllByRecursion (λ (file : ℕ × Writing). (file.0 == job) ≡ false) (without_file job started)
none_of_job job [] = tt
none_of_job job (file ∷ rest) = by (file.0 == job) refl (none_of_job job rest)
  where
    by : (b : Bool) → (file.0 == job) ≡ b → AllByRecursion (λ (other : ℕ × Writing). (other.0 == job) ≡ false) (without_file job rest)
        → AllByRecursion (λ (other : ℕ × Writing). (other.0 == job) ≡ false) (cond (not b) (file ∷ without_file job rest) (without_file job rest))
    by true is all = all
    by false is all = (is, all)

-- the file that a job has started
pub started_with : (job : ℕ) (writing : Writing) (started : List (ℕ × Writing)) → started_by job (with_file job writing started) ≡ Some writing
started_with job writing started =
    ap (λ (o : Option (ℕ × Writing)). option_map (λ (file : ℕ × Writing). file.1) o)
    (find_last (λ (file : ℕ × Writing). file.0 == job) (without_file job started) (job, writing) (none_of_job job started) (eq-eqb job job refl))

abbrev IsOthers : ℕ → Hash → ℕ × Writing → Bool
IsOthers job hash file = not (file.0 == job) && bytes_eq (hash_of file.1).0 hash.0

find_without : (job : ℕ) (hash : Hash) (started : List (ℕ × Writing)) → find (IsOthers job hash) (without_file job started) ≡ find (IsOthers job hash) started
find_without job hash [] = refl
find_without job hash (file ∷ rest) = by (file.0 == job) refl (find_without job hash rest)
  where
    by : (b : Bool) → (file.0 == job) ≡ b → find (IsOthers job hash) (without_file job rest) ≡ find (IsOthers job hash) rest
        → find (IsOthers job hash) (cond (not b) (file ∷ without_file job rest) (without_file job rest)) ≡ cond (IsOthers job hash file) (Some file) (find (IsOthers job hash) rest)
    by true is same = same ∙ ap (λ (b : Bool). cond (not b && bytes_eq (hash_of file.1).0 hash.0) (Some file) (find (IsOthers job hash) rest)) (sym is)
    by false is same = ap (λ (o : Option (ℕ × Writing)). cond (IsOthers job hash file) (Some file) o) same

-- the others hold what they held
pub held_without : (job : ℕ) (started : List (ℕ × Writing)) → HoldsSame job started (without_file job started)
held_without job started hash = ap (λ (o : Option (ℕ × Writing)). option_map (λ (file : ℕ × Writing). file.0) o) (find_without job hash started)

or_none : {A : Type 0} (o : Option A) → option_or o None ≡ o
or_none None = refl
or_none (Some x) = refl

pub held_with : (job : ℕ) (writing : Writing) (started : List (ℕ × Writing)) → HoldsSame job started (with_file job writing started)
held_with job writing started hash =
    let own : ℕ × Writing = (job, writing) in
    let none : find (IsOthers job hash) (own ∷ []) ≡ None = ap (λ (b : Bool). cond (not b && bytes_eq (hash_of writing).0 hash.0) (Some own) None) (eq-eqb job job refl) in
    ap (λ (o : Option (ℕ × Writing)). option_map (λ (file : ℕ × Writing). file.0) o)
    (find-append (IsOthers job hash) (without_file job started) (own ∷ [])
    ∙ ap (λ (o : Option (ℕ × Writing)). option_or (find (IsOthers job hash) (without_file job started)) o) none
    ∙ or_none (find (IsOthers job hash) (without_file job started))
    ∙ find_without job hash started)

pub held_as : (job : ℕ) (old new left : List (ℕ × Writing)) → new ≡ left → HoldsSame job old left → HoldsSame job old new
held_as job old new left is held hash = ap (λ (s : List (ℕ × Writing)). holder_of job hash s) is ∙ held hash

-- a job may go on with its file
pub file_may : (s : State) (started : List (ℕ × Writing)) (job : ℕ) (writing : Writing) → is_some (held_by_job job s.jobs) ≡ true → started_by job started ≡ Some writing → file_fault s started job ≡ None
file_may s started job writing unfinished is =
    ap (λ (b : Bool). first_fault (if b then None else Some NoJob) (unstarted (started_by job started))) unfinished
    ∙ ap (λ (o : Option Writing). unstarted o) is

-- the rows let an unfinished job end
pub job_free : (s : State) (job : ℕ) → is_some (held_by_job job s.jobs) ≡ true → fault_of (rows_of s) (Done job) ≡ None
job_free s job unfinished =
    ap (λ (o : Option (ℕ × PkgRow)). when (not (is_some (option_map (λ (u : ℕ × PkgRow). u.1) o))) NoRow) (find_map row (λ (u : ℕ × Held). u.0 == job) (λ (u : ℕ × PkgRow). u.0 == job) (λ u. refl) s.jobs)
    ∙ by (find (λ (u : ℕ × Held). u.0 == job) s.jobs) unfinished
  where
    row : ℕ × Held → ℕ × PkgRow
    row u = (u.0, u.1.row)

    by : (o : Option (ℕ × Held)) → is_some (option_map (λ (u : ℕ × Held). u.1) o) ≡ true → when (not (is_some (option_map (λ (u : ℕ × PkgRow). u.1) (option_map row o)))) NoRow ≡ None
    by None is = absurd (false≢true is)
    by (Some u) is = refl

-- where its entries are stored nothing keeps it from that
pub free_end : (seals : Hash → Option Seal) (s : State) (job : ℕ) → is_some (held_by_job job s.jobs) ≡ true → AllByRecursion (λ (e : Entry). is_stored seals e ≡ true) (job_manifest job s) → end_fault seals s (Finished job) ≡ None
free_end seals s job unfinished stored =
    let manifest = job_manifest job s in
    let none = find_none (λ (e : Entry). not (is_stored seals e)) manifest (all_through (λ (e : Entry). is_stored seals e ≡ true) (λ (e : Entry). not (is_stored seals e) ≡ false) (λ e one. ap not one) manifest stored) in
    ap (λ (f : Option RowFault). first_fault (option_map of_row_fault f) (unstored seals s (Finished job))) (job_free s job unfinished)
    ∙ ap (λ (o : Option Entry). option_map NotStored (option_map (λ (e : Entry). e.hash) o)) none

-- nor from its being dropped
pub free_drop : (seals : Hash → Option Seal) (s : State) (job : ℕ) → is_some (held_by_job job s.jobs) ≡ true → end_fault seals s (Dropped job) ≡ None
free_drop seals s job unfinished = ap (λ (f : Option RowFault). first_fault (option_map of_row_fault f) None) (job_free s job unfinished)

unmapped : {A B : Type 0} (f : A → B) (P : B → Type 0) (xs : List A) → AllByRecursion P (map f xs) → AllByRecursion (λ x. P (f x)) xs
unmapped f P [] all = tt
unmapped f P (x ∷ xs) all = (all.0, unmapped f P xs all.1)

-- a job that has begun is unfinished, with its manifest
pub begun_held : (s : State) (job : ℕ) (id : List ℕ) (version : ℕ) (manifest : List Entry) → IsSound s → job ≡ s.next → held_by_job job (changed (Begun job id version manifest) s).jobs ≡ Some (held_of id version manifest)
begun_held s job id version manifest sound is =
    let below = unmapped (λ (u : ℕ × Held). (u.0, u.1.row)) (λ (u : ℕ × PkgRow). u.0 < s.next) s.jobs sound.below in
    ap (λ (o : Option (ℕ × Held)). option_map (λ (u : ℕ × Held). u.1) o)
    (find_last (λ (u : ℕ × Held). u.0 == job) s.jobs (job, held_of id version manifest)
    (all_through (λ (u : ℕ × Held). u.0 < s.next) (λ (u : ℕ × Held). (u.0 == job) ≡ false) (λ u lt. ne_eqb u.0 job (λ same. omega (arith, lt, same, is))) s.jobs below)
    (eq-eqb job job refl))

-- where each hash has one size, each entry is stored
size_stored : (seals : Option Seal) (seal : Seal) (size : ℕ) → seals ≡ Some seal → seal.size ≡ size → has_size size seals ≡ true
size_stored seals seal size is same = ap (λ (o : Option Seal). has_size size o) is ∙ eq-eqb seal.size size same

pub all_stored : (manifest : List Entry) (was seals : Hash → Option Seal) → HaveOneSize was manifest → SealsWanted manifest was seals → AllByRecursion (λ (e : Entry). seals e.hash ≢ None) manifest → AllByRecursion (λ (e : Entry). is_stored seals e ≡ true) manifest
all_stored manifest was seals one wanted sealed =
    each_member (λ (e : Entry). is_stored seals e ≡ true) manifest (λ e among.
    stored e (at_member (HasOneSize was manifest) manifest one e among) (at_member (λ (x : Entry). seals x.hash ≢ None) manifest sealed e among))
  where
    stored : (e : Entry) → HasOneSize was manifest e → seals e.hash ≢ None → is_stored seals e ≡ true
    stored e h some = elim (wanted e.hash) [
      | inl same ↦ elim h.sealed [
        | inl none ↦ absurd (some (same ∙ none))
        | inr is ↦ ap (λ (o : Option Seal). has_size e.size o) same ∙ is
      ]
      | inr got ↦ size_stored (seals e.hash) got.seal e.size got.is (same_Some got.seal.size e.size (sym got.wanted ∙ h.first))
    ]
