-- What unfinished jobs want, as jobs begin and end.
use Rattle.std.proofs.Common.{◌≡◌, ℕ, suc, ◌<◌, ◌==◌, Bool, true, false, List, [], ◌∷◌, length, take, drop, get_or, refl, sym, ◌∙◌, ap, subst, arith, eq-eqb}
use Rattle.std.specs.Prelude.{not, cond, is_some, Option, None, Some, IfSome, option_map, find}
use Rattle.std.specs.List.{AllByRecursion}
use Rattle.std.specs.BTreeMap.{is_at}
use Rattle.std.specs.Cmp.{unsigned_ties}
use Rattle.std.specs.Ordering.{nat_cmp}
use Rattle.std.proofs.lemmas.Bool.{eqb-true, false≢true}
use Rattle.std.proofs.lemmas.Option.{none-some}
use Rattle.cm_pkglib.specs.declared.row.PkgRow.{PkgRow}
use Rattle.cm_pkglib.specs.declared.change.Change.TheVariants.{Done}
use Rattle.cm_pkglib.specs.declared.fault.RowFault.TheVariants.{NoJob}
use Rattle.cm_pkglib.specs.Places.{EachPair}
use Rattle.cm_pkglib.specs.Rows.{Rows, row_of_job, fault_of, when}
use Rattle.cm_pkglib.specs.Valid.{JobsRise}
use Rattle.cm_pkglib.proofs.Among.{All-map, All-append, EachPair-before}
use Rattle.cm_tree.specs.declared.entry.Entry.{Entry}
use Rattle.cm_state.specs.State.{Held, State, held_of, held_by_job, without_job}
use Rattle.cm_state.specs.Changes.{Begun, changed}
use Rattle.cm_state.proofs.Lists.{find_map, find_none, over_map, split_at}
use Rattle.cm_contents.specs.declared.wants.Wants.{Wants}
use Rattle.cm_contents.specs.Contents.{job_held_with, state_with, HasWants, AreWanted}
use Rattle.cm_contents.specs.Seals.{manifest_or_none}
use Rattle.cm_contents.specs.Wants.{HasHashes}

-- numbers that differ
apart_below : (a b : ℕ) → a < b → (a == b) ≡ false
apart_below a b lt = by (a == b) refl
  where
    by : (t : Bool) → (a == b) ≡ t → t ≡ false
    by false is = refl
    by true is = let same : a ≡ b = eqb-true a b is in absurd (omega (arith, lt, same))

-- a number that is not that of a key
pub at_apart : (job other : ℕ) → (other == job) ≡ false → is_at (nat_cmp job) other ≡ false
at_apart job other apart = sym (unsigned_ties job other) ∙ by (job == other) refl
  where
    by : (t : Bool) → (job == other) ≡ t → t ≡ false
    by false is = refl
    by true is = absurd (false≢true (sym apart ∙ eq-eqb other job (sym (eqb-true job other is))))

-- a job that ends is not the next
pub next_apart : (rows : Rows) (job : ℕ) → fault_of rows (Done job) ≡ None → AllByRecursion (λ (u : ℕ × PkgRow). u.0 < rows.next) rows.jobs → (rows.next == job) ≡ false
next_apart rows job free below = by (rows.next == job) refl
  where
    by : (t : Bool) → (rows.next == job) ≡ t → t ≡ false
    by false is = refl
    by true is =
        let same : rows.next ≡ job = eqb-true rows.next job is in
        let none : find (λ (u : ℕ × PkgRow). u.0 == job) rows.jobs ≡ None =
        find_none (λ (u : ℕ × PkgRow). u.0 == job) rows.jobs (All-map (λ (u : ℕ × PkgRow). u.0 < rows.next) (λ (u : ℕ × PkgRow). (u.0 == job) ≡ false) (λ u lt. apart_below u.0 job (omega (arith, lt, same))) rows.jobs below) in
        absurd (none-some NoJob (sym (subst (λ (o : Option (ℕ × PkgRow)). when (not (is_some (option_map (λ (u : ℕ × PkgRow). u.1) o))) NoJob ≡ None) none free)))

-- what is found has changed for one job alone
module _ (old new : ℕ → Option Wants) (job : ℕ) (others : (other : ℕ) → (other == job) ≡ false → new other ≡ old other) where
  pub wants_below : {A : Type 0} (number : A → ℕ) (manifest : A → List Entry) (xs : List A) → AllByRecursion (λ (x : A). number x < job) xs → AllByRecursion (λ (x : A). HasHashes (old (number x)) (manifest x)) xs
      → AllByRecursion (λ (x : A). HasHashes (new (number x)) (manifest x)) xs
  wants_below number manifest [] below all = tt
  wants_below number manifest (x ∷ xs) below all = (
    subst (λ (o : Option Wants). HasHashes o (manifest x)) (sym (others (number x) (apart_below (number x) job below.0))) all.0,
    wants_below number manifest xs below.1 all.1,
  )

  -- each unfinished job has a lower number than the next
  pub wants_kept : (f : List ℕ → ℕ → List Entry) (rows : Rows) (taken : Option Held) → job ≡ rows.next → AllByRecursion (λ (u : ℕ × PkgRow). u.0 < rows.next) rows.jobs → AreWanted old (state_with f rows) taken
      → AllByRecursion (HasWants new) (state_with f rows).jobs
  wants_kept f rows taken next below wanted =
      wants_below (λ (u : ℕ × Held). u.0) (λ (u : ℕ × Held). u.1.manifest) (state_with f rows).jobs
      (over_map (job_held_with f) (λ (u : ℕ × Held). u.0 < job) rows.jobs (subst (λ (n : ℕ). AllByRecursion (λ (u : ℕ × PkgRow). u.0 < n) rows.jobs) (sym next) below)) wanted.by_jobs

  wants_without : (jobs : List (ℕ × Held)) → AllByRecursion (HasWants old) jobs → AllByRecursion (HasWants new) (without_job job jobs)
  wants_without [] all = tt
  wants_without (u ∷ us) all = by (u.0 == job) refl (wants_without us all.1)
    where
      by : (t : Bool) → (u.0 == job) ≡ t → AllByRecursion (HasWants new) (without_job job us) → AllByRecursion (HasWants new) (cond (not t) (u ∷ without_job job us) (without_job job us))
      by true is rest = rest
      by false is rest = (subst (λ (o : Option Wants). HasHashes o u.1.manifest) (sym (others u.0 is)) all.0, rest)

  -- the job ends
  pub wanted_ended : (state after : State) (taken : Option Held) → after.jobs ≡ without_job job state.jobs → after.next ≡ state.next → (state.next == job) ≡ false → AreWanted old state taken → AreWanted new after taken
  wanted_ended state after taken jobs next apart wanted = record {
    by_jobs = subst (AllByRecursion (HasWants new)) (sym jobs) (wants_without state.jobs wanted.by_jobs);
    by_next = subst (λ (o : Option Wants). IfSome taken (λ held. HasHashes o held.manifest)) (sym (others state.next apart) ∙ ap new (sym next)) wanted.by_next;
  }

-- a job begins, whose wants are found
pub wanted_begun : (find : ℕ → Option Wants) (state : State) (taken : Option Held) (job : ℕ) (id : List ℕ) (version : ℕ) (manifest : List Entry) → AreWanted find state taken → HasHashes (find job) manifest
    → AreWanted find (changed (Begun job id version manifest) state) None
wanted_begun find state taken job id version manifest wanted here = record {
  by_jobs = All-append (HasWants find) state.jobs ((job, held_of id version manifest) ∷ []) wanted.by_jobs (here, tt);
  by_next = tt;
}

-- the wants of an unfinished job are found
pub wants_found : (wants : ℕ → Option Wants) (job : ℕ) (jobs : List (ℕ × Held)) → AllByRecursion (HasWants wants) jobs → is_some (held_by_job job jobs) ≡ true → HasHashes (wants job) (manifest_or_none (held_by_job job jobs))
wants_found wants job [] all there = absurd (false≢true there)
wants_found wants job (u ∷ us) all there = by (u.0 == job) refl there (wants_found wants job us all.1)
  where
    by : (t : Bool) → (u.0 == job) ≡ t → is_some (option_map (λ (v : ℕ × Held). v.1) (cond t (Some u) (find (λ (v : ℕ × Held). v.0 == job) us))) ≡ true
        → (is_some (held_by_job job us) ≡ true → HasHashes (wants job) (manifest_or_none (held_by_job job us)))
        → HasHashes (wants job) (manifest_or_none (option_map (λ (v : ℕ × Held). v.1) (cond t (Some u) (find (λ (v : ℕ × Held). v.0 == job) us))))
    by true is found rest = subst (λ (n : ℕ). HasHashes (wants n) u.1.manifest) (eqb-true u.0 job is) all.0
    by false is found rest = rest found

pub none_held : (o : Option Held) → is_some o ≡ false → manifest_or_none o ≡ []
none_held None is = refl
none_held (Some held) is = absurd (false≢true (sym is))

-- each job has a lower number than one behind it
pub jobs_below : (jobs : List (ℕ × PkgRow)) (i : ℕ) (job : ℕ × PkgRow) → i < length jobs → job ≡ get_or jobs i job → JobsRise jobs → AllByRecursion (λ (u : ℕ × PkgRow). u.0 < job.0) (take i jobs)
jobs_below jobs i job lt is rise =
    let below : ℕ × PkgRow → ℕ × PkgRow → Type 0 = λ a b. a.0 < b.0 in
    EachPair-before below (take i jobs) job (drop (suc i) jobs) (subst (EachPair below) (split_at jobs i job lt is) rise)

-- the row of an unfinished job is that of what it is to make
pub held-row : (f : List ℕ → ℕ → List Entry) (job : ℕ) (rows : Rows) → is_some (row_of_job job rows.jobs) ≡ is_some (held_by_job job (state_with f rows).jobs)
held-row f job rows =
    by (find (λ (u : ℕ × PkgRow). u.0 == job) rows.jobs)
    ∙ ap (λ (o : Option (ℕ × Held)). is_some (option_map (λ (u : ℕ × Held). u.1) o)) (sym (find_map (job_held_with f) (λ (u : ℕ × PkgRow). u.0 == job) (λ (u : ℕ × Held). u.0 == job) (λ u. refl) rows.jobs))
  where
    by : (o : Option (ℕ × PkgRow)) → is_some (option_map (λ (u : ℕ × PkgRow). u.1) o) ≡ is_some (option_map (λ (u : ℕ × Held). u.1) (option_map (job_held_with f) o))
    by None = refl
    by (Some u) = refl
