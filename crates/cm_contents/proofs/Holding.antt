-- Whether a version is held, by why no job may begin for it.
use Rattle.std.proofs.Common.{◌≡◌, ℕ, ◌+◌, ◌-◌, ◌^◌, Bool, true, false, cond, List, [], ◌∷◌, length, refl, sym, ◌∙◌, ap}
use Rattle.std.specs.Prelude.{◌==◌, ◌||◌, not, nat_le, nat_lt, map, find, Option, None, Some, is_some, option_map}
use Rattle.std.specs.List.{list_any}
use Rattle.std.proofs.lemmas.List.Folds.{list_any-append}
use Rattle.cm_pkglib.specs.declared.row.PkgRow.{PkgRow}
use Rattle.cm_pkglib.specs.declared.fault.RowFault.{RowFault}
use Rattle.cm_pkglib.specs.declared.fault.RowFault.TheVariants.{VersionThere, JobThere, TooManyVersions, TooManyEntries, TooManyJobs, WrongJob}
use Rattle.cm_pkglib.specs.Rows.{is_of, has_version, job_with, all_versions, all_entries, opened_fault, when, first_of}
use Rattle.cm_state.specs.Needed.{holds}
use Rattle.cm_state.specs.State.{Held, State, rows_of}
use Rattle.cm_contents.specs.Contents.{is_of_version}

abbrev held_by : Option RowFault → Bool
held_by None = false
held_by (Some fault) = is_of_version fault

never : (b c d e : Bool) → held_by (first_of (when b TooManyVersions ∷ when c TooManyEntries ∷ when d TooManyJobs ∷ when e WrongJob ∷ [])) ≡ false
never true c d e = refl
never false true d e = refl
never false false true e = refl
never false false false true = refl
never false false false false = refl

first_held : (a : Bool) (o : Option ℕ) (b c d e : Bool) → held_by (first_of (when a VersionThere ∷ option_map JobThere o ∷ when b TooManyVersions ∷ when c TooManyEntries ∷ when d TooManyJobs ∷ when e WrongJob ∷ [])) ≡ (a || is_some o)
first_held true o b c d e = refl
first_held false (Some job) b c d e = refl
first_held false None b c d e = never b c d e

any_map : {A B : Type 0} (p : B → Bool) (f : A → B) (xs : List A) → list_any p (map f xs) ≡ list_any (λ x. p (f x)) xs
any_map p f [] = refl
any_map p f (x ∷ xs) = ap (λ b. p (f x) || b) (any_map p f xs)

found_any : {A B : Type 0} (p : A → Bool) (f : A → B) (xs : List A) → is_some (option_map f (find p xs)) ≡ list_any p xs
found_any p f [] = refl
found_any {A} {B} p f (x ∷ xs) = by (p x) (found_any p f xs)
  where
    by : (b : Bool) → is_some (option_map f (find p xs)) ≡ list_any p xs → is_some (option_map f (cond b (Some x) (find p xs))) ≡ (b || list_any p xs)
    by true rest = refl
    by false rest = rest

pub held_is : (s : State) (id : List ℕ) (version : ℕ) (job entries : ℕ) → held_by (opened_fault (rows_of s) job id version entries) ≡ holds id version s
held_is s id version job entries =
    let rows = rows_of s in
    first_held (has_version id version rows) (job_with id version rows.jobs) (nat_le 8192 (all_versions rows)) (nat_lt 400000 (all_entries rows + entries)) (nat_le 256 (length rows.jobs)) (not (job == rows.next) || nat_le (2 ^ 64 - 1) job)
    ∙ ap (λ (b : Bool). b || is_some (job_with id version rows.jobs)) (any_map (is_of id version) (λ (h : Held). h.row) s.versions)
    ∙ ap (λ (b : Bool). list_any (λ (h : Held). is_of id version h.row) s.versions || b)
    (found_any (λ (u : ℕ × PkgRow). is_of id version u.1) (λ (u : ℕ × PkgRow). u.0) rows.jobs
    ∙ any_map (λ (u : ℕ × PkgRow). is_of id version u.1) (λ (job : ℕ × Held). let row : ℕ × PkgRow = (job.0, job.1.row) in row) s.jobs
    ∙ sym (any_map (λ (h : Held). is_of id version h.row) (λ (job : ℕ × Held). job.1) s.jobs))
    ∙ sym (list_any-append (λ (h : Held). is_of id version h.row) s.versions (map (λ (job : ℕ × Held). job.1) s.jobs))

pub held_some : (s : State) (id : List ℕ) (version : ℕ) (job entries : ℕ) (fault : RowFault) (is : Bool) → is ≡ is_of_version fault → Some fault ≡ opened_fault (rows_of s) job id version entries → is ≡ holds id version s
held_some s id version job entries fault is same told = same ∙ ap held_by told ∙ held_is s id version job entries

pub held_none : (s : State) (id : List ℕ) (version : ℕ) (job entries : ℕ) → None ≡ opened_fault (rows_of s) job id version entries → false ≡ holds id version s
held_none s id version job entries told = ap held_by told ∙ held_is s id version job entries
