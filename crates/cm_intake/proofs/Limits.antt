-- A version above all that were opened of its package is neither there nor to be made by a job, so that only a limit refuses it.
use Rattle.std.proofs.Common.{◌≡◌, ℕ, ◌+◌, ◌^◌, ◌-◌, ◌<◌, ◌≤◌, Bool, true, false, nat_le, nat_lt, List, [], ◌∷◌, length, refl, ◌∙◌, ap, subst, arith, cond}
use Rattle.std.specs.Prelude.{Option, None, Some, ◌==◌, ◌&&◌, ◌||◌, not, option_map, if◌then◌else◌}
use Rattle.std.specs.List.{AllByRecursion, list_any}
use Rattle.std.specs.Str.{bytes_eq}
use Rattle.std.proofs.lemmas.Bool.{eq-eqb, eqb-true}
use Rattle.std.proofs.lemmas.Option.{none-some, same_Some}
use Rattle.std.proofs.lemmas.Slice.Eq.{bytes_eq-Decides}
use Rattle.std.proofs.lemmas.List.{length-map}
use Rattle.cm_pkglib.specs.declared.row.PkgRow.{PkgRow}
use Rattle.cm_pkglib.specs.declared.fault.RowFault.{RowFault}
use Rattle.cm_pkglib.specs.declared.fault.RowFault.TheVariants.{VersionThere, JobThere, TooManyVersions, TooManyEntries, TooManyJobs, WrongJob}
use Rattle.cm_pkglib.specs.Rows.{is_of, last_of, job_with, all_versions, all_entries, when, first_of}
use Rattle.cm_state.specs.declared.fault.LibFault.{LibFault}
use Rattle.cm_state.specs.Faults.{most_end, spent_or, begin_fault, limit_fault}
use Rattle.cm_state.specs.Sound.{IsCovered, IsSound}
use Rattle.cm_state.specs.State.{Held, State, rows_of, entries_in, count_in}
use Rattle.cm_state.proofs.Lists.{find_none}
use Rattle.cm_intake.specs.Intake.{IsAbove, IsLimit}

module _ (id : List ℕ) (version : ℕ) (lasts : List (List ℕ × ℕ)) (above : IsAbove version (last_of id lasts)) where
  -- a row of the package has a lower version
  lower : (row : PkgRow) → IsCovered lasts row → row.package ≡ id → row.version < version
  lower row covered same =
      let last : ℕ = covered.0 in
      let there : last_of id lasts ≡ Some last = subst (λ (p : List ℕ). last_of p lasts ≡ Some last) same covered.1 in
      let over : last < version = subst (IsAbove version) there above in
      let within : row.version ≤ last = covered.2 in
      omega (arith, over, within)

  other_row : (row : PkgRow) → IsCovered lasts row → is_of id version row ≡ false
  other_row row covered = by (bytes_eq row.package id) (row.version == version) refl refl
    where
      by : (p v : Bool) → bytes_eq row.package id ≡ p → (row.version == version) ≡ v → is_of id version row ≡ false
      by true true same equal =
          let less : row.version < version = lower row covered ((bytes_eq-Decides row.package id).0 same) in
          let is : row.version ≡ version = eqb-true row.version version equal in
          absurd (omega (arith, less, is))
      by true false same equal = ap (λ (b : Bool). b && row.version == version) same ∙ equal
      by false v same equal = ap (λ (b : Bool). b && row.version == version) same

  no_version : (rows : List PkgRow) → AllByRecursion (IsCovered lasts) rows → list_any (is_of id version) rows ≡ false
  no_version [] all = refl
  no_version (row ∷ rows) all = ap (λ (b : Bool). b || list_any (is_of id version) rows) (other_row row all.0) ∙ no_version rows all.1

  others : (jobs : List (ℕ × PkgRow)) → AllByRecursion (λ (job : ℕ × PkgRow). IsCovered lasts job.1) jobs → AllByRecursion (λ (job : ℕ × PkgRow). is_of id version job.1 ≡ false) jobs
  others [] all = tt
  others (job ∷ jobs) all = (other_row job.1 all.0, others jobs all.1)

  no_job : (jobs : List (ℕ × PkgRow)) → AllByRecursion (λ (job : ℕ × PkgRow). IsCovered lasts job.1) jobs → job_with id version jobs ≡ None
  no_job jobs all = ap (λ (o : Option (ℕ × PkgRow)). option_map (λ (u : ℕ × PkgRow). u.0) o) (find_none (λ (u : ℕ × PkgRow). is_of id version u.1) jobs (others jobs all))

-- the limits by their tests
abbrev by_tests : ℕ → Bool → Bool → Bool → Bool → Option LibFault
by_tests end versions entries jobs last =
    if versions then Some LibFault.TooManyVersions else (if entries then Some LibFault.TooManyEntries else (if jobs then Some LibFault.TooManyJobs else (if last then Some LibFault.Spent else spent_or end None)))

-- the first cause by the tests of all of them
abbrev first_cause : ℕ → Bool → Option RowFault → Bool → Bool → Bool → Bool → Bool → Option LibFault
first_cause end there job versions entries jobs same last =
    spent_or end (first_of (when there VersionThere ∷ job ∷ when versions TooManyVersions ∷ when entries TooManyEntries ∷ when jobs TooManyJobs ∷ when (not same || last) WrongJob ∷ []))

first_limit : (end : ℕ) (versions entries jobs last : Bool) → first_cause end false None versions entries jobs true last ≡ by_tests end versions entries jobs last
first_limit end true entries jobs last = refl
first_limit end false true jobs last = refl
first_limit end false false true last = refl
first_limit end false false false true = refl
first_limit end false false false false = refl

pub begin_fault-above : (state : State) (end : ℕ) (id : List ℕ) (version entries : ℕ) → IsSound state → IsAbove version (last_of id state.lasts) → begin_fault state end id version entries ≡ limit_fault state end entries
begin_fault-above state end id version entries sound above =
    let rows = rows_of state in
    let next = state.next in
    let many = nat_lt 400000 (all_entries rows + entries) in
    let last = nat_le (2 ^ 64 - 1) next in
    let count : all_versions rows ≡ count_in state = ap (λ (n : ℕ). n + length rows.jobs) (length-map state.versions (λ (held : Held). held.row)) ∙ ap (λ (n : ℕ). length state.versions + n) (length-map state.jobs (λ (job : ℕ × Held). (job.0, job.1.row))) in
    let few : length rows.jobs ≡ length state.jobs = length-map state.jobs (λ (job : ℕ × Held). (job.0, job.1.row)) in
    ap (λ (a : Bool). first_cause end a (option_map JobThere (job_with id version rows.jobs)) (nat_le 8192 (all_versions rows)) many (nat_le 256 (length rows.jobs)) (next == next) last) (no_version id version state.lasts above rows.versions sound.versions_covered)
    ∙ ap (λ (o : Option ℕ). first_cause end false (option_map JobThere o) (nat_le 8192 (all_versions rows)) many (nat_le 256 (length rows.jobs)) (next == next) last) (no_job id version state.lasts above rows.jobs sound.jobs_covered)
    ∙ ap (λ (n : ℕ). first_cause end false None (nat_le 8192 n) many (nat_le 256 (length rows.jobs)) (next == next) last) count
    ∙ ap (λ (n : ℕ). first_cause end false None (nat_le 8192 (count_in state)) many (nat_le 256 n) (next == next) last) few
    ∙ ap (λ (same : Bool). first_cause end false None (nat_le 8192 (count_in state)) many (nat_le 256 (length state.jobs)) same last) (eq-eqb next next refl)
    ∙ first_limit end (nat_le 8192 (count_in state)) many (nat_le 256 (length state.jobs)) last

spent_limit : (spent : Bool) (fault : LibFault) → cond spent (Some LibFault.Spent) None ≡ Some fault → IsLimit fault
spent_limit true fault is = subst IsLimit (same_Some LibFault.Spent fault is) tt
spent_limit false fault is = absurd (none-some fault is)

limit_by_tests : (end : ℕ) (versions entries jobs last : Bool) (fault : LibFault) → by_tests end versions entries jobs last ≡ Some fault → IsLimit fault
limit_by_tests end true entries jobs last fault is = subst IsLimit (same_Some LibFault.TooManyVersions fault is) tt
limit_by_tests end false true jobs last fault is = subst IsLimit (same_Some LibFault.TooManyEntries fault is) tt
limit_by_tests end false false true last fault is = subst IsLimit (same_Some LibFault.TooManyJobs fault is) tt
limit_by_tests end false false false true fault is = subst IsLimit (same_Some LibFault.Spent fault is) tt
limit_by_tests end false false false false fault is = spent_limit (nat_lt most_end end) fault is

pub limit_fault-IsLimit : (state : State) (end entries : ℕ) (fault : LibFault) → limit_fault state end entries ≡ Some fault → IsLimit fault
limit_fault-IsLimit state end entries = limit_by_tests end (nat_le 8192 (count_in state)) (nat_lt 400000 (entries_in state + entries)) (nat_le 256 (length state.jobs)) (nat_le (2 ^ 64 - 1) state.next)
