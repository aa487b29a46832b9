-- A change that is not refused keeps rows valid.
use Rattle.std.proofs.Common.{◌≡◌, ℕ, suc, zero, ◌+◌, ◌-◌, ◌^◌, ◌<◌, ◌≤◌, Bool, true, false, not, cond, ◌==◌, ◌||◌, List, [], ◌∷◌, ◌++◌, length, map, refl, ap, sym, ◌∙◌, subst, arith, Option, Some, None, is_some, option_map, ◌⊎◌, inl, inr, leb, ltb, append_assoc, length-append}
use Rattle.std.proofs.lemmas.List.{append-nil}
use Rattle.std.proofs.lemmas.List.Sums.{sum_by-append, sum_by-cons}
use Rattle.std.proofs.lemmas.Bool.{or_parts, not-false, ltb-false, leb-false, eqb-true}
use Rattle.std.specs.List.{AllByRecursion, list_any, find, sum_by}
use Rattle.std.specs.Cmp.Lexicographic.{slice_cmp}
use Rattle.std.specs.Cmp.{unsigned_ties}
use Rattle.std.specs.Ordering.{nat_cmp}
use Rattle.std.specs.declared.cmp.Ordering.TheVariants.{Less, Greater}
use Rattle.std.proofs.lemmas.Cmp.{nat_list_cmp_total, nat_cmp_total, nat_list_eq_equiv, nat_eq_equiv}
use Rattle.cm_pkglib.specs.declared.row.PkgRow.{PkgRow}
use Rattle.cm_pkglib.specs.declared.fault.RowFault.{RowFault}
use Rattle.cm_pkglib.specs.declared.fault.RowFault.TheVariants.{VersionThere, JobThere, TooManyVersions, TooManyEntries, TooManyJobs, WrongJob}
use Rattle.cm_pkglib.specs.Places.{EachPair}
use Rattle.cm_pkglib.specs.Rows.{Rows, is_of, has_version, job_with, row_of_job, is_unfinished, version_cmp, version_row, with_row, with_last, without_job, without_version, all_entries, all_versions, when, first_of, opened_fault}
use Rattle.cm_pkglib.specs.Valid.{Differ, VersionsRise, JobsRise, LastsRise, IsCovered, AreValid}
use Rattle.cm_pkglib.proofs.Among.{All-map, All-append, All-front, All-back, All-insert, All-remove, All-middle, All-of_map, EachPair-map, EachPair-insert, EachPair-remove, EachPair-before, EachPair-behind, any_none, none_of_any, none_of_find}
use Rattle.cm_pkglib.proofs.Orders.{key_of, key_total, is_of-version_cmp, less_from_lt}
use Rattle.cm_pkglib.proofs.Halves.{IsSplit, IsSplitAt, splits, find_split, find_split_at, filter_split_at, none_between, flip_greater, is_some_map}
use Rattle.cm_pkglib.proofs.Changed.{with_row_between, with_last_new, with_last_old}
use Rattle.cm_pkglib.proofs.Covered.{covered_still, covered_now}

abbrev pub Unfinished : Type 0
Unfinished = ℕ × PkgRow

abbrev pub Last : Type 0
Last = List ℕ × ℕ

is_of-sym : (a b : PkgRow) → is_of a.package a.version b ≡ is_of b.package b.version a
is_of-sym a b = rw (nat_list_eq_equiv.symm b.package a.package, nat_eq_equiv.symm b.version a.version)

Differ-sym : (a b : PkgRow) → Differ a b → Differ b a
Differ-sym a b h = is_of-sym b a ∙ h

-- the greatest version of a job's package is kept
abbrev JobCovered : List Last → Unfinished → Type 0
JobCovered lasts u = IsCovered lasts u.1

-- the parts of a test that gives no fault
when_none : (test : Bool) (fault : RowFault) (faults : List (Option RowFault)) → first_of (when test fault ∷ faults) ≡ None → (test ≡ false) × (first_of faults ≡ None)
when_none true fault faults e = cc
when_none false fault faults e = (refl, e)

map_none : (o : Option ℕ) (fault : ℕ → RowFault) (faults : List (Option RowFault)) → first_of (option_map fault o ∷ faults) ≡ None → (o ≡ None) × (first_of faults ≡ None)
map_none None fault faults e = (refl, e)
map_none (Some x) fault faults e = cc

-- what holds where the opening of a job is not refused
pub record MayOpen (rows : Rows) (job : ℕ) (id : List ℕ) (version entries : ℕ) : Type 0 where
  pub no_version : has_version id version rows ≡ false
  pub no_job : job_with id version rows.jobs ≡ None
  pub few_versions : all_versions rows < 8192
  pub few_entries : all_entries rows + entries ≤ 400000
  pub few_jobs : length rows.jobs < 256
  pub next : job ≡ rows.next
  pub fits : job < 2 ^ 64 - 1

pub may_open : (rows : Rows) (job : ℕ) (id : List ℕ) (version entries : ℕ) → opened_fault rows job id version entries ≡ None → MayOpen rows job id version entries
may_open rows job id version entries e =
    let a = when_none (has_version id version rows) VersionThere _ e in
    let b = map_none (job_with id version rows.jobs) JobThere _ a.1 in
    let c = when_none (leb 8192 (all_versions rows)) TooManyVersions _ b.1 in
    let d = when_none (ltb 400000 (all_entries rows + entries)) TooManyEntries _ c.1 in
    let f = when_none (leb 256 (length rows.jobs)) TooManyJobs _ d.1 in
    let g = when_none (not (job == rows.next) || leb (2 ^ 64 - 1) job) WrongJob [] f.1 in
    let h = or_parts (not (job == rows.next)) (leb (2 ^ 64 - 1) job) g.0 in
    record {
      no_version = a.0;
      no_job = b.0;
      few_versions = leb-false 8192 (all_versions rows) c.0;
      few_entries = ltb-false 400000 (all_entries rows + entries) d.0;
      few_jobs = leb-false 256 (length rows.jobs) f.0;
      next = eqb-true job rows.next (not-false (job == rows.next) h.0);
      fits = leb-false (2 ^ 64 - 1) job h.1;
    }

pub when_true : (test : Bool) (fault : RowFault) → when (not test) fault ≡ None → test ≡ true
when_true true fault e = refl
when_true false fault e = cc

-- the job is unfinished, so it stands among the jobs
pub unfinished_split : (job : ℕ) (jobs : List Unfinished) → JobsRise jobs → is_unfinished job jobs ≡ true → IsSplitAt (λ (u : Unfinished). nat_cmp u.0 job) jobs
unfinished_split job jobs rise e =
    elim (splits (λ (u : Unfinished). u.0) nat_cmp_total job jobs (EachPair-map (λ (a b : Unfinished). a.0 < b.0) (λ (a b : Unfinished). nat_cmp a.0 b.0 ≡ Less) (λ a b h. less_from_lt a.0 b.0 h) jobs rise)) [
      | inl s ↦
          let none = find_split (λ (u : Unfinished). u.0 == job) (λ (u : Unfinished). nat_cmp u.0 job) (λ u. unsigned_ties u.0 job) jobs s in
          let no : is_unfinished job jobs ≡ false = is_some_map (λ (u : Unfinished). u.1) _ ∙ ap is_some none in
          cc
      | inr s ↦ s
    ]

pub row_of_split : (job : ℕ) (jobs : List Unfinished) (s : IsSplitAt (λ (u : Unfinished). nat_cmp u.0 job) jobs) → row_of_job job jobs ≡ Some s.row.1
row_of_split job jobs s = ap (λ o. option_map (λ (u : Unfinished). u.1) o) (find_split_at (λ (u : Unfinished). u.0 == job) (λ (u : Unfinished). nat_cmp u.0 job) (λ u. unsigned_ties u.0 job) jobs s)

pub without_split : (job : ℕ) (jobs : List Unfinished) (s : IsSplitAt (λ (u : Unfinished). nat_cmp u.0 job) jobs) → without_job job jobs ≡ s.front ++ s.back
without_split job jobs s = filter_split_at (λ (u : Unfinished). u.0 == job) (λ (u : Unfinished). nat_cmp u.0 job) (λ u. unsigned_ties u.0 job) jobs s

-- a version is there or has its gap
pub version_split : (id : List ℕ) (version : ℕ) (rows : List PkgRow) → VersionsRise rows → list_any (is_of id version) rows ≡ true → IsSplitAt (version_cmp id version) rows
version_split id version rows rise e =
    elim (splits key_of key_total (id, version) rows rise) [
      | inl s ↦
          let none : list_any (is_of id version) rows ≡ false = ap (λ t. list_any (is_of id version) t) s.is ∙ any_none (is_of id version) (s.front ++ s.back) (none_between (is_of id version) (version_cmp id version) (is_of-version_cmp id version) s.front s.back s.between) in
          cc
      | inr s ↦ s
    ]

pub version_gap : (id : List ℕ) (version : ℕ) (rows : List PkgRow) → VersionsRise rows → list_any (is_of id version) rows ≡ false → IsSplit (version_cmp id version) rows
version_gap id version rows rise e =
    elim (splits key_of key_total (id, version) rows rise) [
      | inl s ↦ s
      | inr s ↦
          let some : list_any (is_of id version) rows ≡ true = ap (λ t. list_any (is_of id version) t) s.is ∙ Rattle.cm_pkglib.proofs.Among.any_middle (is_of id version) s.front s.row s.back (is_of-version_cmp id version s.row ∙ rw (s.equal)) in
          cc
    ]

-- one version more or less keeps the order
pub rise_with : (row : PkgRow) (rows : List PkgRow) → VersionsRise rows → (s : IsSplit (version_cmp row.package row.version) rows) → VersionsRise (s.front ++ row ∷ s.back)
rise_with row rows rise s =
    EachPair-insert (λ (a b : PkgRow). version_cmp b.package b.version a ≡ Less) s.front row s.back (subst VersionsRise s.is rise) s.between.before
    (All-map (λ x. version_cmp row.package row.version x ≡ Greater) (λ x. version_cmp x.package x.version row ≡ Less) (λ x h. flip_greater key_total (key_of x) (key_of row) h) s.back s.between.behind)

-- the greatest versions rise with one more
pub lasts_with : (id : List ℕ) (version : ℕ) (lasts : List Last) → LastsRise lasts → LastsRise (with_last id version lasts)
lasts_with id version lasts rise =
    elim (splits (λ (l : Last). l.0) nat_list_cmp_total id lasts rise) [
      | inl s ↦
          let is : with_last id version lasts ≡ s.front ++ (id, version) ∷ s.back = ap (λ t. with_last id version t) s.is ∙ with_last_new id version s.front s.back s.between in
          subst LastsRise (sym is)
          (EachPair-insert (λ (a b : Last). slice_cmp nat_cmp a.0 b.0 ≡ Less) s.front (id, version) s.back (subst LastsRise s.is rise) s.between.before
          (All-map (λ (x : Last). slice_cmp nat_cmp x.0 id ≡ Greater) (λ (x : Last). slice_cmp nat_cmp id x.0 ≡ Less) (λ x h. flip_greater nat_list_cmp_total x.0 id h) s.back s.between.behind))
      | inr s ↦
          let is : with_last id version lasts ≡ s.front ++ (s.row.0, Rattle.std.proofs.Common.max s.row.1 version) ∷ s.back = ap (λ t. with_last id version t) s.is ∙ with_last_old id version s.front s.row s.back s.between.before s.equal in
          let old = subst LastsRise s.is rise in
          subst LastsRise (sym is)
          (EachPair-insert (λ (a b : Last). slice_cmp nat_cmp a.0 b.0 ≡ Less) s.front (s.row.0, Rattle.std.proofs.Common.max s.row.1 version) s.back
          (EachPair-remove (λ (a b : Last). slice_cmp nat_cmp a.0 b.0 ≡ Less) s.front s.row s.back old)
          (EachPair-before (λ (a b : Last). slice_cmp nat_cmp a.0 b.0 ≡ Less) s.front s.row s.back old)
          (EachPair-behind (λ (a b : Last). slice_cmp nat_cmp a.0 b.0 ≡ Less) s.front s.row s.back old))
    ]

-- the rows of jobs
abbrev rows_of : List Unfinished → List PkgRow
rows_of jobs = map (λ (u : Unfinished). u.1) jobs

rows_of-append : (xs ys : List Unfinished) → rows_of (xs ++ ys) ≡ rows_of xs ++ rows_of ys
rows_of-append [] ys = refl
rows_of-append (x ∷ xs) ys = ap (λ t. x.1 ∷ t) (rows_of-append xs ys)

apart_split : (jobs : List Unfinished) (versions : List PkgRow) (front : List Unfinished) (u : Unfinished) (back : List Unfinished) → jobs ≡ front ++ u ∷ back → EachPair Differ (rows_of jobs ++ versions) → EachPair Differ (rows_of front ++ u.1 ∷ (rows_of back ++ versions))
apart_split jobs versions front u back e apart =
    let is : rows_of jobs ++ versions ≡ rows_of front ++ u.1 ∷ (rows_of back ++ versions) = ap (λ t. rows_of t ++ versions) e ∙ ap (λ t. t ++ versions) (rows_of-append front (u ∷ back)) ∙ append_assoc (rows_of front) (u.1 ∷ rows_of back) versions in
    subst (EachPair Differ) is apart

apart_removed : (A : List PkgRow) (a : PkgRow) (B V : List PkgRow) → EachPair Differ (A ++ a ∷ (B ++ V)) → EachPair Differ ((A ++ B) ++ V)
apart_removed A a B V e = subst (EachPair Differ) (sym (append_assoc A B V)) (EachPair-remove Differ A a (B ++ V) e)

apart_moved : (A : List PkgRow) (a : PkgRow) (B V W : List PkgRow) → EachPair Differ (A ++ a ∷ (B ++ (V ++ W))) → EachPair Differ ((A ++ B) ++ (V ++ a ∷ W))
apart_moved A a B V W e =
    let others : EachPair Differ (((A ++ B) ++ V) ++ W) = subst (EachPair Differ) (sym (append_assoc (A ++ B) V W)) (apart_removed A a B (V ++ W) e) in
    let behind = EachPair-behind Differ A a (B ++ (V ++ W)) e in
    let rest = All-back (Differ a) B (V ++ W) behind in
    let turned = λ (x : PkgRow) (h : Differ a x). Differ-sym a x h in
    let before : AllByRecursion (λ x. Differ x a) ((A ++ B) ++ V) =
    All-append (λ x. Differ x a) (A ++ B) V
    (All-append (λ x. Differ x a) A B (EachPair-before Differ A a (B ++ (V ++ W)) e) (All-map (Differ a) (λ x. Differ x a) turned B (All-front (Differ a) B (V ++ W) behind)))
    (All-map (Differ a) (λ x. Differ x a) turned V (All-front (Differ a) V W rest)) in
    subst (EachPair Differ) (append_assoc (A ++ B) V (a ∷ W)) (EachPair-insert Differ ((A ++ B) ++ V) a W others before (All-back (Differ a) V W rest))

absent_split : (rows : Rows) → AreValid rows → (front : List Unfinished) (u : Unfinished) (back : List Unfinished) → rows.jobs ≡ front ++ u ∷ back → list_any (is_of u.1.package u.1.version) rows.versions ≡ false
absent_split rows valid front u back e =
    let apart = apart_split rows.jobs rows.versions front u back e valid.apart in
    any_none (is_of u.1.package u.1.version) rows.versions (All-back (Differ u.1) (rows_of back) rows.versions (EachPair-behind Differ (rows_of front) u.1 (rows_of back ++ rows.versions) apart))

-- the entries of rows and of jobs
abbrev pub sum_rows : List PkgRow → ℕ
sum_rows rows = sum_by (λ (r : PkgRow). r.entries) rows

abbrev pub sum_jobs : List Unfinished → ℕ
sum_jobs jobs = sum_by (λ (u : Unfinished). u.1.entries) jobs

sum_rows-middle : (xs : List PkgRow) (a : PkgRow) (ys : List PkgRow) → sum_rows (xs ++ a ∷ ys) ≡ sum_rows (xs ++ ys) + a.entries
sum_rows-middle xs a ys = omega (arith, sum_by-append (λ (r : PkgRow). r.entries) xs (a ∷ ys), sum_by-append (λ (r : PkgRow). r.entries) xs ys, sum_by-cons (λ (r : PkgRow). r.entries) a ys)

sum_jobs-middle : (xs : List Unfinished) (a : Unfinished) (ys : List Unfinished) → sum_jobs (xs ++ a ∷ ys) ≡ sum_jobs (xs ++ ys) + a.1.entries
sum_jobs-middle xs a ys = omega (arith, sum_by-append (λ (u : Unfinished). u.1.entries) xs (a ∷ ys), sum_by-append (λ (u : Unfinished). u.1.entries) xs ys, sum_by-cons (λ (u : Unfinished). u.1.entries) a ys)

length-middle : {X : Type 0} (xs : List X) (a : X) (ys : List X) → length (xs ++ a ∷ ys) ≡ length (xs ++ ys) + 1
length-middle xs a ys = omega (arith, length-append xs (a ∷ ys), length-append xs ys)

-- a job's row is there
abbrev pub job_split : Rows → ℕ → Type 0
job_split rows job = IsSplitAt (λ (u : Unfinished). nat_cmp u.0 job) rows.jobs

done_split_valid : (rows : Rows) → AreValid rows → (job : ℕ) (s : job_split rows job) → AreValid (record { versions = with_row s.row.1 rows.versions; jobs = without_job job rows.jobs; next = rows.next; lasts = rows.lasts })
done_split_valid rows valid job s =
    let absent = absent_split rows valid s.front s.row s.back s.is in
    let g = version_gap s.row.1.package s.row.1.version rows.versions valid.versions_rise absent in
    let with_is : with_row s.row.1 rows.versions ≡ g.front ++ s.row.1 ∷ g.back = ap (λ t. with_row s.row.1 t) g.is ∙ with_row_between s.row.1 g.front g.back g.between in
    let without_is = without_split job rows.jobs s in
    let apart = apart_split rows.jobs rows.versions s.front s.row s.back s.is valid.apart in
    let versions_len : length rows.versions ≡ length (g.front ++ g.back) = ap length g.is in
    let jobs_len : length rows.jobs ≡ length (s.front ++ s.row ∷ s.back) = ap length s.is in
    let versions_sum : sum_rows rows.versions ≡ sum_rows (g.front ++ g.back) = ap sum_rows g.is in
    let jobs_sum : sum_jobs rows.jobs ≡ sum_jobs (s.front ++ s.row ∷ s.back) = ap sum_jobs s.is in
    let jobs_covered = subst (AllByRecursion (JobCovered rows.lasts)) s.is valid.jobs_covered in
    let few_versions = valid.few_versions in
    let few_jobs = valid.few_jobs in
    let few_entries = valid.few_entries in
    rw (with_is, without_is) (record {
      versions_rise = rise_with s.row.1 rows.versions valid.versions_rise g;
      jobs_rise = EachPair-remove (λ (a b : Unfinished). a.0 < b.0) s.front s.row s.back (subst JobsRise s.is valid.jobs_rise);
      lasts_rise = valid.lasts_rise;
      apart = subst (λ t. EachPair Differ (t ++ (g.front ++ s.row.1 ∷ g.back))) (sym (rows_of-append s.front s.back)) (apart_moved (rows_of s.front) s.row.1 (rows_of s.back) g.front g.back (subst (λ t. EachPair Differ (rows_of s.front ++ s.row.1 ∷ (rows_of s.back ++ t))) g.is apart));
      versions_covered = All-insert (IsCovered rows.lasts) g.front s.row.1 g.back (All-middle (JobCovered rows.lasts) s.front s.row s.back jobs_covered) (subst (AllByRecursion (IsCovered rows.lasts)) g.is valid.versions_covered);
      jobs_covered = All-remove (JobCovered rows.lasts) s.front s.row s.back jobs_covered;
      below_next = All-remove (λ (u : Unfinished). u.0 < rows.next) s.front s.row s.back (subst (AllByRecursion (λ (u : Unfinished). u.0 < rows.next)) s.is valid.below_next);
      first = valid.first;
      fits = valid.fits;
      few_versions = omega (arith, length-middle g.front s.row.1 g.back, length-middle s.front s.row s.back);
      few_jobs = omega (arith, length-middle s.front s.row s.back);
      few_entries = omega (arith, sum_rows-middle g.front s.row.1 g.back, sum_jobs-middle s.front s.row s.back);
    })

done_split_sum : (rows : Rows) → AreValid rows → (job : ℕ) (s : job_split rows job) → sum_rows (with_row s.row.1 rows.versions) + sum_jobs (without_job job rows.jobs) ≡ all_entries rows
done_split_sum rows valid job s =
    let absent = absent_split rows valid s.front s.row s.back s.is in
    let g = version_gap s.row.1.package s.row.1.version rows.versions valid.versions_rise absent in
    let with_is : with_row s.row.1 rows.versions ≡ g.front ++ s.row.1 ∷ g.back = ap (λ t. with_row s.row.1 t) g.is ∙ with_row_between s.row.1 g.front g.back g.between in
    let without_is = without_split job rows.jobs s in
    let versions_sum : sum_rows rows.versions ≡ sum_rows (g.front ++ g.back) = ap sum_rows g.is in
    let jobs_sum : sum_jobs rows.jobs ≡ sum_jobs (s.front ++ s.row ∷ s.back) = ap sum_jobs s.is in
    rw (with_is, without_is) (omega (arith, sum_rows-middle g.front s.row.1 g.back, sum_jobs-middle s.front s.row s.back))

dropped_split_valid : (rows : Rows) → AreValid rows → (job : ℕ) (s : job_split rows job) → AreValid (record { versions = rows.versions; jobs = without_job job rows.jobs; next = rows.next; lasts = rows.lasts })
dropped_split_valid rows valid job s =
    let without_is = without_split job rows.jobs s in
    let apart = apart_split rows.jobs rows.versions s.front s.row s.back s.is valid.apart in
    let jobs_len : length rows.jobs ≡ length (s.front ++ s.row ∷ s.back) = ap length s.is in
    let jobs_sum : sum_jobs rows.jobs ≡ sum_jobs (s.front ++ s.row ∷ s.back) = ap sum_jobs s.is in
    let jobs_covered = subst (AllByRecursion (JobCovered rows.lasts)) s.is valid.jobs_covered in
    let few_versions = valid.few_versions in
    let few_jobs = valid.few_jobs in
    let few_entries = valid.few_entries in
    rw (without_is) (record {
      versions_rise = valid.versions_rise;
      jobs_rise = EachPair-remove (λ (a b : Unfinished). a.0 < b.0) s.front s.row s.back (subst JobsRise s.is valid.jobs_rise);
      lasts_rise = valid.lasts_rise;
      apart = subst (λ t. EachPair Differ (t ++ rows.versions)) (sym (rows_of-append s.front s.back)) (apart_removed (rows_of s.front) s.row.1 (rows_of s.back) rows.versions apart);
      versions_covered = valid.versions_covered;
      jobs_covered = All-remove (JobCovered rows.lasts) s.front s.row s.back jobs_covered;
      below_next = All-remove (λ (u : Unfinished). u.0 < rows.next) s.front s.row s.back (subst (AllByRecursion (λ (u : Unfinished). u.0 < rows.next)) s.is valid.below_next);
      first = valid.first;
      fits = valid.fits;
      few_versions = omega (arith, length-middle s.front s.row s.back);
      few_jobs = omega (arith, length-middle s.front s.row s.back);
      few_entries = omega (arith, sum_jobs-middle s.front s.row s.back);
    })

dropped_split_sum : (rows : Rows) (job : ℕ) (s : job_split rows job) → sum_rows rows.versions + sum_jobs (without_job job rows.jobs) + s.row.1.entries ≡ all_entries rows
dropped_split_sum rows job s =
    let without_is = without_split job rows.jobs s in
    let jobs_sum : sum_jobs rows.jobs ≡ sum_jobs (s.front ++ s.row ∷ s.back) = ap sum_jobs s.is in
    rw (without_is) (omega (arith, sum_jobs-middle s.front s.row s.back))

pub removed_valid : (rows : Rows) → AreValid rows → (id : List ℕ) (version : ℕ) → list_any (is_of id version) rows.versions ≡ true → AreValid (record { versions = without_version id version rows.versions; jobs = rows.jobs; next = rows.next; lasts = rows.lasts })
removed_valid rows valid id version there =
    let s = version_split id version rows.versions valid.versions_rise there in
    let without_is : without_version id version rows.versions ≡ s.front ++ s.back = filter_split_at (is_of id version) (version_cmp id version) (is_of-version_cmp id version) rows.versions s in
    let versions_len : length rows.versions ≡ length (s.front ++ s.row ∷ s.back) = ap length s.is in
    let versions_sum : sum_rows rows.versions ≡ sum_rows (s.front ++ s.row ∷ s.back) = ap sum_rows s.is in
    let few_versions = valid.few_versions in
    let few_entries = valid.few_entries in
    let jobs = rows_of rows.jobs in
    let old : EachPair Differ ((jobs ++ s.front) ++ s.row ∷ s.back) = subst (EachPair Differ) (ap (λ t. jobs ++ t) s.is ∙ sym (append_assoc jobs s.front (s.row ∷ s.back))) valid.apart in
    rw (without_is) (record {
      versions_rise = EachPair-remove (λ (a b : PkgRow). version_cmp b.package b.version a ≡ Less) s.front s.row s.back (subst VersionsRise s.is valid.versions_rise);
      jobs_rise = valid.jobs_rise;
      lasts_rise = valid.lasts_rise;
      apart = subst (EachPair Differ) (append_assoc jobs s.front s.back) (EachPair-remove Differ (jobs ++ s.front) s.row s.back old);
      versions_covered = All-remove (IsCovered rows.lasts) s.front s.row s.back (subst (AllByRecursion (IsCovered rows.lasts)) s.is valid.versions_covered);
      jobs_covered = valid.jobs_covered;
      below_next = valid.below_next;
      first = valid.first;
      fits = valid.fits;
      few_versions = omega (arith, length-middle s.front s.row s.back);
      few_jobs = valid.few_jobs;
      few_entries = omega (arith, sum_rows-middle s.front s.row s.back);
    })

pub removed_sum : (rows : Rows) → AreValid rows → (id : List ℕ) (version : ℕ) (row : PkgRow) → version_row id version rows.versions ≡ Some row → list_any (is_of id version) rows.versions ≡ true → sum_rows (without_version id version rows.versions) + sum_jobs rows.jobs + row.entries ≡ all_entries rows
removed_sum rows valid id version row e there =
    let s = version_split id version rows.versions valid.versions_rise there in
    let without_is : without_version id version rows.versions ≡ s.front ++ s.back = filter_split_at (is_of id version) (version_cmp id version) (is_of-version_cmp id version) rows.versions s in
    let found : version_row id version rows.versions ≡ Some s.row = find_split_at (is_of id version) (version_cmp id version) (is_of-version_cmp id version) rows.versions s in
    let same : row ≡ s.row = cc in
    let versions_sum : sum_rows rows.versions ≡ sum_rows (s.front ++ s.row ∷ s.back) = ap sum_rows s.is in
    rw (without_is, same) (omega (arith, sum_rows-middle s.front s.row s.back))

opened_apart : (rows : Rows) (job : ℕ) (row : PkgRow) → AreValid rows → MayOpen rows job row.package row.version row.entries → EachPair Differ (rows_of (rows.jobs ++ (job, row) ∷ []) ++ rows.versions)
opened_apart rows job row valid may =
    let is : rows_of (rows.jobs ++ (job, row) ∷ []) ++ rows.versions ≡ rows_of rows.jobs ++ row ∷ rows.versions = ap (λ t. t ++ rows.versions) (rows_of-append rows.jobs ((job, row) ∷ [])) ∙ append_assoc (rows_of rows.jobs) (row ∷ []) rows.versions in
    let no_job : find (λ (u : Unfinished). is_of row.package row.version u.1) rows.jobs ≡ None = no_number _ may.no_job in
    let before : AllByRecursion (λ x. Differ x row) (rows_of rows.jobs) =
    All-of_map (λ (u : Unfinished). u.1) (λ x. Differ x row) rows.jobs
    (All-map (λ (u : Unfinished). is_of row.package row.version u.1 ≡ false) (λ (u : Unfinished). Differ u.1 row) (λ u h. Differ-sym row u.1 h) rows.jobs (none_of_find (λ (u : Unfinished). is_of row.package row.version u.1) rows.jobs no_job)) in
    subst (EachPair Differ) (sym is) (EachPair-insert Differ (rows_of rows.jobs) row rows.versions valid.apart before (none_of_any (is_of row.package row.version) rows.versions may.no_version))
  where
    no_number : (o : Option Unfinished) → option_map (λ (u : Unfinished). u.0) o ≡ None → o ≡ None
    no_number None e = refl
    no_number (Some u) e = cc

pub opened_sum : (rows : Rows) (job : ℕ) (row : PkgRow) → sum_rows rows.versions + sum_jobs (rows.jobs ++ (job, row) ∷ []) ≡ all_entries rows + row.entries
opened_sum rows job row = omega (arith, sum_jobs-middle rows.jobs (job, row) [], ap sum_jobs (append-nil rows.jobs))

pub opened_valid : (rows : Rows) → AreValid rows → (job : ℕ) (row : PkgRow) → MayOpen rows job row.package row.version row.entries → AreValid (record { versions = rows.versions; jobs = rows.jobs ++ (job, row) ∷ []; next = rows.next + 1; lasts = with_last row.package row.version rows.lasts })
opened_valid rows valid job row may =
    let next = may.next in
    let fits = may.fits in
    let room = may.few_versions in
    let few_jobs = may.few_jobs in
    let few_entries = may.few_entries in
    let lasts = with_last row.package row.version rows.lasts in
    let covered = λ (r : PkgRow) (h : IsCovered rows.lasts r). covered_still row.package row.version rows.lasts valid.lasts_rise r.package r.version h in
    record {
      versions_rise = valid.versions_rise;
      jobs_rise = EachPair-insert (λ (a b : Unfinished). a.0 < b.0) rows.jobs (job, row) [] (subst JobsRise (sym (append-nil rows.jobs)) valid.jobs_rise) (All-map (λ (u : Unfinished). u.0 < rows.next) (λ (u : Unfinished). u.0 < job) (λ u h. omega arith) rows.jobs valid.below_next) tt;
      lasts_rise = lasts_with row.package row.version rows.lasts valid.lasts_rise;
      apart = opened_apart rows job row valid may;
      versions_covered = All-map (IsCovered rows.lasts) (IsCovered lasts) covered rows.versions valid.versions_covered;
      jobs_covered = All-append (JobCovered lasts) rows.jobs ((job, row) ∷ []) (All-map (JobCovered rows.lasts) (JobCovered lasts) (λ u h. covered u.1 h) rows.jobs valid.jobs_covered) (covered_now row.package row.version rows.lasts valid.lasts_rise, tt);
      below_next = All-append (λ (u : Unfinished). u.0 < rows.next + 1) rows.jobs ((job, row) ∷ []) (All-map (λ (u : Unfinished). u.0 < rows.next) (λ (u : Unfinished). u.0 < rows.next + 1) (λ u h. omega arith) rows.jobs valid.below_next) (omega arith, tt);
      first = omega arith;
      fits = omega arith;
      few_versions = omega (arith, length-append rows.jobs ((job, row) ∷ []));
      few_jobs = omega (arith, length-append rows.jobs ((job, row) ∷ []));
      few_entries = omega (arith, opened_sum rows job row);
    }

is_unfinished_of : (job : ℕ) (jobs : List Unfinished) (row : PkgRow) → row_of_job job jobs ≡ Some row → is_unfinished job jobs ≡ true
is_unfinished_of job jobs row e = ap is_some e

-- the row of an unfinished job is not among the versions
pub job_absent : (rows : Rows) → AreValid rows → (job : ℕ) (row : PkgRow) → row_of_job job rows.jobs ≡ Some row → list_any (is_of row.package row.version) rows.versions ≡ false
job_absent rows valid job row e =
    let s = unfinished_split job rows.jobs valid.jobs_rise (is_unfinished_of job rows.jobs row e) in
    let found = row_of_split job rows.jobs s in
    let same : row ≡ s.row.1 = cc in
    rw same (absent_split rows valid s.front s.row s.back s.is)

pub done_valid : (rows : Rows) → AreValid rows → (job : ℕ) (row : PkgRow) → row_of_job job rows.jobs ≡ Some row → AreValid (record { versions = with_row row rows.versions; jobs = without_job job rows.jobs; next = rows.next; lasts = rows.lasts })
done_valid rows valid job row e =
    let s = unfinished_split job rows.jobs valid.jobs_rise (is_unfinished_of job rows.jobs row e) in
    let found = row_of_split job rows.jobs s in
    let same : row ≡ s.row.1 = cc in
    rw same (done_split_valid rows valid job s)

pub done_sum : (rows : Rows) → AreValid rows → (job : ℕ) (row : PkgRow) → row_of_job job rows.jobs ≡ Some row → sum_rows (with_row row rows.versions) + sum_jobs (without_job job rows.jobs) ≡ all_entries rows
done_sum rows valid job row e =
    let s = unfinished_split job rows.jobs valid.jobs_rise (is_unfinished_of job rows.jobs row e) in
    let found = row_of_split job rows.jobs s in
    let same : row ≡ s.row.1 = cc in
    rw same (done_split_sum rows valid job s)

pub dropped_valid : (rows : Rows) → AreValid rows → (job : ℕ) → is_unfinished job rows.jobs ≡ true → AreValid (record { versions = rows.versions; jobs = without_job job rows.jobs; next = rows.next; lasts = rows.lasts })
dropped_valid rows valid job e = dropped_split_valid rows valid job (unfinished_split job rows.jobs valid.jobs_rise e)

pub dropped_sum : (rows : Rows) → AreValid rows → (job : ℕ) (row : PkgRow) → row_of_job job rows.jobs ≡ Some row → sum_rows rows.versions + sum_jobs (without_job job rows.jobs) + row.entries ≡ all_entries rows
dropped_sum rows valid job row e =
    let s = unfinished_split job rows.jobs valid.jobs_rise (is_unfinished_of job rows.jobs row e) in
    let found = row_of_split job rows.jobs s in
    let same : row ≡ s.row.1 = cc in
    rw same (dropped_split_sum rows job s)

pub opened_valid_behind : (rows : Rows) → AreValid rows → (job : ℕ) (row : PkgRow) → MayOpen rows job row.package row.version row.entries → AreValid (record { versions = rows.versions; jobs = rows.jobs ++ (job, row) ∷ []; next = job + 1; lasts = with_last row.package row.version rows.lasts })
opened_valid_behind rows valid job row may = subst (λ n. AreValid (record { versions = rows.versions; jobs = rows.jobs ++ (job, row) ∷ []; next = n + 1; lasts = with_last row.package row.version rows.lasts })) (sym may.next) (opened_valid rows valid job row may)
