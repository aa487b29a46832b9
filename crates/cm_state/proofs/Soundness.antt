-- What holds of each state that records make.
use Rattle.std.proofs.Common.{◌≡◌, ℕ, Bool, true, false, List, [], ◌∷◌, length, refl}
use Rattle.std.specs.Prelude.{Option, None, Some, cond, option_map, find, not, ◌==◌, ◌&&◌, take, drop}
use Rattle.std.specs.List.{AllByRecursion, list_all}
use Rattle.std.proofs.lemmas.Bool.{eqb-true}
use Rattle.cm_pkglib.specs.declared.row.PkgRow.{PkgRow}
use Rattle.cm_pkglib.specs.declared.change.Change.{Change}
use Rattle.cm_pkglib.specs.declared.change.Change.TheVariants.{Opened, Done, Dropped, Removed}
use Rattle.cm_pkglib.specs.Rows.{Rows, no_rows, is_of, is_before, with_row, with_done, fault_of, after}
use Rattle.cm_pkglib.specs.Valid.{AreValid}
use Rattle.cm_pkglib.proofs.Among.{All-append}
use Rattle.cm_pkglib.proofs.Replays.{after_valid}
use Rattle.cm_base.specs.Names.{is_code_byte, is_upper_hex, is_package_id}
use Rattle.cm_pkglib.specs.Changes.{IsChange}
use Rattle.cm_state.specs.Sound.{AreSound, IsNamed, AreNamed, AreFit, NamesVersion}
use Rattle.cm_state.proofs.Lists.{all_filter, found_one}

abbrev Job : Type 0
Job = ℕ × PkgRow

all_put : (P : PkgRow → Type 0) (row : PkgRow) (rows : List PkgRow) → P row → AllByRecursion P rows → AllByRecursion P (with_row row rows)
all_put P row [] p all = (p, tt)
all_put P row (r ∷ rows) p all = by (is_before row r) (all_put P row rows p all.1)
  where
    by : (b : Bool) → AllByRecursion P (with_row row rows) → AllByRecursion P (cond b (row ∷ r ∷ rows) (r ∷ with_row row rows))
    by true rest = (p, (all.0, all.1))
    by false rest = (all.0, rest)

pub no_rows_sound : AreSound no_rows
no_rows_sound = record { below = tt; versions_covered = tt; jobs_covered = tt }

pub after_sound : (change : Change) (rows : Rows) → AreValid rows → AreSound rows → fault_of rows change ≡ None → AreSound (after change rows)
after_sound change rows valid sound free =
    let then = after_valid change rows valid free in
    record { below = then.below_next; versions_covered = then.versions_covered; jobs_covered = then.jobs_covered }

-- names stay names
named_done : (o : Option Job) (rows : List PkgRow) → ((job : Job) → o ≡ Some job → IsNamed job.1) → AllByRecursion IsNamed rows → AllByRecursion IsNamed (with_done (option_map (λ (u : Job). u.1) o) rows)
named_done None rows one all = all
named_done (Some job) rows one all = all_put IsNamed job.1 rows (one job refl) all

pub after_named : (change : Change) (rows : Rows) → AreNamed rows → NamesVersion change → AreNamed (after change rows)
after_named (Opened job id version entries size hash) rows named names = record { versions = named.versions; jobs = All-append (λ (u : Job). IsNamed u.1) rows.jobs _ named.jobs (names, tt) }
after_named (Done job) rows named names = record {
  versions = named_done (find (λ (u : Job). u.0 == job) rows.jobs) rows.versions (λ j is. found_one (λ (u : Job). IsNamed u.1) (λ (u : Job). u.0 == job) rows.jobs named.jobs j is) named.versions;
  jobs = all_filter (λ (u : Job). IsNamed u.1) (λ (u : Job). not (u.0 == job)) rows.jobs named.jobs;
}
after_named (Dropped job) rows named names = record { versions = named.versions; jobs = all_filter (λ (u : Job). IsNamed u.1) (λ (u : Job). not (u.0 == job)) rows.jobs named.jobs }
after_named (Removed id version) rows named names = record { versions = all_filter IsNamed (λ (r : PkgRow). not (is_of id version r)) rows.versions named.versions; jobs = named.jobs }

pub no_rows_fit : AreFit no_rows
no_rows_fit = record { sound = no_rows_sound; named = record { versions = tt; jobs = tt } }

pub after_fit : (change : Change) (rows : Rows) → AreValid rows → AreFit rows → NamesVersion change → fault_of rows change ≡ None → AreFit (after change rows)
after_fit change rows valid fit names free = record { sound = after_sound change rows valid fit.sound free; named = after_named change rows fit.named names }

-- a change in its ranges names a version
long_of : (a b c : Bool) → (a && b && c) ≡ true → a ≡ true
long_of true b c is = refl
long_of false b c is = absurd (cc)

pub id_long : (id : List ℕ) → is_package_id id ≡ true → length id ≡ 8
id_long id form = eqb-true (length id) 8 (long_of (length id == 8) (list_all is_code_byte (take 3 id)) (list_all is_upper_hex (drop 3 id)) form)

pub names_of : (change : Change) → IsChange change → NamesVersion change
names_of (Opened job id version entries size hash) ranges = (id_long id ranges.1, ranges.2.1)
names_of (Done job) ranges = tt
names_of (Dropped job) ranges = tt
names_of (Removed id version) ranges = tt
