-- Changes that are replayed one after another.
use Rattle.std.proofs.Common.{◌≡◌, false, cond, List, [], ◌∷◌, ◌++◌, refl, ap, sym, subst, Option, Some, None, is_some, arith}
use Rattle.cm_pkglib.specs.declared.change.Change.{Change}
use Rattle.cm_pkglib.specs.declared.change.Change.TheVariants.{Opened, Done, Dropped, Removed}
use Rattle.cm_pkglib.specs.Rows.{Rows, no_rows, has_version, row_of_job, is_unfinished, with_done, without_job, fault_of, after, step, then_replay}
use Rattle.cm_pkglib.specs.Valid.{AreValid}
use Rattle.cm_pkglib.proofs.Steps.{may_open, opened_valid, done_valid, dropped_valid, removed_valid, when_true}

pub no_rows_valid : AreValid no_rows
no_rows_valid = record { versions_rise = tt; jobs_rise = tt; lasts_rise = tt; apart = tt; versions_covered = tt; jobs_covered = tt; below_next = tt; first = omega arith; fits = omega arith; few_versions = omega arith; few_jobs = omega arith; few_entries = omega arith }

pub after_valid : (change : Change) (rows : Rows) → AreValid rows → fault_of rows change ≡ None → AreValid (after change rows)
after_valid (Opened job id version entries size hash) rows valid e =
    opened_valid rows valid job (record { «package» = id; version = version; entries = entries; size = size; hash = hash }) (may_open rows job id version entries e)
after_valid (Done job) rows valid e =
    let there = when_true (is_unfinished job rows.jobs) _ e in
    elim (row_of_job job rows.jobs) as (λ o. row_of_job job rows.jobs ≡ o → AreValid (record { versions = with_done o rows.versions; jobs = without_job job rows.jobs; next = rows.next; lasts = rows.lasts })) [
      | Some row ↦ λ r. done_valid rows valid job row r
      | None ↦ λ r. let none : is_unfinished job rows.jobs ≡ false = ap is_some r in cc
    ] refl
after_valid (Dropped job) rows valid e = dropped_valid rows valid job (when_true (is_unfinished job rows.jobs) _ e)
after_valid (Removed id version) rows valid e = removed_valid rows valid id version (when_true (has_version id version rows) _ e)

replay_none : (changes : List Change) → then_replay changes None ≡ None
replay_none [] = refl
replay_none (change ∷ changes) = refl

pub replay_valid : (changes : List Change) (rows last : Rows) → AreValid rows → then_replay changes (Some rows) ≡ Some last → AreValid last
replay_valid [] rows last valid e = let same : rows ≡ last = cc in subst AreValid same valid
replay_valid (change ∷ changes) rows last valid e =
    elim (fault_of rows change) as (λ f. fault_of rows change ≡ f → then_replay changes (cond (is_some f) None (Some (after change rows))) ≡ Some last → AreValid last) [
      | None ↦ λ f h. replay_valid changes (after change rows) last (after_valid change rows valid f) h
      | Some x ↦ λ f h. let none = replay_none changes in cc
    ] refl e

pub replay_parts : (first second : List Change) (rows : Option Rows) → then_replay (first ++ second) rows ≡ then_replay second (then_replay first rows)
replay_parts [] second rows = refl
replay_parts (change ∷ first) second None = sym (replay_none second)
replay_parts (change ∷ first) second (Some rows) = replay_parts first second (step change rows)
