-- A library that is opened is sound.
use Rattle.std.proofs.Common.{◌≡◌, ℕ, List, [], ◌∷◌, refl, sym, ◌∙◌, ap, subst}
use Rattle.std.specs.Prelude.{Option, None, Some, is_some, ok_or, cond, Result, Ok, Err}
use Rattle.std.proofs.lemmas.Option.{same_Some}
use Rattle.cm_disk.specs.Disk.{Files}
use Rattle.cm_log.specs.declared.shelf.Shelf.TheVariants.{PkgLib}
use Rattle.cm_log.specs.Logs.{Entry as Record, Ending, Closed, Broken, Shelved, NoLog, Unread, Live, shelved}
use Rattle.cm_pkglib.specs.declared.change.Change.{Change}
use Rattle.cm_pkglib.specs.declared.fault.RowFault.{RowFault}
use Rattle.cm_pkglib.specs.Changes.{read_change}
use Rattle.cm_pkglib.specs.Rows.{Rows, no_rows, fault_of, after, step}
use Rattle.cm_pkglib.specs.Valid.{AreValid}
use Rattle.cm_pkglib.proofs.Replays.{no_rows_valid, after_valid}
use Rattle.cm_state.specs.State.{State}
use Rattle.cm_state.specs.Look.{Opened, rows_after_body, rows_from, ended_or, look_at, look}
use Rattle.cm_state.specs.Sound.{AreSound, IsSound}
use Rattle.cm_state.proofs.Loaded.{loaded_is}
use Rattle.cm_state.proofs.Replaying.{rows_refused, ended_some, not_broken, then_some}
use Rattle.cm_state.proofs.Soundness.{no_rows_sound, after_sound}

-- rows that records can make
pub record AreRows (rows : Rows) : Type 0 where
  pub valid : AreValid rows
  pub sound : AreSound rows

step_rows : (o : Option RowFault) (change : Change) (rows next : Rows) → AreRows rows → fault_of rows change ≡ o → cond (is_some o) None (Some (after change rows)) ≡ Some next → AreRows next
step_rows None change rows next are free is =
    subst AreRows (same_Some (after change rows) next is)
    (record { valid = after_valid change rows are.valid free; sound = after_sound change rows are.valid are.sound free })
step_rows (Some fault) change rows next are free is = absurd (cc)

body_rows : (body : List ℕ) (rows next : Rows) → AreRows rows → rows_after_body body rows ≡ Some next → AreRows next
body_rows body rows next are is =
    let t = then_some (read_change body) (λ change. step change rows) next is in
    step_rows (fault_of rows t.0) t.0 rows next are refl t.2

rows_from_rows : (entries : List Record) (rows last : Rows) → AreRows rows → rows_from (Ok rows) entries ≡ Ok last → AreRows last
rows_from_rows [] rows last are is = subst AreRows (same_rows rows last is) are
  where
    same_rows : (a b : Rows) → (let r : Result Rows ℕ = Ok a in r) ≡ Ok b → a ≡ b
    same_rows a b e = cc
rows_from_rows (e ∷ entries) rows last are is = by (rows_after_body e.body rows) refl (λ next a. rows_from_rows entries next last a)
  where
    by : (o : Option Rows) → rows_after_body e.body rows ≡ o → ((next : Rows) → AreRows next → rows_from (Ok next) entries ≡ Ok last → AreRows last) → AreRows last
    by None none rest =
        let clash : Err e.gate ≡ Ok last = sym (rows_refused e.gate entries) ∙ sym (ap (λ (o : Option Rows). rows_from (ok_or o e.gate) entries) none) ∙ is in
        absurd (cc)
    by (Some next) some rest = rest next (body_rows e.body rows next are some) (sym (ap (λ (o : Option Rows). rows_from (ok_or o e.gate) entries) some) ∙ is)

ended_sound : (files : Files) (place : List ℕ) (entries : List Record) (ending : Ending) (s : State) → ended_or files place ending (rows_from (Ok no_rows) entries) ≡ Opened s → IsSound s
ended_sound files place entries (Broken at) s is = absurd (not_broken files place at (rows_from (Ok no_rows) entries) s is)
ended_sound files place entries (Closed end) s is =
    let t = ended_some files place end (rows_from (Ok no_rows) entries) s is in
    subst AreSound (loaded_is files t.0 s t.3).rows_are (rows_from_rows entries no_rows t.0 (record { valid = no_rows_valid; sound = no_rows_sound }) t.1).sound

sound_at : (files : Files) (x : Shelved) (s : State) → look_at files x ≡ Opened s → IsSound s
sound_at files NoLog s is = absurd (cc)
sound_at files (Unread place at) s is = absurd (cc)
sound_at files (Live place reading) s is = ended_sound files place reading.entries reading.ending s is

pub look_sound : (files : Files) (s : State) → look files ≡ Opened s → IsSound s
look_sound files s is = sound_at files (shelved PkgLib files) s is
