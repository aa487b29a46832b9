-- A library stays in use.
use Rattle.std.proofs.Common.{◌≡◌, ℕ, ◌+◌, ◌-◌, ◌*◌, ◌≤◌, ◌^◌, Bool, true, false, length, refl, sym, ◌∙◌, ap, subst, arith}
use Rattle.std.specs.Prelude.{Option, None, Some, nat_lt, cond}
use Rattle.std.proofs.lemmas.Bool.{ltb-false, leb-true}
use Rattle.cm_pkglib.specs.declared.fault.RowFault.{RowFault}
use Rattle.cm_pkglib.specs.Changes.{spelled}
use Rattle.cm_pkglib.specs.Valid.{AreValid}
use Rattle.cm_state.specs.declared.fault.LibFault.{LibFault}
use Rattle.cm_state.specs.State.{State, rows_of}
use Rattle.cm_state.specs.Changes.{StateChange, record_of, changed}
use Rattle.cm_state.specs.Commits.{MayCommit}
use Rattle.cm_state.specs.Look.{has_room}
use Rattle.cm_state.specs.Sound.{AreFit}
use Rattle.cm_state.specs.Faults.{most_end, spent_or}
use Rattle.cm_state.specs.Standing.{IsFitAt}
use Rattle.cm_state.proofs.ImagesOpen.{rows_changed}
use Rattle.cm_state.proofs.Soundness.{after_fit, names_of}

-- once a change is committed
pub fit_then : (end end' : ℕ) (s : State) (change : StateChange) → IsFitAt end s → AreValid (rows_of s) → MayCommit end s change → end' ≡ end + 5 + length (spelled (record_of change)) → IsFitAt end' (changed change s)
fit_then end end' s change fit valid may is =
    let then = after_fit (record_of change) (rows_of s) valid (record { sound = fit.sound; named = fit.named }) (names_of (record_of change) may.form) may.allowed in
    let here = subst AreFit (sym (rows_changed s change)) then in
    record {
      room = ap (λ (n : ℕ). has_room n (rows_of (changed change s))) is ∙ may.room;
      sound = here.sound;
      named = here.named;
    }

-- nothing is spent
pub not_spent : (end : ℕ) (o : Option RowFault) → spent_or end o ≡ None → (o ≡ None) × (end ≤ 2 ^ 40 - 1048576)
not_spent end (Some fault) is = absurd (cc)
not_spent end None is = by (nat_lt most_end end) refl is
  where
    by : (b : Bool) → nat_lt most_end end ≡ b → (let o : Option LibFault = cond b (Some Rattle.cm_state.specs.declared.fault.LibFault.TheVariants.Spent) None in o) ≡ None → (let o : Option RowFault = None in o ≡ None) × (end ≤ 2 ^ 40 - 1048576)
    by true e clash = absurd (cc)
    by false e ok = (refl, ltb-false most_end end e)

-- the record of a change that may be committed fits
pub record_fits : (end : ℕ) (s : State) (change : StateChange) → MayCommit end s change → end + length (spelled (record_of change)) + 6 ≤ 2 ^ 40
record_fits end s change may =
    let rows = rows_of (changed change s) in
    let n = length (spelled (record_of change)) in
    let le = leb-true (end + 5 + n + 18 * length rows.versions + 36 * length rows.jobs) (2 ^ 40 - 1) may.room in
    omega (arith, le)
