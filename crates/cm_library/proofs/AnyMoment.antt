-- What a crash leaves at any moment of a call.
use Rattle.std.proofs.Common.{◌≡◌, inl, inr, Bool, true, ap, ◌∙◌, subst, refl}
use Rattle.std.specs.Prelude.{ℕ, ◌≢◌, Option, None, Some, is_some, not, cond, ◌&&◌, Result, Ok, Err}
use Rattle.cm_disk.specs.Disk.{Files, LeavesOnly}
use Rattle.cm_disk.proofs.Moments.{weaker}
use Rattle.cm_pkglib.specs.Rows.{fault_of}
use Rattle.cm_pkglib.specs.declared.fault.RowFault.{RowFault}
use Rattle.cm_state.specs.Look.{Opened}
use Rattle.cm_state.specs.State.{State, rows_of}
use Rattle.cm_state.specs.Changes.{StateChange, record_of, is_in_range, if_allowed}
use Rattle.cm_library.specs.Calls.{AnyMoment}

-- a change that the rows take is allowed
pub is_taken : (change : StateChange) (s : State) → is_in_range change ≡ true → fault_of (rows_of s) (record_of change) ≡ None → if_allowed change s ≡ Some change
is_taken change s range free =
    ap (λ (b : Bool). cond (b && not (is_some (fault_of (rows_of s) (record_of change)))) (Some change) None) range
    ∙ ap (λ (o : Option RowFault). cond (true && not (is_some o)) (Some change) None) free

-- a call that changes no state
abbrev pub no_change : State → Option StateChange
no_change state = None

-- an error is no value
pub not_ok : {T E : Type 0} (e : E) (x : T) → (let r : Result T E = Err e in r) ≡ Ok x → ⊥
not_ok e x is = cc

-- one state is found
pub one_found : (a b : State) → Opened a ≡ Opened b → a ≡ b
one_found a b is = cc

module _ {D : Type 0} (moment : D → ℕ) (left_since : D → ℕ → Files → Type 0) (Or : State → Option StateChange → Files → Type 0) (change : State → Option StateChange) (old mid : D) (IsLeft : Files → Type 0) (run : LeavesOnly moment left_since old mid IsLeft)
    (s found : State) where
  -- settling failed
  pub not_settled : (pending : Option StateChange) → pending ≢ None → ((image : Files) → IsLeft image → Or s pending image) → AnyMoment moment left_since Or change old mid s pending found
  not_settled None some each = absurd (some refl)
  not_settled (Some failed) some each = inl (weaker moment left_since old mid IsLeft (Or s (Some failed)) run each)

  -- it was settled, and then the call did its work
  pub then_done : (new : D) (pending : Option StateChange) → ((image : Files) → IsLeft image → Or s pending image) → (pending ≡ None → mid ≡ old) → LeavesOnly moment left_since mid new (Or found (change found)) → AnyMoment moment left_since Or change old new s pending found
  then_done new None each same second = subst (λ (d : D). LeavesOnly moment left_since d new (Or found (change found))) (same refl) second
  then_done new (Some failed) each same second = inr (record { mid = mid; until = weaker moment left_since old mid IsLeft (Or s (Some failed)) run each; from = second })
