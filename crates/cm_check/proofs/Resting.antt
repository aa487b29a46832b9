-- What a crash leaves of a settled library that is looked at.
use Rattle.std.proofs.Common.{◌≡◌, inl, inr, ℕ, List, sym, ◌∙◌, subst}
use Rattle.std.specs.Prelude.{Option, None}
use Rattle.std.specs.Option.{ForSome}
use Rattle.cm_disk.specs.Disk.{File, Files, IsImage, LeavesOnly}
use Rattle.cm_disk.proofs.Moments.{started, joins, weaker}
use Rattle.cm_state.specs.Changes.{StateChange}
use Rattle.cm_state.specs.Look.{Opened, look}
use Rattle.cm_state.specs.Opens.{Opens, OpensOr, EachOpensSome}
use Rattle.cm_state.specs.State.{State}
use Rattle.cm_library.specs.Calls.{AnyMoment}
use Rattle.cm_library.specs.Kept.{Seen}
use Rattle.cm_check.specs.Looks.{Looks}

one_state : (s : State) (image : Files) → OpensOr s None image → Opens image s
one_state s image either = elim either [ inl here ↦ here | inr here ↦ here ]

module _ {D : Type 0} (reads : D → Option Files) (may_leave : D → List ℕ → File → Type 0) (moment : D → ℕ) (left_since : D → ℕ → Files → Type 0) where
  -- while a call changes nothing
  pub call_opens : (old new : Seen D) → old.pending ≡ None → ForSome (reads old.disk) (λ files. old.pending ≡ None → look files ≡ Opened old.state)
      → (EachOpensSome (may_leave old.start) → ForSome (reads old.disk) (λ files. (found : State) → look files ≡ Opened found → AnyMoment moment left_since OpensOr (λ _. None) old.disk new.disk old.state old.pending found))
      → EachOpensSome (may_leave old.start) → ForSome (reads old.disk) (λ _. LeavesOnly moment left_since old.disk new.disk (λ image. Opens image old.state))
  call_opens old new none looks opens whole x told =
      weaker moment left_since old.disk new.disk (OpensOr old.state None) (λ image. Opens image old.state)
      (subst (λ (p : Option StateChange). AnyMoment moment left_since OpensOr (λ _. None) old.disk new.disk old.state p old.state) none (opens whole x told old.state (looks x told none)))
      (one_state old.state)

  -- before it
  pub rest_opens : (only_now : (disk : D) (files : Files) → left_since disk (moment disk) files → IsImage (may_leave disk) files) (old : Seen D) → old.pending ≡ None
      → (EachOpensSome (may_leave old.start) → ForSome (reads old.disk) (λ _. (image : Files) → IsImage (may_leave old.disk) image → OpensOr old.state old.pending image))
      → EachOpensSome (may_leave old.start) → ForSome (reads old.disk) (λ _. LeavesOnly moment left_since old.disk old.disk (λ image. Opens image old.state))
  rest_opens only_now old none tells whole x told =
      started moment left_since old.disk (λ image. Opens image old.state)
      (λ image left. one_state old.state image (subst (λ (p : Option StateChange). OpensOr old.state p image) none (tells whole x told image (only_now old.disk image left))))

  -- one look after another
  pub then_opens : (first now new : Seen D) → Looks reads first now
      → (EachOpensSome (may_leave first.start) → ForSome (reads first.disk) (λ _. LeavesOnly moment left_since first.disk now.disk (λ image. Opens image first.state)))
      → (EachOpensSome (may_leave now.start) → ForSome (reads now.disk) (λ _. LeavesOnly moment left_since now.disk new.disk (λ image. Opens image now.state)))
      → EachOpensSome (may_leave first.start) → ForSome (reads first.disk) (λ _. LeavesOnly moment left_since first.disk new.disk (λ image. Opens image first.state))
  then_opens first now new looks one two whole x told =
      joins moment left_since first.disk now.disk new.disk (λ image. Opens image first.state) (λ image. Opens image now.state) (one whole x told)
      (two (subst (λ (d : D). EachOpensSome (may_leave d)) (sym looks.rows.start) whole) x (looks.same ∙ told))
      (λ image here. subst (λ (s : State). Opens image s) looks.rows.state here)
