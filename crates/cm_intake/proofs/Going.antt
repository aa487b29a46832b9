-- A settled library goes on, and goes through the changes of an intake.
use Rattle.std.proofs.Common.{◌≡◌, inl, inr, ℕ, Bool, true, false, List, [], ◌∷◌, refl, sym, ◌∙◌, ap, subst, arith}
use Rattle.std.specs.Prelude.{◌⊎◌, cond, Option, None, Some, Result}
use Rattle.std.specs.Option.{ForSome}
use Rattle.cm_disk.specs.Disk.{File as Bytes, Files, IsImage, LeavesOnly}
use Rattle.cm_disk.proofs.Moments.{started, joins, weaker}
use Rattle.cm_filelib.specs.declared.writing.Writing.{Writing}
use Rattle.cm_state.specs.Adding.{Told}
use Rattle.cm_state.specs.Changes.{StateChange, changed, after_change, if_allowed, is_allowed}
use Rattle.cm_state.specs.Look.{Opened, look}
use Rattle.cm_state.specs.Opens.{Opens, OpensOr, EachOpensSome}
use Rattle.cm_state.specs.State.{State}
use Rattle.cm_state.specs.declared.fault.LibFault.{LibFault}
use Rattle.cm_library.specs.Calls.{AnyMoment, WorksOrStays, EndsOrStays, MayFind, Finds, Ends}
use Rattle.cm_library.specs.Filing.{KeepsRows}
use Rattle.cm_library.specs.Kept.{Seen}
use Rattle.cm_library.specs.Placing.{KeepsPlaces}
use Rattle.cm_library.proofs.KeptPlaces.{joined_places, same_places}
use Rattle.cm_intake.specs.Filling.{HoldsSame, KeepsState}
use Rattle.cm_intake.specs.Intake.{OpensAmong, Goes}
use Rattle.cm_intake.proofs.Held.{rows_then}

-- where a change is allowed or not, files open to the state before it or after it
allowed_or : (b : Bool) (change : StateChange) (s : State) (image : Files) → Opens image (after_change (cond b (Some change) None) s) → Opens image s ⊎ Opens image (changed change s)
allowed_or true change s image opens = inr opens
allowed_or false change s image opens = inl opens

before_or_after : (change : StateChange) (s : State) (image : Files) → OpensOr s (if_allowed change s) image → Opens image s ⊎ Opens image (changed change s)
before_or_after change s image either = elim either [ inl before ↦ inl before | inr after ↦ allowed_or (is_allowed change s) change s image after ]

one_state : (s : State) (image : Files) → OpensOr s None image → Opens image s
one_state s image either = elim either [ inl here ↦ here | inr here ↦ here ]

module _ {D : Type 0} (reads : D → Option Files) (may_leave : D → List ℕ → Bytes → Type 0) (moment : D → ℕ) (left_since : D → ℕ → Files → Type 0) where
  -- a call of a settled library does its work on it
  pub worked : {T : Type 0} (left : List (ℕ × Writing) → List (ℕ × Writing)) (Works : Seen D → Seen D → Type 0) (old new : Seen D) (result : Result T LibFault) → old.pending ≡ None → WorksOrStays reads left Works old new result → Works old new
  worked left Works old new result none call = elim call [
    | inl stays ↦ absurd (stays.1 none)
    | inr works ↦ subst (λ (mid : Seen D). Works mid new) (works.2 none) works.4
  ]

  -- a call with one change
  pub record EndsOn {T : Type 0} (change : State → StateChange) (Answers : Seen D → Result T LibFault → Type 0) (old new : Seen D) (result : Result T LibFault) : Type 0 where
    pub mid : Seen D
    pub finds : Finds reads old mid
    pub state : mid.state ≡ old.state
    pub end : mid.end ≡ old.end
    pub answers : Answers mid result
    pub ends : Ends mid (change mid.state) new result

  pub ended : {T : Type 0} (change : State → StateChange) (Answers : Seen D → Result T LibFault → Type 0) (old new : Seen D) (result : Result T LibFault) → old.pending ≡ None → EndsOrStays reads change Answers old new result → EndsOn change Answers old new result
  ended change Answers old new result none call = elim call [
    | inl stays ↦ absurd (stays.1 none)
    | inr works ↦
        let may = subst (λ (p : Option StateChange). MayFind p old.state old.end works.0.state works.0.end) none works.1.may in
        record { mid = works.0; finds = works.1; state = may.0; end = may.1; answers = works.2; ends = works.3 }
  ]

  -- what a crash leaves while it does
  pub settled_opens : (change : State → Option StateChange) (old new : Seen D) → old.pending ≡ None → ForSome (reads old.disk) (λ files. old.pending ≡ None → look files ≡ Opened old.state)
      → (EachOpensSome (may_leave old.start) → ForSome (reads old.disk) (λ files. (found : State) → look files ≡ Opened found → AnyMoment moment left_since OpensOr change old.disk new.disk old.state old.pending found))
      → EachOpensSome (may_leave old.start) → ForSome (reads old.disk) (λ _. LeavesOnly moment left_since old.disk new.disk (OpensOr old.state (change old.state)))
  settled_opens change old new none looks opens whole x told =
      subst (λ (p : Option StateChange). AnyMoment moment left_since OpensOr change old.disk new.disk old.state p old.state) none (opens whole x told old.state (looks x told none))

  pub kept : (job : ℕ) (old new : Seen D) → old.pending ≡ None → ForSome (reads old.disk) (λ files. old.pending ≡ None → look files ≡ Opened old.state)
      → (EachOpensSome (may_leave old.start) → ForSome (reads old.disk) (λ files. (found : State) → look files ≡ Opened found → AnyMoment moment left_since OpensOr (λ _. None) old.disk new.disk old.state old.pending found))
      → Told KeepsPlaces (reads old.disk) (reads new.disk) → KeepsRows old new → HoldsSame job old.started new.started → KeepsState reads may_leave moment left_since job old new
  kept job old new none looks opens places rows held = record {
    rows = rows;
    held = held;
    places = places;
    opens = λ whole x told. weaker moment left_since old.disk new.disk (OpensOr old.state None) (λ image. Opens image old.state) (settled_opens (λ _. None) old new none looks opens whole x told) (one_state old.state);
  }

  -- one after another
  pub keeps_then : (job : ℕ) (a b c : Seen D) → KeepsState reads may_leave moment left_since job a b → KeepsState reads may_leave moment left_since job b c → KeepsState reads may_leave moment left_since job a c
  keeps_then job a b c first second = record {
    rows = rows_then a b c first.rows second.rows;
    held = λ hash. second.held hash ∙ first.held hash;
    places = joined_places (reads a.disk) (reads b.disk) (reads c.disk) first.places second.places;
    opens = λ whole x told.
        let m = first.places x told in
        joins moment left_since a.disk b.disk c.disk (λ image. Opens image a.state) (λ image. Opens image b.state) (first.opens whole x told)
        (second.opens (subst (λ (d : D). EachOpensSome (may_leave d)) (sym first.rows.start) whole) m.0 m.1)
        (λ image here. subst (λ (s : State). Opens image s) first.rows.state here);
  }

  module _ (only_now : (disk : D) (files : Files) → left_since disk (moment disk) files → IsImage (may_leave disk) files) where
    -- what a crash leaves where nothing is done
    at_rest : (old : Seen D) (P : Files → Type 0) → old.pending ≡ None → (EachOpensSome (may_leave old.start) → ForSome (reads old.disk) (λ _. (image : Files) → IsImage (may_leave old.disk) image → OpensOr old.state old.pending image))
        → ((image : Files) → Opens image old.state → P image) → EachOpensSome (may_leave old.start) → ForSome (reads old.disk) (λ _. LeavesOnly moment left_since old.disk old.disk P)
    at_rest old P none tells here whole x told =
        started moment left_since old.disk P (λ image left. here image (one_state old.state image (subst (λ (p : Option StateChange). OpensOr old.state p image) none (tells whole x told image (only_now old.disk image left)))))

    pub keeps_itself : (job : ℕ) (old : Seen D) → old.pending ≡ None → (EachOpensSome (may_leave old.start) → ForSome (reads old.disk) (λ _. (image : Files) → IsImage (may_leave old.disk) image → OpensOr old.state old.pending image))
        → KeepsState reads may_leave moment left_since job old old
    keeps_itself job old none tells = record {
      rows = record { start = refl; state = refl; end = refl; pending = refl };
      held = λ hash. refl;
      places = same_places (reads old.disk) (reads old.disk) refl;
      opens = at_rest old (λ image. Opens image old.state) none tells (λ image here. here);
    }

    -- it has gone through none of the changes
    pub goes_none : (changes : List StateChange) (old new : Seen D) → old.pending ≡ None → (EachOpensSome (may_leave old.start) → ForSome (reads old.disk) (λ _. (image : Files) → IsImage (may_leave old.disk) image → OpensOr old.state old.pending image))
        → new.state ≡ old.state → new.start ≡ old.start → new.disk ≡ old.disk → Goes reads may_leave moment left_since 0 changes old new
    goes_none changes old new none tells state start disk = record {
      within = omega arith;
      state = state;
      start = start;
      moments = λ whole x told.
          subst (λ (d : D). LeavesOnly moment left_since old.disk d (OpensAmong changes old.state)) (sym disk)
          (at_rest old (OpensAmong changes old.state) none tells (λ image here. (0, omega arith, here)) whole x told);
    }

  -- the first of them is in flight
  first_among : (a b : StateChange) (s : State) (image : Files) → OpensOr s (if_allowed a s) image → OpensAmong (a ∷ b ∷ []) s image
  first_among a b s image either = elim (before_or_after a s image either) [ inl before ↦ (0, omega arith, before) | inr after ↦ (1, omega arith, after) ]

  pub goes_first : (a b : StateChange) (old new : Seen D) → (EachOpensSome (may_leave old.start) → ForSome (reads old.disk) (λ _. LeavesOnly moment left_since old.disk new.disk (OpensOr old.state (if_allowed a old.state))))
      → new.state ≡ changed a old.state → new.start ≡ old.start → Goes reads may_leave moment left_since 1 (a ∷ b ∷ []) old new
  goes_first a b old new opens state start = record {
    within = omega arith;
    state = state;
    start = start;
    moments = λ whole x told. weaker moment left_since old.disk new.disk (OpensOr old.state (if_allowed a old.state)) (OpensAmong (a ∷ b ∷ []) old.state) (opens whole x told) (first_among a b old.state);
  }

  pub goes_unbegun : (a b : StateChange) (old new : Seen D) → (EachOpensSome (may_leave old.start) → ForSome (reads old.disk) (λ _. LeavesOnly moment left_since old.disk new.disk (OpensOr old.state (if_allowed a old.state))))
      → new.state ≡ old.state → new.start ≡ old.start → Goes reads may_leave moment left_since 0 (a ∷ b ∷ []) old new
  goes_unbegun a b old new opens state start = record {
    within = omega arith;
    state = state;
    start = start;
    moments = λ whole x told. weaker moment left_since old.disk new.disk (OpensOr old.state (if_allowed a old.state)) (OpensAmong (a ∷ b ∷ []) old.state) (opens whole x told) (first_among a b old.state);
  }

  -- it has gone through the first, and works on files
  pub goes_kept : (changes : List StateChange) (n job : ℕ) (first old new : Seen D) → Goes reads may_leave moment left_since n changes first old → Told KeepsPlaces (reads first.disk) (reads old.disk)
      → KeepsState reads may_leave moment left_since job old new → Goes reads may_leave moment left_since n changes first new
  goes_kept changes n job first old new goes places keeps = record {
    within = goes.within;
    state = keeps.rows.state ∙ goes.state;
    start = keeps.rows.start ∙ goes.start;
    moments = λ whole x told.
        let m = places x told in
        joins moment left_since first.disk old.disk new.disk (OpensAmong changes first.state) (λ image. Opens image old.state) (goes.moments whole x told)
        (keeps.opens (subst (λ (d : D). EachOpensSome (may_leave d)) (sym goes.start) whole) m.0 m.1)
        (λ image here. (n, goes.within, subst (λ (s : State). Opens image s) goes.state here));
  }

  -- the second is in flight
  second_moments : (a b : StateChange) (first mid new : Seen D) → Goes reads may_leave moment left_since 1 (a ∷ b ∷ []) first mid → Told KeepsPlaces (reads first.disk) (reads mid.disk)
      → (EachOpensSome (may_leave mid.start) → ForSome (reads mid.disk) (λ _. LeavesOnly moment left_since mid.disk new.disk (OpensOr mid.state (if_allowed b mid.state))))
      → EachOpensSome (may_leave first.start) → ForSome (reads first.disk) (λ _. LeavesOnly moment left_since first.disk new.disk (OpensAmong (a ∷ b ∷ []) first.state))
  second_moments a b first mid new goes places opens whole x told =
      let m = places x told in
      joins moment left_since first.disk mid.disk new.disk (OpensAmong (a ∷ b ∷ []) first.state) (OpensOr mid.state (if_allowed b mid.state)) (goes.moments whole x told)
      (opens (subst (λ (d : D). EachOpensSome (may_leave d)) (sym goes.start) whole) m.0 m.1)
      (λ image either. elim (before_or_after b mid.state image either) [
        | inl before ↦ (1, omega arith, subst (λ (s : State). Opens image s) goes.state before)
        | inr after ↦ (2, omega arith, subst (λ (s : State). Opens image (changed b s)) goes.state after)
      ])

  pub goes_second : (a b : StateChange) (first mid new : Seen D) → Goes reads may_leave moment left_since 1 (a ∷ b ∷ []) first mid → Told KeepsPlaces (reads first.disk) (reads mid.disk)
      → (EachOpensSome (may_leave mid.start) → ForSome (reads mid.disk) (λ _. LeavesOnly moment left_since mid.disk new.disk (OpensOr mid.state (if_allowed b mid.state))))
      → new.state ≡ changed b mid.state → new.start ≡ mid.start → Goes reads may_leave moment left_since 2 (a ∷ b ∷ []) first new
  goes_second a b first mid new goes places opens state start = record {
    within = omega arith;
    state = state ∙ ap (λ (s : State). changed b s) goes.state;
    start = start ∙ goes.start;
    moments = second_moments a b first mid new goes places opens;
  }

  pub goes_unended : (a b : StateChange) (first mid new : Seen D) → Goes reads may_leave moment left_since 1 (a ∷ b ∷ []) first mid → Told KeepsPlaces (reads first.disk) (reads mid.disk)
      → (EachOpensSome (may_leave mid.start) → ForSome (reads mid.disk) (λ _. LeavesOnly moment left_since mid.disk new.disk (OpensOr mid.state (if_allowed b mid.state))))
      → new.state ≡ mid.state → new.start ≡ mid.start → Goes reads may_leave moment left_since 1 (a ∷ b ∷ []) first new
  goes_unended a b first mid new goes places opens state start = record {
    within = omega arith;
    state = state ∙ goes.state;
    start = start ∙ goes.start;
    moments = second_moments a b first mid new goes places opens;
  }
