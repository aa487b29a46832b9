-- A step of a purge, by what its parts did.
use Rattle.std.proofs.Common.{◌≡◌, ℕ, Bool, true, false, List, refl, sym, ◌∙◌, ap, subst}
use Rattle.std.specs.Prelude.{◌≢◌, Option, None, Some, option_map, Result, Ok, Err, IfOk, IfSome, ◌<◌, nat_lt}
use Rattle.std.specs.Option.{ForSome}
use Rattle.std.proofs.Common.{arith, ◌+◌}
use Rattle.std.proofs.lemmas.Bool.{false≢true, ltb-true, ltb-false}
use Rattle.cm_base.specs.declared.hash.Hash.{Hash}
use Rattle.cm_disk.specs.Disk.{File, Files, Does, Only, is_above, IsNext, put, removed}
use Rattle.cm_disk.specs.Ranks.{ahead}
use Rattle.cm_disk.specs.Walks.{only_at}
use Rattle.cm_log.specs.Frames.{OnlyReads, LeavesAlone}
use Rattle.cm_log.proofs.Frames.{alone_only, alone_fewer, alone_then}
use Rattle.cm_state.specs.declared.fault.LibFault.{LibFault}
use Rattle.cm_state.specs.declared.fault.LibFault.TheVariants.{Disk}
use Rattle.cm_state.specs.Needed.{is_needed}
use Rattle.cm_state.specs.Purged.{is_loose}
use Rattle.cm_state.specs.State.{State}
use Rattle.cm_state.proofs.Purges.{same_test, not_loose, same_clears, told_clears, removal_clears}
use Rattle.cm_contents.specs.Seals.{named_times}
use Rattle.cm_contents.proofs.Counted.{needed_of, times_of}
use Rattle.cm_library.specs.Kept.{Seen}
use Rattle.cm_library.specs.Purging.{in_folders, in_store, IsOther, IsFirm, KeepsAll, StepsOn}

-- a place that names itself
abbrev pub itself : List ℕ → List ℕ
itself place = place

named_same : (o : Option (List ℕ)) → option_map itself o ≡ o
named_same None = refl
named_same (Some place) = refl

pub next_same : {E : Type 0} (reads : Option Files) (after : Option (List ℕ)) (result : Result (Option (List ℕ)) E) → IfOk result (λ next. ForSome reads (λ files. IsNext (only_at in_folders files) (option_map itself after) (option_map itself next)))
    → IfOk result (λ next. ForSome reads (λ files. IsNext (in_store files) after next))
next_same reads after (Ok next) least = λ x told.
    subst (λ (o : Option (List ℕ)). IsNext (in_store x) o next) (named_same after) (subst (λ (o : Option (List ℕ)). IsNext (in_store x) (option_map itself after) o) (named_same next) (least x told))
next_same reads after (Err e) least = tt

pub above_same : {E : Type 0} (after : Option (List ℕ)) (result : Result (Option (List ℕ)) E) → IfOk result (λ next. IfSome next (λ at. is_above (option_map itself after) at ≡ true)) → IfOk result (λ next. IfSome next (λ at. is_above after at ≡ true))
above_same after (Ok None) above = tt
above_same after (Ok (Some at)) above = subst (λ (o : Option (List ℕ)). is_above o at ≡ true) (named_same after) above
above_same after (Err e) above = tt

pub nearer_same : {E : Type 0} (after : Option (List ℕ)) (result : Result (Option (List ℕ)) E) → IfOk result (λ next. IfSome next (λ at. ahead (Some at) < ahead (option_map itself after))) → IfOk result (λ next. IfSome next (λ at. ahead (Some at) < ahead after))
nearer_same after (Ok None) near = tt
nearer_same after (Ok (Some at)) near = subst (λ (o : Option (List ℕ)). ahead (Some at) < ahead o) (named_same after) near
nearer_same after (Err e) near = tt

-- what is counted is needed
pub count_needed : (s : State) (hash : Hash) (count : ℕ) → count ≡ 0 + named_times hash s → nat_lt 0 count ≡ is_needed hash.0 s
count_needed s hash count is = same_test (nat_lt 0 count) (is_needed hash.0 s) there back
  where
    there : nat_lt 0 count ≡ true → is_needed hash.0 s ≡ true
    there some = let lt = ltb-true 0 count some in needed_of hash s (omega (arith, lt, is))

    back : is_needed hash.0 s ≡ true → nat_lt 0 count ≡ true
    back needed = by (nat_lt 0 count) refl
      where
        by : (b : Bool) → nat_lt 0 count ≡ b → b ≡ true
        by true some = refl
        by false none = let le = ltb-false 0 count none in let more = times_of hash s needed in absurd (omega (arith, le, more, is))

-- nothing has changed but the disk, in one call and in several
pub keeps_then : {D : Type 0} (old mid new : Seen D) → KeepsAll old mid → KeepsAll mid new → KeepsAll old new
keeps_then old mid new one two = record {
  rows = record {
    start = two.rows.start ∙ one.rows.start;
    state = two.rows.state ∙ one.rows.state;
    end = two.rows.end ∙ one.rows.end;
    pending = two.rows.pending ∙ one.rows.pending;
  };
  seals = two.seals ∙ one.seals;
  started = two.started ∙ one.started;
}

pub keeps_none : {D : Type 0} (view : Seen D) → KeepsAll view view
keeps_none view = record { rows = record { start = refl; state = refl; end = refl; pending = refl }; seals = refl; started = refl }

module _ {D : Type 0} {reads : D → Option Files} {may_leave : D → List ℕ → File → Type 0} {moment : D → ℕ} {left_since : D → ℕ → Files → Type 0} {faults : D → ℕ} (after : Option (List ℕ)) (old mid : Seen D) (all : KeepsAll old mid) (only : OnlyReads reads may_leave moment left_since faults old.disk mid.disk) where
  -- no place was found, since the disk failed
  pub step_failed : (fault : LibFault) → fault ≡ Disk → StepsOn reads may_leave after old mid (Err fault)
  step_failed fault is = record {
    refused = is;
    rows = all.rows;
    seals = all.seals;
    started = all.started;
    next = tt;
    above = tt;
    removed = tt;
    files = tt;
    durable = tt;
    ended = tt;
    clears = same_clears old.state (reads old.disk) (reads mid.disk) only.same;
  }

  -- there is none
  pub step_ended : ForSome (reads old.disk) (λ files. IsNext (in_store files) after None) → StepsOn reads may_leave after old mid (Ok (record { at = None; removed = false }))
  step_ended next = record {
    refused = tt;
    rows = all.rows;
    seals = all.seals;
    started = all.started;
    next = next;
    above = tt;
    removed = refl;
    files = tt;
    durable = tt;
    ended = λ none. only.same;
    clears = same_clears old.state (reads old.disk) (reads mid.disk) only.same;
  }

  pub only_firm : LeavesAlone (IsFirm old.state) reads may_leave moment left_since faults old.disk mid.disk
  only_firm = alone_only (IsFirm old.state) only

  module _ (at : List ℕ) (next : ForSome (reads old.disk) (λ files. IsNext (in_store files) after (Some at))) (above : is_above after at ≡ true) where
    -- it is not loose
    pub step_kept : false ≡ is_loose mid.state at → StepsOn reads may_leave after old mid (Ok (record { at = Some at; removed = false }))
    step_kept firm = record {
      refused = tt;
      rows = all.rows;
      seals = all.seals;
      started = all.started;
      next = next;
      above = above;
      removed = firm ∙ ap (λ (s : State). is_loose s at) all.rows.state;
      files = λ x told. (x, only.same ∙ told, refl);
      durable = λ no. absurd (false≢true no);
      ended = λ none. only.same;
      clears = same_clears old.state (reads old.disk) (reads mid.disk) only.same;
    }

    module _ (new : Seen D) (all' : KeepsAll mid new) (is : true ≡ is_loose mid.state at) where
      is_old : is_loose old.state at ≡ true
      is_old = sym (is ∙ ap (λ (s : State). is_loose s at) all.rows.state)

      both : KeepsAll old new
      both = keeps_then old mid new all all'

      -- it is removed
      pub step_gone : {T : Type 0} (x : T) → (let r : Result T LibFault = Ok x in Does (reads mid.disk) (reads new.disk) at removed r) → ForSome (reads mid.disk) (λ _. Only None (may_leave new.disk at)) → StepsOn reads may_leave after old new (Ok (record { at = Some at; removed = true }))
      step_gone {T} x does gone = record {
        refused = tt;
        rows = both.rows;
        seals = both.seals;
        started = both.started;
        next = next;
        above = above;
        removed = sym is_old;
        files = λ x told. (put x at None, does.ok x (only.same ∙ told), refl);
        durable = λ yes x told. gone x (only.same ∙ told);
        ended = λ none. absurd (no_place none);
        clears = told_clears old.state (reads old.disk) (reads mid.disk) (reads new.disk) (same_clears old.state (reads old.disk) (reads mid.disk) only.same) (removal_clears {T = T} {E = LibFault} old.state (reads mid.disk) (reads new.disk) at (Ok x) is_old does);
      }
        where
          no_place : Some at ≡ None → ⊥
          no_place none = cc

      -- its removal failed
      pub step_broken : {T : Type 0} (fault : LibFault) → fault ≡ Disk → (let r : Result T LibFault = Err fault in Does (reads mid.disk) (reads new.disk) at removed r) → StepsOn reads may_leave after old new (Err fault)
      step_broken {T} fault why does = record {
        refused = why;
        rows = both.rows;
        seals = both.seals;
        started = both.started;
        next = tt;
        above = tt;
        removed = tt;
        files = tt;
        durable = tt;
        ended = tt;
        clears = told_clears old.state (reads old.disk) (reads mid.disk) (reads new.disk) (same_clears old.state (reads old.disk) (reads mid.disk) only.same) (removal_clears {T = T} {E = LibFault} old.state (reads mid.disk) (reads new.disk) at (Err fault) is_old does);
      }

      pub step_alone : LeavesAlone (IsOther at) reads may_leave moment left_since faults mid.disk new.disk → LeavesAlone (IsFirm old.state) reads may_leave moment left_since faults old.disk new.disk
      step_alone alone = alone_then only_firm (alone_fewer (IsFirm old.state) (λ q firm. not_loose old.state at q is_old firm) alone)

      pub step_others : LeavesAlone (IsOther at) reads may_leave moment left_since faults mid.disk new.disk → (q : List ℕ) (file : File) → Some q ≢ Some at → may_leave new.disk q file → may_leave old.disk q file
      step_others alone q file other left = only.stop q file (alone.others q file (λ same. other (ap (λ (p : List ℕ). let o : Option (List ℕ) = Some p in o) same)) left)
