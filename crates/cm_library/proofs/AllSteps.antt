-- All steps of a purge, and the search for a loose place, on a settled library.
use Rattle.std.proofs.Common.{◌≡◌, ℕ, ◌+◌, ◌-◌, ◌<◌, ◌≤◌, ◌^◌, Bool, true, false, List, sym, ◌∙◌, ap, subst, arith}
use Rattle.std.specs.Prelude.{◌≢◌, min, Option, None, Some, Result, Ok, Err, IfSome, if◌then◌else◌}
use Rattle.std.specs.Option.{ForSome}
use Rattle.cm_disk.specs.Disk.{File, Files, Only, is_above, IsNext, put}
use Rattle.cm_disk.specs.Ranks.{ahead}
use Rattle.cm_log.specs.Frames.{OnlyReads}
use Rattle.cm_datalib.specs.Places.{is_manifest_place}
use Rattle.cm_filelib.specs.Places.{is_file_place}
use Rattle.cm_state.specs.declared.fault.LibFault.{LibFault}
use Rattle.cm_state.specs.declared.fault.LibFault.TheVariants.{Disk}
use Rattle.cm_state.specs.Adding.{Told}
use Rattle.cm_state.specs.Purged.{is_loose, Clears}
use Rattle.cm_state.specs.State.{State}
use Rattle.cm_state.proofs.Purges.{told_clears}
use Rattle.cm_library.specs.declared.purging.PurgeStep.{PurgeStep}
use Rattle.cm_library.specs.declared.purging.Purged.{Purged}
use Rattle.cm_library.specs.Kept.{Seen}
use Rattle.cm_library.specs.Purging.{in_store, is_loose_or, KeepsAll, StepsOn, Purges, TellsLoose}
use Rattle.cm_library.proofs.Stepping.{keeps_then}
use Rattle.cm_library.proofs.Walked.{Reached, loose_none, loose_found, loose_passed, SoFar, one_gone, one_kept, Done, done}

module _ {D : Type 0} {reads : D → Option Files} {may_leave : D → List ℕ → File → Type 0} {moment : D → ℕ} {left_since : D → ℕ → Files → Type 0} {faults : D → ℕ} (after from : Option (List ℕ)) (old was new : Seen D) (all : KeepsAll old was) (only : OnlyReads reads may_leave moment left_since faults old.disk was.disk)
    (all' : KeepsAll was new) (only' : OnlyReads reads may_leave moment left_since faults was.disk new.disk) where
  both : KeepsAll old new
  both = keeps_then old was new all all'

  state_is : old.state ≡ new.state
  state_is = sym both.rows.state

  same : reads new.disk ≡ reads old.disk
  same = only'.same ∙ only.same

  -- the disk failed
  pub tells_failed : (fault : LibFault) → fault ≡ Disk → TellsLoose reads after old new (Err fault)
  tells_failed fault is = record {
    refused = is;
    rows = both.rows;
    seals = both.seals;
    started = both.started;
    same = same;
    next = tt;
    above = tt;
    nearer = tt;
  }

  module _ (reached : ForSome (reads old.disk) (λ files. Reached old.state files after from)) where
    -- no place is left
    pub tells_none : ForSome (reads was.disk) (λ files. IsNext (in_store files) from None) → TellsLoose reads after old new (Ok None)
    tells_none next = record {
      refused = tt;
      rows = both.rows;
      seals = both.seals;
      started = both.started;
      same = same;
      next = λ x told. loose_none old.state x after from (reached x told) (next x (only.same ∙ told));
      above = tt;
      nearer = tt;
    }

    module _ (at : List ℕ) (next : ForSome (reads was.disk) (λ files. IsNext (in_store files) from (Some at))) where
      -- a loose one
      pub tells_some : ((q : List ℕ) → is_above from q ≡ true → is_above after q ≡ true) → ahead from ≤ ahead after → is_above from at ≡ true → ahead (Some at) < ahead from → true ≡ is_loose new.state at → TellsLoose reads after old new (Ok (Some at))
      tells_some higher near above nearer is =
          let here : is_loose old.state at ≡ true = ap (λ (s : State). is_loose s at) state_is ∙ sym is in
          record {
            refused = tt;
            rows = both.rows;
            seals = both.seals;
            started = both.started;
            same = same;
            next = λ x told. loose_found old.state x after from at (reached x told) (next x (only.same ∙ told)) here;
            above = (higher at above, here);
            nearer = omega (arith, near, nearer);
          }

      -- one that is not
      pub passed : false ≡ is_loose new.state at → ForSome (reads old.disk) (λ files. Reached old.state files after (Some at))
      passed firm x told = loose_passed old.state x after from at (reached x told) (next x (only.same ∙ told)) (ap (λ (s : State). is_loose s at) state_is ∙ sym firm)

module _ {D : Type 0} (reads : D → Option Files) (may_leave : D → List ℕ → File → Type 0) (after : Option (List ℕ)) (old was new : Seen D) (all : KeepsAll old was) (clears : Told (Clears old.state) (reads old.disk) (reads was.disk)) where
  module _ (result : Result PurgeStep LibFault) (steps : StepsOn reads may_leave after was new result) where
    pub all_then : KeepsAll old new
    all_then = keeps_then old was new all (record { rows = steps.rows; seals = steps.seals; started = steps.started })

    pub clears_then : Told (Clears old.state) (reads old.disk) (reads new.disk)
    clears_then = told_clears old.state (reads old.disk) (reads was.disk) (reads new.disk) clears (subst (λ (s : State). Told (Clears s) (reads was.disk) (reads new.disk)) all.rows.state steps.clears)

  -- a step failed
  pub purges_failed : (fault : LibFault) → StepsOn reads may_leave after was new (Err fault) → Purges reads may_leave old new (Err fault)
  purges_failed fault steps = record {
    refused = steps.refused;
    rows = (all_then (Err fault) steps).rows;
    seals = (all_then (Err fault) steps).seals;
    started = (all_then (Err fault) steps).started;
    clears = clears_then (Err fault) steps;
    all = tt;
    durable = tt;
    counts = tt;
  }

  module _ (step : PurgeStep) (steps : StepsOn reads may_leave after was new (Ok step)) (others : (q : List ℕ) (file : File) → Some q ≢ step.at → may_leave new.disk q file → may_leave was.disk q file)
      (many : Purged) (so_far : ForSome (reads old.disk) (λ files. SoFar old.state files (reads was.disk) (may_leave was.disk) after many.files many.manifests)) where
    -- that was the last
    module _ (is : step.at ≡ None) where
      ended : (x : Files) → reads old.disk ≡ Some x → Done old.state x (reads new.disk) (may_leave new.disk) many.files many.manifests
      ended x told =
          let s = so_far x told in
          done old.state x (reads was.disk) (reads new.disk) (may_leave was.disk) (may_leave new.disk) after many.files many.manifests s (subst (λ (o : Option (List ℕ)). IsNext (in_store s.now) after o) is (steps.next s.now s.told)) (steps.ended is)
          (λ q file left. others q file (λ some. no_place q (some ∙ is)) left)
        where
          no_place : (q : List ℕ) → Some q ≡ None → ⊥
          no_place q some = cc

      pub purges_done : Purges reads may_leave old new (Ok many)
      purges_done = record {
        refused = tt;
        rows = (all_then (Ok step) steps).rows;
        seals = (all_then (Ok step) steps).seals;
        started = (all_then (Ok step) steps).started;
        clears = clears_then (Ok step) steps;
        all = λ x told. let d = ended x told in (d.now, d.told, d.all);
        durable = λ x told. (ended x told).durable;
        counts = λ x told. let d = ended x told in (d.places, d.listed, d.files_counted, d.manifests_counted);
      }

    -- a place more
    module _ (at : List ℕ) (is : step.at ≡ Some at) where
      next_is : (x : Files) → reads was.disk ≡ Some x → IsNext (in_store x) after (Some at)
      next_is x told = subst (λ (o : Option (List ℕ)). IsNext (in_store x) after o) is (steps.next x told)

      above_is : is_above after at ≡ true
      above_is = subst (λ (o : Option (List ℕ)). IfSome o (λ at. is_above after at ≡ true)) is steps.above

      removed_is : step.removed ≡ is_loose old.state at
      removed_is = steps.removed ∙ ap (λ (o : Option (List ℕ)). is_loose_or was.state o) is ∙ ap (λ (s : State). is_loose s at) all.rows.state

      files_are : (x : Files) → reads was.disk ≡ Some x → reads new.disk ≡ Some (if step.removed then put x at None else x)
      files_are x told =
          let t = subst (λ (o : Option (List ℕ)). IfSome o (λ at. Told (λ files now. now ≡ (if step.removed then put files at None else files)) (reads was.disk) (reads new.disk))) is steps.files x told in
          t.1 ∙ ap (λ (now : Files). let o : Option Files = Some now in o) t.2

      others_are : (q : List ℕ) (file : File) → q ≢ at → may_leave new.disk q file → may_leave was.disk q file
      others_are q file ne left = others q file (λ some. ne (one_place q (some ∙ is))) left
        where
          one_place : (q : List ℕ) → Some q ≡ Some at → q ≡ at
          one_place q some = cc

      pub so_far_gone : (more : Purged) → step.removed ≡ true → more.files ≡ min (many.files + (if is_file_place at then 1 else 0)) (2 ^ 32 - 1) → more.manifests ≡ min (many.manifests + (if is_manifest_place at then 1 else 0)) (2 ^ 32 - 1)
          → ForSome (reads old.disk) (λ files. SoFar old.state files (reads new.disk) (may_leave new.disk) (Some at) more.files more.manifests)
      so_far_gone more gone files manifests x told =
          let s = so_far x told in
          let durable = subst (λ (o : Option (List ℕ)). IfSome o (λ at. step.removed ≡ true → ForSome (reads was.disk) (λ _. Only None (may_leave new.disk at)))) is steps.durable in
          one_gone old.state x (reads was.disk) (reads new.disk) (may_leave was.disk) (may_leave new.disk) after many.files many.manifests s at (next_is s.now s.told) above_is others_are more.files more.manifests (sym removed_is ∙ gone)
          (files_are s.now s.told ∙ ap (λ (b : Bool). let o : Option Files = Some (if b then put s.now at None else s.now) in o) gone) (durable gone s.now s.told) files manifests

      pub so_far_kept : step.removed ≡ false → ForSome (reads old.disk) (λ files. SoFar old.state files (reads new.disk) (may_leave new.disk) (Some at) many.files many.manifests)
      so_far_kept kept x told =
          let s = so_far x told in
          one_kept old.state x (reads was.disk) (reads new.disk) (may_leave was.disk) (may_leave new.disk) after many.files many.manifests s at (next_is s.now s.told) above_is others_are (sym removed_is ∙ kept)
          (files_are s.now s.told ∙ ap (λ (b : Bool). let o : Option Files = Some (if b then put s.now at None else s.now) in o) kept)
