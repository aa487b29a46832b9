-- The ends of `purge` on an opened library.
use Rattle.std.proofs.Common.{◌≡◌, ◌⊎◌, ℕ, ◌^◌, ◌<◌, Bool, true, false, List, [], Option, None, Result, Ok, Err, inl, inr, refl, sym, ◌∙◌, ap, subst, arith}
use Rattle.std.specs.Prelude.{is_some, OnOk, IfOk}
use Rattle.std.specs.Option.{ForSome}
use Rattle.std.specs.Str.{bytes_eq}
use Rattle.std.proofs.lemmas.Bool.{false≢true}
use Rattle.std.proofs.lemmas.Slice.Eq.{bytes_eq-Decides}
use Rattle.cm_base.specs.Causes.{Rose}
use Rattle.cm_datalib.specs.Places.{is_manifest_place}
use Rattle.cm_disk.specs.Disk.{File, Files, IsImage, LeavesOnly, Only}
use Rattle.cm_disk.specs.Walks.{AreListed}
use Rattle.cm_disk.proofs.Moments.{joins, weaker}
use Rattle.cm_filelib.specs.Places.{is_file_place}
use Rattle.cm_library.specs.Calls.{WorksOrStays, AnyMoment}
use Rattle.cm_library.specs.Kept.{Seen}
use Rattle.cm_library.specs.Purging.{Purges}
use Rattle.cm_library.specs.declared.purging.Purged.{Purged as Removed}
use Rattle.cm_state.specs.Adding.{Told}
use Rattle.cm_state.specs.Changes.{StateChange}
use Rattle.cm_state.specs.Faults.{RefusesOr}
use Rattle.cm_state.specs.Look.{Opened, look}
use Rattle.cm_state.specs.Opens.{Opens, OpensOr, EachOpensSome}
use Rattle.cm_state.specs.Purged.{Clears, loose, purged, counted}
use Rattle.cm_state.specs.State.{State}
use Rattle.cm_state.specs.declared.fault.LibFault.{LibFault}
use Rattle.cm_state.specs.declared.fault.LibFault.TheVariants.{Disk as DiskFault}
use Rattle.cm_site.specs.Contents.{OfLibrary}
use Rattle.cm_site.specs.Machine.{lifted}
use Rattle.cm_site.specs.Machine.{Step as SiteStep}
use Rattle.cm_site.specs.OneEnds.{part_with, OneEndsOn}
use Rattle.cm_site.specs.OneLibrary.{Given, Step, purge}
use Rattle.cm_site.specs.Opened.{IsOpened}
use Rattle.cm_site.specs.Runs.{Sourced, KeepsBy, OpensAmong, Moves, Becomes, HasPurged, HasRemoved, BayDone, is_purged}
use Rattle.cm_site.specs.Worlds.{Part}
use Rattle.cm_site.specs.declared.reply.Reply.TheVariants.{Purged, Disk}
use Rattle.cm_site.proofs.Closing.{Leaves, one_state, rose_before}
use Rattle.cm_site.proofs.Copies.{Counts, counted_in}
use Rattle.cm_site.proofs.SomeFiles.{amiss_or, amiss_told, given_at, starts_at}

-- a purge fails by the disk alone
pub fails_by : (result : Result Removed LibFault) (fault : LibFault) → RefusesOr None result → result ≡ Err fault → fault ≡ DiskFault
fails_by (Ok done) fault refuses is = absurd (cc)
fails_by (Err other) fault refuses is = let same : fault ≡ other = cc in same ∙ refuses

module _ {D : Type 0} (reads : D → Option Files) (may_leave : D → List ℕ → File → Type 0) (moment : D → ℕ) (left_since : D → ℕ → Files → Type 0) (faults : D → ℕ) (was now : Seen D)
    (open_is : IsOpened reads may_leave moment left_since faults was) (result : Result Removed LibFault)
    (call : WorksOrStays reads (λ started. started) (λ mid new. Purges reads may_leave mid new result) was now result) where
  pub works : Purges reads may_leave was now result
  works = elim call [
    | inl stays ↦ absurd (stays.1 open_is.settled)
    | inr done ↦ subst (λ (mid : Seen D). Purges reads may_leave mid now result) (done.2 open_is.settled) done.4
  ]

  module _ (bay : List ℕ)
      (opens : EachOpensSome (may_leave was.start) → ForSome (reads was.disk) (λ files. (found : State) → look files ≡ Opened found → AnyMoment moment left_since OpensOr (λ _. None) was.disk now.disk was.state was.pending found))
      (leaves : Leaves reads may_leave now) (from to : Sourced) where
    -- the settled library is in its state
    idle : now.pending ≡ None
    idle = works.rows.pending ∙ open_is.settled

    keeps : Told (Clears was.state) (reads was.start) (reads now.disk)
    keeps = subst (λ (o : Option Files). Told (Clears was.state) o (reads now.disk)) open_is.same works.clears

    abbrev part : Part
    part = part_with bay was.state was.end

    abbrev removal : Given → SiteStep
    removal given = lifted bay (purge given)

    purged_here : bytes_eq bay bay ≡ true
    purged_here = (bytes_eq-Decides bay bay).1 refl

    becomes : Becomes (reads was.start) (reads now.disk) part.content
    becomes files told = let t = keeps files told in (t.0, t.1, leaves.files t.0 t.1 idle ∙ ap Opened works.rows.state)

    images : EachOpensSome (may_leave was.start) → ForSome (reads was.start) (λ _. (image : Files) → IsImage (may_leave now.disk) image → Opens image was.state)
    images whole files told image left =
        let t = keeps files told in
        let either = leaves.opens (subst (λ (d : D). EachOpensSome (may_leave d)) (sym works.rows.start) whole) t.0 t.1 image left in
        subst (λ (s : State). Opens image s) works.rows.state (one_state image now.state (subst (λ (o : Option StateChange). OpensOr now.state o image) idle either))

    moments : (given : Given) → EachOpensSome (may_leave was.start)
        → ForSome (reads was.start) (λ _. LeavesOnly moment left_since was.start now.disk (λ (image : Files). IsImage (may_leave was.start) image ⊎ OpensAmong (removal given) part image))
    moments given whole files told =
        joins moment left_since was.start was.disk now.disk (λ (image : Files). IsImage (may_leave was.start) image ⊎ OpensAmong (removal given) part image) (OpensOr was.state None)
        (weaker moment left_since was.start was.disk (IsImage (may_leave was.start)) (λ (image : Files). IsImage (may_leave was.start) image ⊎ OpensAmong (removal given) part image) open_is.moments (λ image is. inl is))
        (subst (λ (o : Option StateChange). AnyMoment moment left_since OpensOr (λ _. None) was.disk now.disk was.state o was.state) open_is.settled
        (opens whole files (open_is.same ∙ told) was.state (open_is.stands files told)))
        (λ image opened. inr (0, omega arith, one_state image was.state opened))

    moves : (given : Given) → Moves reads may_leave moment left_since (removal given) part was.start now.disk
    moves given = record {
      places = subst (λ (b : Bool). Told (KeepsBy b part.content) (reads was.start) (reads now.disk)) (sym purged_here) keeps;
      same = λ none kept. absurd (false≢true (sym kept ∙ purged_here));
      moments = moments given;
    }

    -- all was removed
    module _ (done : Removed) (is : result ≡ Ok done) where
      gone : Told (λ files left. (q : List ℕ) → left q ≡ purged was.state files q) (reads was.start) (reads now.disk)
      gone =
          subst (λ (o : Option Files). Told (λ files left. (q : List ℕ) → left q ≡ purged was.state files q) o (reads now.disk)) open_is.same
          (subst (λ (r : Result Removed LibFault). OnOk r (Told (λ files left. (q : List ℕ) → left q ≡ purged was.state files q) (reads was.disk) (reads now.disk))) is works.all)

      durable : ForSome (reads was.start) (λ files. (q : List ℕ) → is_some (loose was.state files q) ≡ true → Only None (may_leave now.disk q))
      durable =
          subst (λ (o : Option Files). ForSome o (λ files. (q : List ℕ) → is_some (loose was.state files q) ≡ true → Only None (may_leave now.disk q))) open_is.same
          (subst (λ (r : Result Removed LibFault). OnOk r (ForSome (reads was.disk) (λ files. (q : List ℕ) → is_some (loose was.state files q) ≡ true → Only None (may_leave now.disk q)))) is works.durable)

      removed : HasPurged reads may_leave was.state was.start now.disk
      removed = record { gone = gone; images = durable }

      abbrev Told_as : Option Files → Removed → Type 0
      Told_as o done = ForSome o (λ files. (places : List (List ℕ)) × AreListed (loose was.state files) places × (done.files ≡ counted is_file_place places) × (done.manifests ≡ counted is_manifest_place places))

      counts : done.files < 2 ^ 32 → done.manifests < 2 ^ 32 → Counts was.state (reads was.start) done.files done.manifests
      counts few less =
          counted_in was.state (reads was.start) done.files done.manifests few less
          (subst (λ (o : Option Files). Told_as o done) open_is.same
          (subst (λ (r : Result Removed LibFault). IfOk r (λ done. Told_as (reads was.disk) done)) is works.counts))

      pub ends_purged : done.files < 2 ^ 32 → done.manifests < 2 ^ 32
          → OneEndsOn reads may_leave moment left_since faults bay was.state was.end (λ given state. purge given) from to (Purged done.files done.manifests) was.start now.disk
      ends_purged few less =
          let c = counts few less in
          let given = given_at from.shown was.end (amiss_or (reads was.start)) c.places in
          record {
            given = given;
            starts = starts_at from to (reads was.start) was.end (amiss_or (reads was.start)) c.places (amiss_told (reads was.start));
            gate_is = refl;
            asked = λ asks files told. c.listed files told;
            replies = ap (λ (n : ℕ). Purged n done.manifests) c.files_is ∙ ap (λ (n : ℕ). Purged (counted is_file_place c.places) n) c.manifests_is;
            done = record {
              moves = moves given;
              becomes = becomes;
              leaves = images;
              removed = subst (λ (b : Bool). HasRemoved reads may_leave b part.content was.start now.disk) (sym purged_here) removed;
            };
          }

    -- the disk failed
    pub ends_failed : Rose (faults was.disk) (faults now.disk) → OneEndsOn reads may_leave moment left_since faults bay was.state was.end (λ given state. purge given) from to (Disk bay) was.start now.disk
    ends_failed rose =
        let given = given_at from.shown was.end (amiss_or (reads was.start)) [] in (
          refl,
          rose_before (faults was.start) (faults was.disk) (faults now.disk) open_is.later rose,
          record {
            given = given;
            starts = starts_at from to (reads was.start) was.end (amiss_or (reads was.start)) [] (amiss_told (reads was.start));
            gate_is = refl;
            n = 0;
            within = omega arith;
            stands = record { moves = moves given; becomes = inl becomes; images = λ whole files told image left. inl (inl (images whole files told image left)) };
          },
        )
