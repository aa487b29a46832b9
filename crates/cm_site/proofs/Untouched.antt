-- A bay of an open site of which a step changes nothing.
use Rattle.std.proofs.Common.{◌≡◌, ◌⊎◌, ℕ, ◌≤◌, Bool, true, false, List, [], ◌∷◌, Option, None, Some, inl, inr, refl, sym, ◌∙◌, ap, subst, arith}
use Rattle.std.specs.Prelude.{length, take}
use Rattle.std.specs.Option.{ForSome}
use Rattle.cm_disk.specs.Disk.{File, Files, IsImage, LeavesOnly}
use Rattle.cm_disk.proofs.Moments.{weaker}
use Rattle.cm_state.specs.Adding.{Told}
use Rattle.cm_site.specs.Contents.{Content, OfLibrary, OfRecords, after_all, ReadsAs, OpensTo, IsGood}
use Rattle.cm_site.specs.Machine.{Step}
use Rattle.cm_site.specs.Opened.{IsOpenAs, start_of, disk_of, content_of, end_of, part_of}
use Rattle.cm_site.specs.Runs.{KeepsBy, OpensAmong, Moves, Becomes, Leaves, HasRemoved, BayDone, IsAfter, BayGivesUp, BayStops, after, is_purged}
use Rattle.cm_site.specs.Worlds.{Part, own}
use Rattle.cm_site.specs.declared.member.Hold.{Hold}
use Rattle.cm_site.specs.declared.member.Hold.TheVariants as hold
use Rattle.cm_site.specs.declared.member.Member.{Member}
use Rattle.cm_site.proofs.Changes.{none_of_first}

module _ {D : Type 0} (reads : D → Option Files) (may_leave : D → List ℕ → File → Type 0) (moment : D → ℕ) (left_since : D → ℕ → Files → Type 0) (faults : D → ℕ) where
  abbrev IsOpen : List ℕ → Hold D → Type 0
  IsOpen name held = IsOpenAs reads may_leave moment left_since faults name held

  -- it reads as at the entry
  pub reads_same : (name : List ℕ) (held : Hold D) → IsOpen name held → reads (disk_of held) ≡ reads (start_of held)
  reads_same name (hold.Library library) opened = opened.1.same
  reads_same name (hold.Records records) opened = opened.1.same

  pub leaves_images : (name : List ℕ) (held : Hold D) → IsOpen name held → LeavesOnly moment left_since (start_of held) (disk_of held) (IsImage (may_leave (start_of held)))
  leaves_images name (hold.Library library) opened = opened.1.moments
  leaves_images name (hold.Records records) opened = opened.1.moments

  pub reads_as : (name : List ℕ) (held : Hold D) → IsOpen name held → ForSome (reads (start_of held)) (ReadsAs (content_of held))
  reads_as name (hold.Library library) opened = λ files told. opened.1.stands files told
  reads_as name (hold.Records records) opened = λ files told. (opened.1.stands files told).look

  pub opens_to : (name : List ℕ) (held : Hold D) → IsOpen name held → IsGood (content_of held) (may_leave (start_of held))
      → ForSome (reads (start_of held)) (λ _. (image : Files) → IsImage (may_leave (disk_of held)) image → OpensTo (content_of held) image)
  opens_to name (hold.Library library) opened good = λ files told image left. opened.1.whole good files told image left
  opens_to name (hold.Records records) opened good = λ files told image left. opened.1.whole files told image left

  pub keeps_same : (content : Content) (files : Files) → KeepsBy false content files files
  keeps_same (OfLibrary library) files = record { others = λ q elsewhere. refl; kept = λ q there. there }
  keeps_same (OfRecords register) files = record { others = λ q elsewhere. refl; there = λ q there. there }

  module _ (step : Step) (name : List ℕ) (held : Hold D) (opened : IsOpen name held) (unchanged : own name step.changes ≡ []) (kept : is_purged step name ≡ false) where
    abbrev part : Part
    part = record { name = name; content = content_of held; gate = end_of held }

    still : (n : ℕ) → after n step part ≡ content_of held
    still n = ap (λ changes. after_all changes (content_of held)) (none_of_first name n step.changes unchanged)

    places : Told (KeepsBy (is_purged step name) (content_of held)) (reads (start_of held)) (reads (disk_of held))
    places = subst (λ (b : Bool). Told (KeepsBy b (content_of held)) (reads (start_of held)) (reads (disk_of held))) (sym kept)
        (λ files told. (files, reads_same name held opened ∙ told, keeps_same (content_of held) files))

    moves : Moves reads may_leave moment left_since step part (start_of held) (disk_of held)
    moves = record {
      places = places;
      same = λ none not_purged. reads_same name held opened;
      moments = λ good files told. weaker moment left_since (start_of held) (disk_of held) (IsImage (may_leave (start_of held)))
          (λ (image : Files). IsImage (may_leave (start_of held)) image ⊎ OpensAmong step part image) (leaves_images name held opened) (λ image left. inl left);
    }

    becomes : (n : ℕ) → Becomes (reads (start_of held)) (reads (disk_of held)) (after n step part)
    becomes n = subst (λ (c : Content). Becomes (reads (start_of held)) (reads (disk_of held)) c) (sym (still n)) (λ files told. (files, reads_same name held opened ∙ told, reads_as name held opened files told))

    images : (n : ℕ) → IsGood (content_of held) (may_leave (start_of held))
        → ForSome (reads (start_of held)) (λ _. (image : Files) → IsImage (may_leave (disk_of held)) image → OpensTo (after n step part) image)
    images n good = subst (λ (c : Content). ForSome (reads (start_of held)) (λ _. (image : Files) → IsImage (may_leave (disk_of held)) image → OpensTo c image)) (sym (still n)) (opens_to name held opened good)

    -- it is so behind the whole step
    pub untouched_done : step.opens ≡ true → BayDone reads may_leave moment left_since step part (start_of held) (disk_of held)
    untouched_done opens = record {
      moves = moves;
      becomes = becomes (length step.changes);
      leaves = subst (λ (b : Bool). Leaves reads may_leave b (content_of held) (own name step.changes) (start_of held) (disk_of held)) (sym opens)
          (subst (λ changes. Leaves reads may_leave true (content_of held) changes (start_of held) (disk_of held)) (sym unchanged) (opens_to name held opened));
      removed = subst (λ (b : Bool). HasRemoved reads may_leave b (content_of held) (start_of held) (disk_of held)) (sym kept) tt;
    }

    -- and behind the first changes
    pub untouched_given_up : (n : ℕ) → BayGivesUp reads may_leave moment left_since n step part (start_of held) (disk_of held)
    untouched_given_up n = record { moves = moves; becomes = becomes n; images = λ good files told image left. inl (images n good files told image left) }

    pub untouched_stopped : (n : ℕ) → BayStops reads may_leave moment left_since n step part (start_of held) (disk_of held)
    untouched_stopped n = record { moves = moves; becomes = inl (becomes n); images = λ good files told image left. inl (inl (images n good files told image left)) }
