-- The ends of a step of an open site of which nothing is done.
use Rattle.std.proofs.Common.{◌≡◌, ◌⊎◌, ℕ, ◌≤◌, Bool, true, false, List, [], ◌∷◌, Option, None, Some, inl, inr, refl, sym, ◌∙◌, ap, subst, arith}
use Rattle.std.specs.Prelude.{length}
use Rattle.std.specs.List.{AllByRecursion}
use Rattle.std.specs.Option.{ForSome, option_map_or}
use Rattle.std.specs.Str.{bytes_eq}
use Rattle.cm_disk.specs.Disk.{File, Files, IsImage, LeavesOnly}
use Rattle.cm_disk.proofs.Moments.{weaker}
use Rattle.cm_state.specs.Adding.{Told}
use Rattle.cm_site.specs.Contents.{OfLibrary, OfRecords, ReadsAs, OpensTo, IsGood}
use Rattle.cm_site.specs.Machine.{Given, Step, told}
use Rattle.cm_site.specs.Opened.{IsOpenSite, start_of, disk_of, content_of, part_of, world_of, bays_from, bays_now}
use Rattle.cm_site.specs.Runs.{Outside, IsInput, IsPart, Starts, AllBays, AreLoose, KeepsBy, Moves, OpensAmong, BayDone, BayGivesUp, Steps, GivesUp}
use Rattle.cm_site.specs.Worlds.{World, Part}
use Rattle.cm_site.specs.declared.member.Member.{Member}
use Rattle.cm_site.specs.declared.reply.Reply.{Reply}
use Rattle.cm_site.proofs.Lifted.{IsOpenMember, IsAmissIn, amiss_in, amiss_each, both_each, kinds_of, content_is, gate_is}
use Rattle.cm_site.proofs.SomeFiles.{amiss_told, some_are, some_readings}
use Rattle.cm_site.proofs.Untouched.{reads_same, leaves_images, reads_as, opens_to, keeps_same, untouched_done}

-- what holds of each bay holds of all
all_same : {D : Type 0} (P : Part → D → D → Type 0) (E : Member D → Type 0) → ((member : Member D) → E member → P (part_of member) (start_of member.hold) (disk_of member.hold))
    → (members : List (Member D)) → AllByRecursion E members → AllBays P (world_of members) (bays_from members) (bays_now members)
all_same P E here [] each = tt
all_same P E here (member ∷ members) each = (refl, refl, here member each.0, all_same P E here members each.1)

module _ {D : Type 0} (reads : D → Option Files) (may_leave : D → List ℕ → File → Type 0) (moment : D → ℕ) (left_since : D → ℕ → Files → Type 0) (faults : D → ℕ)
    (members : List (Member D)) (opened : IsOpenSite reads may_leave moment left_since faults members) (from to : Outside) (minute : ℕ) where
  -- what is known of each member
  abbrev pub IsKnown : Member D → Type 0
  IsKnown member = IsOpenMember reads may_leave moment left_since faults member × IsAmissIn reads may_leave moment left_since faults members member

  pub known : AllByRecursion IsKnown members
  known = both_each reads may_leave moment left_since faults (IsOpenMember reads may_leave moment left_since faults) (IsAmissIn reads may_leave moment left_since faults members) members opened.each
      (amiss_each reads may_leave moment left_since faults members opened.bays.distinct)

  -- what a step may be given that asks for nothing
  abbrev pub given_of : Option (List ℕ) → Given
  given_of text = record {
    readings = some_readings from.folder.shown;
    amiss = amiss_in reads may_leave moment left_since faults members;
    loose = [];
    text = text;
    minute = minute;
  }

  pub part_is : (text : Option (List ℕ)) (member : Member D) → IsKnown member → ForSome (reads (start_of member.hold)) (IsPart (given_of text) (part_of member))
  part_is text member is = λ files told. record {
    content = content_is reads may_leave moment left_since faults member.name member.hold is.0 files told;
    gate = gate_is reads may_leave moment left_since faults member.name member.hold is.0 files told;
    amiss = λ manifest. is.1 manifest ∙ amiss_told (reads (start_of member.hold)) files told manifest;
  }

  -- a step starts from it
  pub starts_with : (text : Option (List ℕ)) (news : List (Member D)) → IsInput from.input to.input text
      → AllBays (λ part disk _. ForSome (reads disk) (IsPart (given_of text) part)) (world_of members) (bays_from members) (bays_now news)
      → Starts reads from to minute (given_of text) (world_of members) (bays_from members) (bays_now news)
  starts_with text news input parts = record {
    readings = some_are from.folder.shown from.folder.faults to.folder.faults;
    text = input;
    minute_is = refl;
    kinds = kinds_of reads may_leave moment left_since faults members opened.each;
    parts = parts;
  }

  starts : (text : Option (List ℕ)) → IsInput from.input to.input text → Starts reads from to minute (given_of text) (world_of members) (bays_from members) (bays_now members)
  starts text input = starts_with text members input (all_same (λ part disk _. ForSome (reads disk) (IsPart (given_of text) part)) IsKnown (part_is text) members known)

  module _ (step : Given → World → Step) (text : Option (List ℕ)) (input : IsInput from.input to.input text) where
    -- the step is a reply
    pub steps_rest : (reply : Reply) → step (given_of text) (world_of members) ≡ told reply → Steps reads may_leave moment left_since step from to minute (bays_from members) (bays_now members) reply
    steps_rest reply is = let back : told reply ≡ step (given_of text) (world_of members) = sym is in record {
      given = given_of text;
      world = world_of members;
      starts = starts text input;
      asked = subst (λ (s : Step). AllBays (λ part disk _. ForSome (reads disk) (λ files. AreLoose s.asks part files [])) (world_of members) (bays_from members) (bays_now members)) back
          (all_same (λ part disk _. ForSome (reads disk) (λ files. AreLoose None part files [])) IsKnown (λ member is files told. tt) members known);
      replies = ap (λ (s : Step). s.reply) back;
      bays = subst (λ (s : Step). AllBays (BayDone reads may_leave moment left_since s) (world_of members) (bays_from members) (bays_now members)) back
          (all_same (BayDone reads may_leave moment left_since (told reply)) IsKnown
          (λ member is. untouched_done reads may_leave moment left_since faults (told reply) member.name member.hold is.0 refl refl refl) members known);
    }

    -- there was no memory, and nothing is purged
    module _ (s : Step) (none : s.purges ≡ None) where
      kept : (name : List ℕ) → option_map_or (λ bay. bytes_eq bay name) s.purges false ≡ false
      kept name = ap (λ (o : Option (List ℕ)). option_map_or (λ bay. bytes_eq bay name) o false) none

      given_up : (member : Member D) → IsKnown member → BayGivesUp reads may_leave moment left_since 0 s (part_of member) (start_of member.hold) (disk_of member.hold)
      given_up member is = record {
        moves = record {
          places = subst (λ (b : Bool). Told (KeepsBy b (content_of member.hold)) (reads (start_of member.hold)) (reads (disk_of member.hold))) (sym (kept member.name))
              (λ files told. (files, reads_same reads may_leave moment left_since faults member.name member.hold is.0 ∙ told, keeps_same reads may_leave moment left_since faults (content_of member.hold) files));
          same = λ unchanged not_purged. reads_same reads may_leave moment left_since faults member.name member.hold is.0;
          moments = λ good files told. weaker moment left_since (start_of member.hold) (disk_of member.hold) (IsImage (may_leave (start_of member.hold)))
              (λ (image : Files). IsImage (may_leave (start_of member.hold)) image ⊎ OpensAmong s (part_of member) image) (leaves_images reads may_leave moment left_since faults member.name member.hold is.0) (λ image left. inl left);
        };
        becomes = λ files told. (files, reads_same reads may_leave moment left_since faults member.name member.hold is.0 ∙ told, reads_as reads may_leave moment left_since faults member.name member.hold is.0 files told);
        images = λ good files told image left. inl (opens_to reads may_leave moment left_since faults member.name member.hold is.0 good files told image left);
      }

    pub gives_up_rest : (step (given_of text) (world_of members)).purges ≡ None → GivesUp reads may_leave moment left_since step from to minute (bays_from members) (bays_now members)
    gives_up_rest none = record {
      given = given_of text;
      world = world_of members;
      starts = starts text input;
      n = 0;
      within = omega arith;
      bays = all_same (BayGivesUp reads may_leave moment left_since 0 (step (given_of text) (world_of members))) IsKnown (given_up (step (given_of text) (world_of members)) none) members known;
    }
