-- How a step ends that gives a reply and changes nothing, on a site that was just opened.
use Rattle.std.proofs.Common.{◌≡◌, ℕ, Bool, true, false, List, [], ◌∷◌, Option, None, Some, refl, sym, ◌∙◌, ap, subst}
use Rattle.std.specs.Prelude.{is_some}
use Rattle.std.specs.List.{AllByRecursion}
use Rattle.std.specs.Option.{ForSome, option_and_then}
use Rattle.std.specs.Str.{bytes_eq}
use Rattle.cm_disk.specs.Disk.{File, Files, IsImage, LeavesOnly}
use Rattle.cm_site.specs.Machine.{Given, Step, told, refused, on_library, opened_or, with_part, with_state, given_for}
use Rattle.cm_site.specs.OneLibrary as one
use Rattle.cm_state.specs.State.{State}
use Rattle.cm_site.specs.Opened.{IsOpenSite, start_of, disk_of, part_of, world_of, bays_from, bays_now}
use Rattle.cm_site.specs.Opening.{closed_in}
use Rattle.cm_site.specs.Runs.{Outside, IsPart, AllBays, AreLoose, BayDone, Starts, Steps}
use Rattle.cm_site.specs.Worlds.{World, Part, library_at, part_at, state_in}
use Rattle.cm_site.specs.declared.member.Hold.{Hold}
use Rattle.cm_site.specs.declared.member.Member.{Member}
use Rattle.cm_site.specs.declared.reply.Reply.{Reply}
use Rattle.cm_site.specs.declared.reply.Refusal.TheVariants.{NoBay}
use Rattle.cm_site.specs.declared.reply.Reply.TheVariants.{Refused}
use Rattle.cm_site.proofs.Lifted.{IsAmissIn, IsOpenMember, amiss_each, amiss_in, both_each, content_is, gate_is, kinds_of, text_or, text_told}
use Rattle.cm_site.proofs.SomeFiles.{amiss_told, some_are, some_readings}
use Rattle.cm_site.proofs.Untouched.{untouched_done}

module _ {D : Type 0} (P : Part → D → D → Type 0) (E : Member D → Type 0) (each : (member : Member D) → E member → P (part_of member) (start_of member.hold) (disk_of member.hold)) where
  pub all_same : (members : List (Member D)) → AllByRecursion E members → AllBays P (world_of members) (bays_from members) (bays_now members)
  all_same [] all = tt
  all_same (member ∷ members) all = (refl, refl, each member all.0, all_same members all.1)

module _ {D : Type 0} (reads : D → Option Files) (may_leave : D → List ℕ → File → Type 0) (moment : D → ℕ) (left_since : D → ℕ → Files → Type 0) (faults : D → ℕ)
    (members : List (Member D)) (opened : IsOpenSite reads may_leave moment left_since faults members) (from to : Outside) (minute : ℕ) where
  -- what a step may be given that asks for nothing
  abbrev pub some_given : Given
  some_given = record { readings = some_readings from.folder.shown; amiss = amiss_in reads may_leave moment left_since faults members; loose = []; text = Some (text_or from.input.left); minute = minute }

  abbrev IsKnown : Member D → Type 0
  IsKnown member = IsOpenMember reads may_leave moment left_since faults member × IsAmissIn reads may_leave moment left_since faults members member

  known : AllByRecursion IsKnown members
  known = both_each reads may_leave moment left_since faults (IsOpenMember reads may_leave moment left_since faults) (IsAmissIn reads may_leave moment left_since faults members) members opened.each
      (amiss_each reads may_leave moment left_since faults members opened.bays.distinct)

  -- a step may start from it
  pub some_starts : Starts reads from to minute some_given (world_of members) (bays_from members) (bays_now members)
  some_starts = record {
    readings = some_are from.folder.shown from.folder.faults to.folder.faults;
    text = text_told from.input.left;
    minute_is = refl;
    kinds = kinds_of reads may_leave moment left_since faults members opened.each;
    parts = all_same (λ part disk _. ForSome (reads disk) (IsPart some_given part)) IsKnown (λ member is files told. record {
      content = content_is reads may_leave moment left_since faults member.name member.hold is.0 files told;
      gate = gate_is reads may_leave moment left_since faults member.name member.hold is.0 files told;
      amiss = λ manifest. is.1 manifest ∙ amiss_told (reads (start_of member.hold)) files told manifest;
    }) members known;
  }

  -- the step is done
  pub ends_told : (step : Given → World → Step) (reply : Reply) → step some_given (world_of members) ≡ told reply → Steps reads may_leave moment left_since step from to minute (bays_from members) (bays_now members) reply
  ends_told step reply is = let back : told reply ≡ step some_given (world_of members) = sym is in record {
    given = some_given;
    world = world_of members;
    starts = some_starts;
    asked = subst (λ (s : Step). AllBays (λ part disk _. ForSome (reads disk) (λ files. AreLoose s.asks part files [])) (world_of members) (bays_from members) (bays_now members)) back
        (all_same (λ part disk _. ForSome (reads disk) (λ files. AreLoose None part files [])) IsKnown (λ member is files told. tt) members known);
    replies = ap (λ (s : Step). s.reply) back;
    bays = subst (λ (s : Step). AllBays (BayDone reads may_leave moment left_since s) (world_of members) (bays_from members) (bays_now members)) back
        (all_same (BayDone reads may_leave moment left_since (told reply)) IsKnown (λ member is. untouched_done reads may_leave moment left_since faults (told reply) member.name member.hold is.0 refl refl refl) members known);
  }

  -- a bay without a library is refused
  no_library : (bay : List ℕ) (step : one.Given → State → one.Step) (given : Given) → library_at bay (world_of members) ≡ None → on_library bay step given (world_of members) ≡ refused (NoBay bay)
  no_library bay step given none =
      ap (λ closed. opened_or closed (with_part bay step given (part_at bay (world_of members)))) opened.none_closed ∙ by (part_at bay (world_of members)) none
    where
      by : (part : Option Part) → option_and_then (λ (p : Part). state_in p.content) part ≡ None → with_part bay step given part ≡ refused (NoBay bay)
      by None none = refl
      by (Some part) none = ap (λ (state : Option State). with_state bay (step (given_for given part)) state) none

  pub ends_refused : (bay : List ℕ) (step : one.Given → State → one.Step) → library_at bay (world_of members) ≡ None
      → Steps reads may_leave moment left_since (on_library bay step) from to minute (bays_from members) (bays_now members) (Refused (NoBay bay))
  ends_refused bay step none = ends_told (on_library bay step) (Refused (NoBay bay)) (no_library bay step some_given none)
