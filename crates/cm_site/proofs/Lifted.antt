-- How a command ends on one library of an open site is how it ends on the site.
use Rattle.std.proofs.Common.{◌≡◌, ◌⊎◌, ℕ, ◌≤◌, Bool, true, false, List, [], ◌∷◌, Option, None, Some, inl, inr, refl, sym, ◌∙◌, ap, subst, arith}
use Rattle.std.specs.Prelude.{length, take, map, cond, find, option_map, if◌then◌else◌}
use Rattle.std.specs.List.{AllByRecursion, list_any}
use Rattle.std.specs.Option.{ForSome, option_map_or}
use Rattle.std.specs.Str.{bytes_eq}
use Rattle.std.proofs.lemmas.Slice.Eq.{bytes_eq-Decides}
use Rattle.std.proofs.lemmas.Option.{none-some, same_Some}
use Rattle.std.proofs.lemmas.Bool.{false≢true}
use Rattle.std.proofs.lemmas.List.{length-map}
use Rattle.cm_base.specs.Causes.{Rose}
use Rattle.cm_check.specs.declared.finding.Finding.{Finding}
use Rattle.cm_disk.specs.Disk.{File, Files, IsImage, LeavesOnly}
use Rattle.cm_groups.specs.Names.{is_among}
use Rattle.cm_library.specs.Kept.{Seen}
use Rattle.cm_register.specs.Look.{look as look_records, gate_in as gate_of_records}
use Rattle.cm_disk.specs.Walks.{AreListed}
use Rattle.cm_intake.specs.Readings.{AreReadings}
use Rattle.cm_state.specs.Look.{Opened, look, gate_in}
use Rattle.cm_state.specs.Purged.{loose}
use Rattle.cm_state.specs.State.{State}
use Rattle.cm_state.specs.Changes.{StateChange}
use Rattle.cm_tree.specs.declared.entry.Entry.{Entry}
use Rattle.cm_site.specs.Bays.{AreDistinct, names_of}
use Rattle.cm_site.specs.Contents.{OfLibrary, OfRecords}
use Rattle.cm_site.specs.Contents.{content_in, gate_of, is_records, InLibrary}
use Rattle.cm_site.specs.Machine.{Given, Step, lifted, on_library, opened_or, with_part, given_for}
use Rattle.cm_site.specs.OneEnds.{part_with, StartsOne, OneSteps, OneGivesUp, OneStops, OneEndsOn}
use Rattle.cm_site.specs.OneLibrary as one
use Rattle.cm_site.specs.Opened.{IsOpenAs, IsOpenSite, start_of, disk_of, content_of, end_of, part_of, world_of, bays_from, bays_now}
use Rattle.cm_site.specs.Opening.{closed_in}
use Rattle.cm_site.specs.Runs.{Fed, Outside, IsInput, IsPart, HasKind, Starts, AllBays, RoseAt, AreLoose, BayDone, BayGivesUp, BayStops, Steps, GivesUp, Stops, EndsOn, is_purged}
use Rattle.cm_site.specs.Worlds.{World, Part, at, part_at, own}
use Rattle.cm_site.specs.declared.member.Hold.{Hold}
use Rattle.cm_site.specs.declared.member.Hold.TheVariants as hold
use Rattle.cm_site.specs.declared.member.Member.{Member}
use Rattle.cm_site.specs.declared.reply.Reply.{Reply}
use Rattle.cm_site.specs.declared.reply.Reply.TheVariants as answer
use Rattle.cm_site.proofs.Changes.{none_of_other}
use Rattle.cm_site.proofs.SomeFiles.{amiss_or, amiss_told}
use Rattle.cm_site.proofs.Untouched.{untouched_done, untouched_given_up, untouched_stopped}

abbrev pub library_of : {D : Type 0} → List ℕ → Seen D → Member D
library_of name library = record { name = name; hold = hold.Library library }

-- the members before and afterwards differ in the library of this bay alone, the first of its name
abbrev pub IsPut : {D : Type 0} → List ℕ → Seen D → Seen D → List (Member D) → List (Member D) → Type 0
IsPut bay was now [] news = ⊥
IsPut bay was now (member ∷ members) [] = ⊥
IsPut bay was now (member ∷ members) (new ∷ news) =
    ((member ≡ library_of bay was) × (new ≡ library_of bay now) × (news ≡ members)) ⊎ ((new ≡ member) × (bytes_eq member.name bay ≡ false) × IsPut bay was now members news)

-- what holds of the library's disk, and of each other bay as it was opened, holds of all bays
module _ {D : Type 0} (bay : List ℕ) (was now : Seen D) (P : Part → D → D → Type 0) (E : Member D → Type 0)
    (others : (member : Member D) → bytes_eq member.name bay ≡ false → E member → P (part_of member) (start_of member.hold) (disk_of member.hold))
    (this : P (part_with bay was.state was.end) was.start now.disk) where
  all_others : (members : List (Member D)) → AllByRecursion E members → is_among (names_of (bays_from members)) bay ≡ false → AllBays P (world_of members) (bays_from members) (bays_now members)
  all_others [] each none = tt
  all_others (member ∷ members) each none = by (bytes_eq member.name bay) refl none (all_others members each.1)
    where
      by : (b : Bool) → bytes_eq member.name bay ≡ b → is_among (names_of (bays_from (member ∷ members))) bay ≡ false
          → (is_among (names_of (bays_from members)) bay ≡ false → AllBays P (world_of members) (bays_from members) (bays_now members)) → AllBays P (world_of (member ∷ members)) (bays_from (member ∷ members)) (bays_now (member ∷ members))
      by true is none rest = absurd (cc)
      by false is none rest = (refl, refl, others member is each.0, rest (cc))

  pub all_put : (members news : List (Member D)) → AllByRecursion E members → AreDistinct (names_of (bays_from members)) → IsPut bay was now members news → AllBays P (world_of members) (bays_from members) (bays_now news)
  all_put [] news each distinct put = absurd put
  all_put (member ∷ members) [] each distinct put = absurd put
  all_put (member ∷ members) (new ∷ news) each distinct (inl put) = (
    refl,
    ap (λ (m : Member D). m.name) put.1 ∙ sym (ap (λ (m : Member D). m.name) put.0),
    subst (λ (m : Member D). P (part_of m) (start_of m.hold) (disk_of new.hold)) (sym put.0) (subst (λ (m : Member D). P (part_with bay was.state was.end) was.start (disk_of m.hold)) (sym put.1) this),
    subst (λ (m : List (Member D)). AllBays P (world_of members) (bays_from members) (bays_now m)) (sym put.2)
        (all_others members each.1 (subst (λ (name : List ℕ). is_among (names_of (bays_from members)) name ≡ false) (ap (λ (m : Member D). m.name) put.0) distinct.0)),
  )
  all_put (member ∷ members) (new ∷ news) each distinct (inr put) = (
    refl,
    ap (λ (m : Member D). m.name) put.0,
    subst (λ (m : Member D). P (part_of member) (start_of member.hold) (disk_of m.hold)) (sym put.0) (others member put.1 each.0),
    all_put members news each.1 distinct.1 put.2,
  )

pub same_name : (name : List ℕ) → bytes_eq name name ≡ true
same_name name = (bytes_eq-Decides name name).1 refl

-- names differ both ways
pub other_name : (name other : List ℕ) → bytes_eq name other ≡ false → bytes_eq other name ≡ false
other_name name other differ = by (bytes_eq other name) refl
  where
    by : (b : Bool) → bytes_eq other name ≡ b → bytes_eq other name ≡ false
    by false is = is
    by true is = absurd (false≢true (sym differ ∙ (bytes_eq-Decides name other).1 (sym ((bytes_eq-Decides other name).0 is))))

-- the part of the bay is found
found : {D : Type 0} (bay : List ℕ) (was now : Seen D) (members news : List (Member D)) → IsPut bay was now members news → part_at bay (world_of members) ≡ Some (part_with bay was.state was.end)
found bay was now [] news put = absurd put
found bay was now (member ∷ members) [] put = absurd put
found bay was now (member ∷ members) (new ∷ news) (inl put) =
    ap (λ m. cond (bytes_eq m.name bay) (Some (part_of m)) (part_at bay (world_of members))) put.0 ∙ ap (λ b. cond b (Some (part_with bay was.state was.end)) (part_at bay (world_of members))) (same_name bay)
found bay was now (member ∷ members) (new ∷ news) (inr put) =
    ap (λ b. cond b (Some (part_of member)) (part_at bay (world_of members))) put.1 ∙ found bay was now members news put.2

-- the text of an input, as a topology is read from it
abbrev pub text_or : Option (List ℕ) → List ℕ
text_or None = []
text_or (Some left) = take 4194305 left

pub text_told : (left : Option (List ℕ)) → ForSome left (λ bytes. text_or left ≡ take 4194305 bytes)
text_told None bytes told = absurd (none-some bytes told)
text_told (Some left) bytes told = ap (take 4194305) (same_Some left bytes told)

module _ {D : Type 0} (reads : D → Option Files) (may_leave : D → List ℕ → File → Type 0) (moment : D → ℕ) (left_since : D → ℕ → Files → Type 0) (faults : D → ℕ) where
  -- what is amiss in the first bay of a name
  abbrev pub amiss_in : List (Member D) → List ℕ → List Entry → List Finding
  amiss_in [] name manifest = []
  amiss_in (member ∷ members) name manifest = cond (bytes_eq name member.name) (amiss_or (reads (start_of member.hold)) manifest) (amiss_in members name manifest)

  abbrev pub IsOpenMember : Member D → Type 0
  IsOpenMember member = IsOpenAs reads may_leave moment left_since faults member.name member.hold

  -- it is found by the name of each
  abbrev pub IsAmissIn : List (Member D) → Member D → Type 0
  IsAmissIn members member = (manifest : List Entry) → amiss_in members member.name manifest ≡ amiss_or (reads (start_of member.hold)) manifest

  behind : (first : Member D) (members rest : List (Member D)) → is_among (names_of (bays_from rest)) first.name ≡ false → AllByRecursion (IsAmissIn members) rest → AllByRecursion (IsAmissIn (first ∷ members)) rest
  behind first members [] none each = tt
  behind first members (member ∷ rest) none each = by (bytes_eq member.name first.name) refl none (behind first members rest)
    where
      by : (b : Bool) → bytes_eq member.name first.name ≡ b → is_among (names_of (bays_from (member ∷ rest))) first.name ≡ false
          → (is_among (names_of (bays_from rest)) first.name ≡ false → AllByRecursion (IsAmissIn members) rest → AllByRecursion (IsAmissIn (first ∷ members)) rest) → AllByRecursion (IsAmissIn (first ∷ members)) (member ∷ rest)
      by true is none more = absurd (cc)
      by false is none more = (λ manifest. ap (λ b. cond b (amiss_or (reads (start_of first.hold)) manifest) (amiss_in members member.name manifest)) is ∙ each.0 manifest, more (cc) each.1)

  pub amiss_each : (members : List (Member D)) → AreDistinct (names_of (bays_from members)) → AllByRecursion (IsAmissIn members) members
  amiss_each [] distinct = tt
  amiss_each (member ∷ members) distinct = (
    λ manifest. ap (λ b. cond b (amiss_or (reads (start_of member.hold)) manifest) (amiss_in members member.name manifest)) (same_name member.name),
    behind member members members distinct.0 (amiss_each members distinct.1),
  )

  pub both_each : {X : Type 0} (P Q : X → Type 0) (xs : List X) → AllByRecursion P xs → AllByRecursion Q xs → AllByRecursion (λ x. P x × Q x) xs
  both_each P Q [] p q = tt
  both_each P Q (x ∷ xs) p q = ((p.0, q.0), both_each P Q xs p.1 q.1)

  -- a member that is open is of the kind that its name says, and is what its disk reads as
  pub kind_of : (name : List ℕ) (held : Hold D) → IsOpenAs reads may_leave moment left_since faults name held → HasKind name (content_of held)
  kind_of name (hold.Library library) opened = opened.0
  kind_of name (hold.Records records) opened = opened.0

  pub kinds_of : (members : List (Member D)) → AllByRecursion IsOpenMember members → AllByRecursion (λ (part : Part). HasKind part.name part.content) (world_of members)
  kinds_of [] each = tt
  kinds_of (member ∷ members) each = (kind_of member.name member.hold each.0, kinds_of members each.1)

  pub content_is : (name : List ℕ) (held : Hold D) → IsOpenAs reads may_leave moment left_since faults name held → ForSome (reads (start_of held)) (λ files. content_in name files ≡ content_of held)
  content_is name (hold.Library library) opened = λ files told. ap (λ b. cond b (OfRecords (look_records files)) (OfLibrary (look files))) opened.0 ∙ ap OfLibrary (opened.1.stands files told)
  content_is name (hold.Records records) opened = λ files told. ap (λ b. cond b (OfRecords (look_records files)) (OfLibrary (look files))) opened.0 ∙ ap OfRecords (opened.1.stands files told).look

  pub gate_is : (name : List ℕ) (held : Hold D) → IsOpenAs reads may_leave moment left_since faults name held → ForSome (reads (start_of held)) (λ files. gate_of name files ≡ end_of held)
  gate_is name (hold.Library library) opened = λ files told. ap (λ b. cond b (gate_of_records files) (gate_in files)) opened.0 ∙ opened.1.gate files told
  gate_is name (hold.Records records) opened = λ files told. ap (λ b. cond b (gate_of_records files) (gate_in files)) opened.0 ∙ (opened.1.stands files told).gate

  module _ (bay : List ℕ) (was now : Seen D) (members news : List (Member D)) (opened : IsOpenSite reads may_leave moment left_since faults members) (put : IsPut bay was now members news)
      (step : one.Given → State → one.Step) (from to : Outside) (minute : ℕ) where
    abbrev given_of : one.Given → Given
    given_of given = record {
      readings = given.readings;
      amiss = λ name. cond (bytes_eq name bay) given.amiss (amiss_in members name);
      loose = given.loose;
      text = Some (text_or from.input.left);
      minute = minute;
    }

    abbrev site_step : Given → World → Step
    site_step = on_library bay step

    abbrev one_step : one.Given → Step
    one_step given = lifted bay (step given was.state)

    given_same : (given : one.Given) → given.gate ≡ was.end → given_for (given_of given) (part_with bay was.state was.end) ≡ given
    given_same given gate =
        ap (λ (b : Bool). let made : one.Given = record { readings = given.readings; gate = was.end; amiss = cond b given.amiss (amiss_in members bay); loose = given.loose } in made) (same_name bay)
        ∙ ap (λ (n : ℕ). let made : one.Given = record { readings = given.readings; gate = n; amiss = given.amiss; loose = given.loose } in made) (sym gate)

    -- the site's step is that of the library
    step_is : (given : one.Given) → given.gate ≡ was.end → site_step (given_of given) (world_of members) ≡ one_step given
    step_is given gate =
        ap (λ closed. opened_or closed (with_part bay step (given_of given) (part_at bay (world_of members)))) opened.none_closed
        ∙ (ap (with_part bay step (given_of given)) (found bay was now members news put)
        ∙ ap (λ g. lifted bay (step g was.state)) (given_same given gate))

    -- what is known of each member
    abbrev IsKnown : Member D → Type 0
    IsKnown member = IsOpenMember member × IsAmissIn members member

    known : AllByRecursion IsKnown members
    known = both_each IsOpenMember (IsAmissIn members) members opened.each (amiss_each members opened.bays.distinct)

    -- what holds of the library and of each other bay holds of all
    all_bays : (P : Part → D → D → Type 0) → ((member : Member D) → bytes_eq member.name bay ≡ false → IsKnown member → P (part_of member) (start_of member.hold) (disk_of member.hold)) → P (part_with bay was.state was.end) was.start now.disk
        → AllBays P (world_of members) (bays_from members) (bays_now news)
    all_bays P others this = all_put bay was now P IsKnown others this members news known opened.bays.distinct put

    part_is : (given : one.Given) (member : Member D) → bytes_eq member.name bay ≡ false → IsKnown member → ForSome (reads (start_of member.hold)) (IsPart (given_of given) (part_of member))
    part_is given member other is = λ files told. record {
      content = content_is member.name member.hold is.0 files told;
      gate = gate_is member.name member.hold is.0 files told;
      amiss = λ manifest. ap (λ (b : Bool). cond b given.amiss (amiss_in members member.name) manifest) other ∙ (is.1 manifest ∙ amiss_told (reads (start_of member.hold)) files told manifest);
    }

    starts : (given : one.Given) → StartsOne from.folder to.folder (reads was.start) given → is_records bay ≡ false → ForSome (reads was.start) (λ files. look files ≡ Opened was.state) → ForSome (reads was.start) (λ files. gate_in files ≡ was.end)
        → Starts reads from to minute (given_of given) (world_of members) (bays_from members) (bays_now news)
    starts given begin kind stands ends = record {
      readings = begin.readings;
      text = text_told from.input.left;
      minute_is = refl;
      kinds = kinds_of members opened.each;
      parts = all_bays (λ part disk _. ForSome (reads disk) (IsPart (given_of given) part)) (part_is given) (λ files told. record {
        content = ap (λ b. cond b (OfRecords (look_records files)) (OfLibrary (look files))) kind ∙ ap OfLibrary (stands files told);
        gate = ap (λ b. cond b (gate_of_records files) (gate_in files)) kind ∙ ends files told;
        amiss = λ manifest. ap (λ (b : Bool). cond b given.amiss (amiss_in members bay) manifest) (same_name bay) ∙ begin.amiss files told manifest;
      });
    }

    -- the changes and the purge of the library are none of another bay
    purges_no_other : (purges : Bool) (name : List ℕ) → bytes_eq bay name ≡ false → option_map_or (λ b. bytes_eq b name) (if purges then Some bay else None) false ≡ false
    purges_no_other true name other = other
    purges_no_other false name other = refl

    module _ (given : one.Given) where
      abbrev s : Step
      s = one_step given

      unchanged : (member : Member D) → bytes_eq member.name bay ≡ false → own member.name s.changes ≡ []
      unchanged member other = none_of_other bay member.name (step given was.state).changes (other_name member.name bay other)

      not_purged : (member : Member D) → bytes_eq member.name bay ≡ false → is_purged s member.name ≡ false
      not_purged member other = purges_no_other (step given was.state).purges member.name (other_name member.name bay other)

      all_done : BayDone reads may_leave moment left_since s (part_with bay was.state was.end) was.start now.disk → AllBays (BayDone reads may_leave moment left_since s) (world_of members) (bays_from members) (bays_now news)
      all_done this = all_bays (BayDone reads may_leave moment left_since s)
          (λ member other is. untouched_done reads may_leave moment left_since faults s member.name member.hold is.0 (unchanged member other) (not_purged member other) refl) this

      all_given_up : (n : ℕ) → BayGivesUp reads may_leave moment left_since n s (part_with bay was.state was.end) was.start now.disk → AllBays (BayGivesUp reads may_leave moment left_since n s) (world_of members) (bays_from members) (bays_now news)
      all_given_up n this = all_bays (BayGivesUp reads may_leave moment left_since n s)
          (λ member other is. untouched_given_up reads may_leave moment left_since faults s member.name member.hold is.0 (unchanged member other) (not_purged member other) n) this

      all_stopped : (n : ℕ) → BayStops reads may_leave moment left_since n s (part_with bay was.state was.end) was.start now.disk → AllBays (BayStops reads may_leave moment left_since n s) (world_of members) (bays_from members) (bays_now news)
      all_stopped n this = all_bays (BayStops reads may_leave moment left_since n s)
          (λ member other is. untouched_stopped reads may_leave moment left_since faults s member.name member.hold is.0 (unchanged member other) (not_purged member other) n) this

      -- the places that are asked for
      asked_other : (asks : Bool) (member : Member D) → bytes_eq member.name bay ≡ false → ForSome (reads (start_of member.hold)) (λ files. AreLoose (if asks then Some bay else None) (part_of member) files given.loose)
      asked_other true member other = λ files told same state is. absurd (false≢true (sym (other_name member.name bay other) ∙ same))
      asked_other false member other = λ files told. tt

      asked_here : (asks : Bool) → (asks ≡ true → ForSome (reads was.start) (λ files. AreListed (loose was.state files) given.loose))
          → ForSome (reads was.start) (λ files. AreLoose (if asks then Some bay else None) (part_with bay was.state was.end) files given.loose)
      asked_here true are = λ files told same state is. subst (λ (st : State). AreListed (loose st files) given.loose) (same_state is) (are refl files told)
        where
          same_state : {x y : State} → OfLibrary (Opened x) ≡ OfLibrary (Opened y) → x ≡ y
          same_state e = cc
      asked_here false are = λ files told. tt

      all_asked : ((step given was.state).asks ≡ true → ForSome (reads was.start) (λ files. AreListed (loose was.state files) given.loose))
          → AllBays (λ part disk _. ForSome (reads disk) (λ files. AreLoose s.asks part files given.loose)) (world_of members) (bays_from members) (bays_now news)
      all_asked are = all_bays (λ part disk _. ForSome (reads disk) (λ files. AreLoose s.asks part files given.loose))
          (λ member other is. asked_other (step given was.state).asks member other) (asked_here (step given was.state).asks are)

    module _ (kind : is_records bay ≡ false) (stands : ForSome (reads was.start) (λ files. look files ≡ Opened was.state)) (ends : ForSome (reads was.start) (λ files. gate_in files ≡ was.end)) where
      lift_steps : (reply : Reply) → OneSteps reads may_leave moment left_since faults bay was.state was.end step from.folder to.folder was.start now.disk reply
          → Steps reads may_leave moment left_since site_step from to minute (bays_from members) (bays_now news) reply
      lift_steps reply one = let back : one_step one.given ≡ site_step (given_of one.given) (world_of members) = sym (step_is one.given one.gate_is) in record {
        given = given_of one.given;
        world = world_of members;
        starts = starts one.given one.starts kind stands ends;
        asked = subst (λ (s : Step). AllBays (λ part disk _. ForSome (reads disk) (λ files. AreLoose s.asks part files one.given.loose)) (world_of members) (bays_from members) (bays_now news)) back (all_asked one.given one.asked);
        replies = one.replies ∙ ap (λ (s : Step). s.reply) back;
        bays = subst (λ (s : Step). AllBays (BayDone reads may_leave moment left_since s) (world_of members) (bays_from members) (bays_now news)) back (all_done one.given one.done);
      }

      within_of : (given : one.Given) (n : ℕ) → n ≤ length (step given was.state).changes → n ≤ length (one_step given).changes
      within_of given n le = subst (λ (m : ℕ). n ≤ m) (sym (length-map (step given was.state).changes (λ (change : StateChange). at bay (InLibrary change)))) le

      lift_gives_up : OneGivesUp reads may_leave moment left_since faults bay was.state was.end step from.folder to.folder was.start now.disk
          → GivesUp reads may_leave moment left_since site_step from to minute (bays_from members) (bays_now news)
      lift_gives_up one = let back : one_step one.given ≡ site_step (given_of one.given) (world_of members) = sym (step_is one.given one.gate_is) in record {
        given = given_of one.given;
        world = world_of members;
        starts = starts one.given one.starts kind stands ends;
        n = one.n;
        within = subst (λ (s : Step). one.n ≤ length s.changes) back (within_of one.given one.n one.within);
        bays = subst (λ (s : Step). AllBays (BayGivesUp reads may_leave moment left_since one.n s) (world_of members) (bays_from members) (bays_now news)) back (all_given_up one.given one.n one.stands);
      }

      lift_stops : OneStops reads may_leave moment left_since faults bay was.state was.end step from.folder to.folder was.start now.disk
          → Stops reads may_leave moment left_since site_step from to minute (bays_from members) (bays_now news)
      lift_stops one = let back : one_step one.given ≡ site_step (given_of one.given) (world_of members) = sym (step_is one.given one.gate_is) in record {
        given = given_of one.given;
        world = world_of members;
        starts = starts one.given one.starts kind stands ends;
        n = one.n;
        within = subst (λ (s : Step). one.n ≤ length s.changes) back (within_of one.given one.n one.within);
        bays = subst (λ (s : Step). AllBays (BayStops reads may_leave moment left_since one.n s) (world_of members) (bays_from members) (bays_now news)) back (all_stopped one.given one.n one.stands);
      }

      -- the disk that failed is that of the bay
      rose_at : (ms ns : List (Member D)) → IsPut bay was now ms ns → Rose (faults was.start) (faults now.disk) → RoseAt faults bay (bays_from ms) (bays_now ns)
      rose_at [] ns is rose = absurd is
      rose_at (m ∷ ms) [] is rose = absurd is
      rose_at (m ∷ ms) (n ∷ ns) (inl is) rose = inl (
        ap (λ (x : Member D). x.name) is.0,
        subst (λ (x : Member D). Rose (faults (start_of x.hold)) (faults (disk_of n.hold))) (sym is.0) (subst (λ (x : Member D). Rose (faults was.start) (faults (disk_of x.hold))) (sym is.1) rose),
      )
      rose_at (m ∷ ms) (n ∷ ns) (inr is) rose = inr (rose_at ms ns is.2 rose)

      -- how it ends there is how it ends on the site
      abbrev Lifts : Reply → Type 0
      Lifts reply = OneEndsOn reads may_leave moment left_since faults bay was.state was.end step from.folder to.folder reply was.start now.disk
          → EndsOn reads may_leave moment left_since faults site_step from to minute reply (bays_from members) (bays_now news)

      pub lifted_ends : (reply : Reply) → Lifts reply
      lifted_ends (answer.Disk name) = λ ends_so. (
        subst (λ (b : List ℕ). RoseAt faults b (bays_from members) (bays_now news)) (sym ends_so.0) (rose_at members news put ends_so.1),
        lift_stops ends_so.2,
      )
      lifted_ends answer.Memory = lift_gives_up
      lifted_ends (answer.Made count) = lift_steps (answer.Made count)
      lifted_ends (answer.Added id version files bytes) = lift_steps (answer.Added id version files bytes)
      lifted_ends answer.Dropped = lift_steps answer.Dropped
      lifted_ends (answer.Changed path first first_size second second_size) = lift_steps (answer.Changed path first first_size second second_size)
      lifted_ends (answer.Topology boundaries groups points peers joined) = lift_steps (answer.Topology boundaries groups points peers joined)
      lifted_ends (answer.Versions versions jobs) = lift_steps (answer.Versions versions jobs)
      lifted_ends (answer.Findings files list) = lift_steps (answer.Findings files list)
      lifted_ends (answer.Loose places) = lift_steps (answer.Loose places)
      lifted_ends (answer.Purged files manifests) = lift_steps (answer.Purged files manifests)
      lifted_ends (answer.Refused refusal) = lift_steps (answer.Refused refusal)
      lifted_ends answer.Source = lift_steps answer.Source
      lifted_ends (answer.NoLibrary name) = lift_steps (answer.NoLibrary name)
      lifted_ends (answer.NoBayFor name) = lift_steps (answer.NoBayFor name)
      lifted_ends (answer.Unreadable name place at) = lift_steps (answer.Unreadable name place at)
