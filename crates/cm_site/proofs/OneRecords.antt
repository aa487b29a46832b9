-- A topology that is replaced in the records of an open site, and how that ends on the site.
use Rattle.std.proofs.Common.{◌≡◌, ◌⊎◌, ℕ, ◌+◌, ◌≤◌, Bool, true, false, List, [], ◌∷◌, Option, None, Some, Result, Ok, Err, inl, inr, refl, sym, ◌∙◌, ap, subst, arith}
use Rattle.std.specs.Prelude.{length, take, cond}
use Rattle.std.specs.List.{AllByRecursion}
use Rattle.std.specs.Option.{ForSome, option_and_then}
use Rattle.std.specs.Str.{bytes_eq}
use Rattle.std.proofs.lemmas.Option.{none-some}
use Rattle.cm_base.specs.Causes.{Rose}
use Rattle.cm_disk.specs.Disk.{File, Files, IsImage, LeavesOnly}
use Rattle.cm_disk.proofs.Moments.{weaker, joins}
use Rattle.cm_groups.specs.Names.{is_among}
use Rattle.cm_records.specs.Calls.{Commits, FailsWith}
use Rattle.cm_records.specs.Placing.{KeepsPlaces}
use Rattle.cm_records.specs.Seen.{Seen, Reads, next_topology}
use Rattle.cm_register.specs.Look.{Opened as OpenedRecords, look}
use Rattle.cm_register.specs.Opens.{Noted, OpensOr, noted, after_noted}
use Rattle.cm_register.specs.Records.{Records}
use Rattle.cm_state.specs.Adding.{Told}
use Rattle.cm_topo.specs.Outcomes.{topology_in}
use Rattle.cm_topo.specs.declared.fault.TopoFault.{TopoFault}
use Rattle.cm_topo.specs.declared.topology.Topology.{Topology}
use Rattle.cm_site.specs.Bays.{AreDistinct, names_of}
use Rattle.cm_site.specs.Contents.{OfRecords, InRecords, OpensTo, records_bay}
use Rattle.cm_site.specs.Machine.{Given, Step, told, unless, said_step, text_step, input_step, topology_in_records, topology_reply, replaced, opened_or, step_topology}
use Rattle.cm_site.specs.Opened.{IsOpenSite, AreOpened, start_of, disk_of, part_of, world_of, bays_from, bays_now}
use Rattle.cm_site.specs.Refusals.{topology_refusals}
use Rattle.cm_site.specs.Runs.{Outside, IsInput, IsPart, AllBays, RoseAt, AreLoose, Becomes, OpensAmong, Moves, BayDone, BayStops, Starts, Steps, Stops}
use Rattle.cm_site.specs.Worlds.{World, Part, Kept, kept_in, part_at, own, records_of, at}
use Rattle.cm_site.specs.declared.member.Hold.TheVariants as hold
use Rattle.cm_site.specs.declared.member.Member.{Member}
use Rattle.cm_site.specs.declared.reply.Reply.{Reply}
use Rattle.cm_site.specs.declared.reply.Refusal.{Refusal}
use Rattle.cm_site.proofs.Changes.{none_of_one}
use Rattle.cm_site.proofs.Closing.{rose_before}
use Rattle.cm_site.proofs.Lifted.{IsOpenMember, same_name, other_name}
use Rattle.cm_site.proofs.Resting.{IsKnown, known, given_of, part_is, starts_with}
use Rattle.cm_site.proofs.Untouched.{untouched_done, untouched_stopped}

-- the records as a member
abbrev pub member_of : {D : Type 0} → Seen D → Member D
member_of records = record { name = records_bay; hold = hold.Records records }

-- the members before and afterwards differ in the records alone
abbrev pub IsPutIn : {D : Type 0} → Seen D → Seen D → List (Member D) → List (Member D) → Type 0
IsPutIn was now [] news = ⊥
IsPutIn was now (member ∷ members) [] = ⊥
IsPutIn was now (member ∷ members) (new ∷ news) =
    ((member ≡ member_of was) × (new ≡ member_of now) × (news ≡ members)) ⊎ ((new ≡ member) × (bytes_eq member.name records_bay ≡ false) × IsPutIn was now members news)

-- what holds of the records' disk, and of each other bay as it was opened, holds of all bays
module _ {D : Type 0} (was now : Seen D) (P : Part → D → D → Type 0) (E : Member D → Type 0)
    (others : (member : Member D) → bytes_eq member.name records_bay ≡ false → E member → P (part_of member) (start_of member.hold) (disk_of member.hold))
    (this : P (part_of (member_of was)) was.start now.disk) where
  all_others : (members : List (Member D)) → AllByRecursion E members → is_among (names_of (bays_from members)) records_bay ≡ false → AllBays P (world_of members) (bays_from members) (bays_now members)
  all_others [] each none = tt
  all_others (member ∷ members) each none = by (bytes_eq member.name records_bay) refl none (all_others members each.1)
    where
      by : (b : Bool) → bytes_eq member.name records_bay ≡ b → is_among (names_of (bays_from (member ∷ members))) records_bay ≡ false
          → (is_among (names_of (bays_from members)) records_bay ≡ false → AllBays P (world_of members) (bays_from members) (bays_now members)) → AllBays P (world_of (member ∷ members)) (bays_from (member ∷ members)) (bays_now (member ∷ members))
      by true is none rest = absurd (cc)
      by false is none rest = (refl, refl, others member is each.0, rest (cc))

  pub all_put : (members news : List (Member D)) → AllByRecursion E members → AreDistinct (names_of (bays_from members)) → IsPutIn was now members news → AllBays P (world_of members) (bays_from members) (bays_now news)
  all_put [] news each distinct put = absurd put
  all_put (member ∷ members) [] each distinct put = absurd put
  all_put (member ∷ members) (new ∷ news) each distinct (inl put) = (
    refl,
    ap (λ (m : Member D). m.name) put.1 ∙ sym (ap (λ (m : Member D). m.name) put.0),
    subst (λ (m : Member D). P (part_of m) (start_of m.hold) (disk_of new.hold)) (sym put.0) (subst (λ (m : Member D). P (part_of (member_of was)) was.start (disk_of m.hold)) (sym put.1) this),
    subst (λ (m : List (Member D)). AllBays P (world_of members) (bays_from members) (bays_now m)) (sym put.2)
        (all_others members each.1 (subst (λ (name : List ℕ). is_among (names_of (bays_from members)) name ≡ false) (ap (λ (m : Member D). m.name) put.0) distinct.0)),
  )
  all_put (member ∷ members) (new ∷ news) each distinct (inr put) = (
    refl,
    ap (λ (m : Member D). m.name) put.0,
    subst (λ (m : Member D). P (part_of member) (start_of member.hold) (disk_of m.hold)) (sym put.0) (others member put.1 each.0),
    all_put members news each.1 distinct.1 put.2,
  )

-- the part of the records is found
found : {D : Type 0} (was now : Seen D) (members news : List (Member D)) → IsPutIn was now members news → part_at records_bay (world_of members) ≡ Some (part_of (member_of was))
found was now [] news put = absurd put
found was now (member ∷ members) [] put = absurd put
found was now (member ∷ members) (new ∷ news) (inl put) =
    ap (λ m. cond (bytes_eq m.name records_bay) (Some (part_of m)) (part_at records_bay (world_of members))) put.0
    ∙ ap (λ b. cond b (Some (part_of (member_of was))) (part_at records_bay (world_of members))) (same_name records_bay)
found was now (member ∷ members) (new ∷ news) (inr put) =
    ap (λ b. cond b (Some (part_of member)) (part_at records_bay (world_of members))) put.1 ∙ found was now members news put.2

abbrev pub kept_of : {D : Type 0} → Seen D → Kept
kept_of was = record { records = was.kept; gate = was.end }

pub records_are : {D : Type 0} (was now : Seen D) (members news : List (Member D)) → IsPutIn was now members news → records_of (world_of members) ≡ Some (kept_of was)
records_are was now members news put = ap (λ (o : Option Part). option_and_then kept_in o) (found was now members news put)

-- the records were opened
pub records_opened : {D : Type 0} (reads : D → Option Files) (may_leave : D → List ℕ → File → Type 0) (moment : D → ℕ) (left_since : D → ℕ → Files → Type 0) (faults : D → ℕ) (was now : Seen D) (members news : List (Member D))
    → IsPutIn was now members news → AllByRecursion (IsOpenMember reads may_leave moment left_since faults) members → AreOpened reads may_leave moment left_since faults was
records_opened reads may_leave moment left_since faults was now [] news put each = absurd put
records_opened reads may_leave moment left_since faults was now (member ∷ members) [] put each = absurd put
records_opened reads may_leave moment left_since faults was now (member ∷ members) (new ∷ news) (inl put) each =
    let here : IsOpenMember reads may_leave moment left_since faults (member_of was) = subst (IsOpenMember reads may_leave moment left_since faults) put.0 each.0 in here.1
records_opened reads may_leave moment left_since faults was now (member ∷ members) (new ∷ news) (inr put) each =
    records_opened reads may_leave moment left_since faults was now members news put.2 each.1

-- a step of a topology purges nothing
unless_purges : (o : Option Refusal) (s : Step) → s.purges ≡ None → (unless o s).purges ≡ None
unless_purges None s none = none
unless_purges (Some refusal) s none = refl

said_purges : (text : List ℕ) (said : Result Topology TopoFault) (minute : ℕ) (records : Records) → (said_step text said minute records).purges ≡ None
said_purges text (Ok topology) minute records = refl
said_purges text (Err fault) minute records = refl

pub purges_none : (given : Given) (kept : Option Kept) (world : World) → (topology_in_records given kept world).purges ≡ None
purges_none given None world = refl
purges_none given (Some kept) world = by given.text
  where
    by : (text : Option (List ℕ)) → (input_step text given.minute kept world).purges ≡ None
    by None = refl
    by (Some text) = unless_purges (topology_refusals (length text) (topology_in text) kept world) (said_step text (topology_in text) given.minute kept.records) (said_purges text (topology_in text) given.minute kept.records)

module _ {D : Type 0} (reads : D → Option Files) (may_leave : D → List ℕ → File → Type 0) (moment : D → ℕ) (left_since : D → ℕ → Files → Type 0) (faults : D → ℕ)
    (members : List (Member D)) (opened : IsOpenSite reads may_leave moment left_since faults members) (from to : Outside) (minute : ℕ)
    (was now : Seen D) (news : List (Member D)) (put : IsPutIn was now members news)
    (text : List ℕ) (input : IsInput from.input to.input (Some text)) (topology : Topology) (said : topology_in text ≡ Ok topology)
    (allowed : topology_refusals (length text) (topology_in text) (kept_of was) (world_of members) ≡ None) where
  abbrev given : Given
  given = given_of reads may_leave moment left_since faults members opened from to minute (Some text)

  open_is : AreOpened reads may_leave moment left_since faults was
  open_is = records_opened reads may_leave moment left_since faults was now members news put opened.each

  abbrev one : Noted
  one = next_topology text topology minute was.kept

  abbrev s : Step
  s = replaced text topology minute was.kept

  abbrev part : Part
  part = part_of (member_of was)

  step_is : step_topology given (world_of members) ≡ s
  step_is =
      ap (λ closed. opened_or closed (topology_in_records given (records_of (world_of members)) (world_of members))) opened.none_closed
      ∙ (ap (λ (o : Option Kept). topology_in_records given o (world_of members)) (records_are was now members news put)
      ∙ (ap (λ (o : Option Refusal). unless o (said_step text (topology_in text) minute was.kept)) allowed
      ∙ ap (λ (r : Result Topology TopoFault). said_step text r minute was.kept) said))

  abbrev Known : Member D → Type 0
  Known member = IsKnown reads may_leave moment left_since faults members opened from to minute member

  -- what holds of the records and of each other bay holds of all
  all_bays : (P : Part → D → D → Type 0) → ((member : Member D) → bytes_eq member.name records_bay ≡ false → Known member → P (part_of member) (start_of member.hold) (disk_of member.hold)) → P part was.start now.disk
      → AllBays P (world_of members) (bays_from members) (bays_now news)
  all_bays P others this = all_put was now P Known others this members news (known reads may_leave moment left_since faults members opened from to minute) opened.bays.distinct put

  starts : Starts reads from to minute given (world_of members) (bays_from members) (bays_now news)
  starts = starts_with reads may_leave moment left_since faults members opened from to minute (Some text) news input
      (all_bays (λ part disk _. ForSome (reads disk) (IsPart given part)) (λ member other is. part_is reads may_leave moment left_since faults members opened from to minute (Some text) member is)
      (part_is_here members news put (known reads may_leave moment left_since faults members opened from to minute)))
    where
      part_is_here : (ms ns : List (Member D)) → IsPutIn was now ms ns → AllByRecursion Known ms → ForSome (reads was.start) (IsPart given part)
      part_is_here [] ns is each = absurd is
      part_is_here (m ∷ ms) [] is each = absurd is
      part_is_here (m ∷ ms) (n ∷ ns) (inl is) each = part_is reads may_leave moment left_since faults members opened from to minute (Some text) (member_of was) (subst Known is.0 each.0)
      part_is_here (m ∷ ms) (n ∷ ns) (inr is) each = part_is_here ms ns is.2 each.1

  -- the record is none of another bay
  unchanged : (member : Member D) → bytes_eq member.name records_bay ≡ false → own member.name s.changes ≡ []
  unchanged member other = none_of_one records_bay member.name (InRecords one) (other_name member.name records_bay other)

  module _ (start : now.start ≡ was.start) (places : Told KeepsPlaces (reads was.disk) (reads now.disk))
      (any_moment : ForSome (reads was.disk) (λ _. LeavesOnly moment left_since was.disk now.disk (OpensOr was.kept (Some one))))
      (opens : ForSome (reads now.disk) (λ _. (image : Files) → IsImage (may_leave now.disk) image → OpensOr now.kept now.pending image)) where
    among : (image : Files) → OpensOr was.kept (Some one) image → OpensAmong s part image
    among image (inl before) = (0, omega arith, before)
    among image (inr behind) = (1, omega arith, behind)

    moves : Moves reads may_leave moment left_since s part was.start now.disk
    moves = record {
      places = subst (λ (o : Option Files). Told KeepsPlaces o (reads now.disk)) open_is.same places;
      same = λ none kept. absurd (cc);
      moments = λ good files told. joins moment left_since was.start was.disk now.disk (λ (image : Files). IsImage (may_leave was.start) image ⊎ OpensAmong s part image) (OpensOr was.kept (Some one))
          (weaker moment left_since was.start was.disk (IsImage (may_leave was.start)) (λ (image : Files). IsImage (may_leave was.start) image ⊎ OpensAmong s part image) open_is.moments (λ image is. inl is))
          (any_moment files (open_is.same ∙ told)) (λ image is. inr (among image is));
    }

    -- it was done
    module _ (done : Commits reads one was now) where
      here_done : BayDone reads may_leave moment left_since s part was.start now.disk
      here_done = record {
        moves = moves;
        becomes = λ files told. let t = done.files files (open_is.same ∙ told) in (t.0, t.1, t.2.look ∙ ap OpenedRecords done.noted.makes);
        leaves = λ good files told image left. let t = done.files files (open_is.same ∙ told) in
            opens_noted image (subst (λ (o : Option Noted). OpensOr now.kept o image) done.idle (opens t.0 t.1 image left));
        removed = tt;
      }
        where
          opens_noted : (image : Files) → OpensOr now.kept None image → look image ≡ OpenedRecords (noted one was.kept)
          opens_noted image (inl is) = is ∙ ap OpenedRecords done.noted.makes
          opens_noted image (inr is) = is ∙ ap OpenedRecords done.noted.makes

      pub ends_done : Steps reads may_leave moment left_since step_topology from to minute (bays_from members) (bays_now news) (topology_reply topology was.kept (noted one was.kept))
      ends_done = let back : s ≡ step_topology given (world_of members) = sym step_is in record {
        given = given;
        world = world_of members;
        starts = starts;
        asked = subst (λ (s : Step). AllBays (λ part disk _. ForSome (reads disk) (λ files. AreLoose s.asks part files [])) (world_of members) (bays_from members) (bays_now news)) back
            (all_bays (λ part disk _. ForSome (reads disk) (λ files. AreLoose None part files [])) (λ member other is files told. tt) (λ files told. tt));
        replies = ap (λ (s : Step). s.reply) back;
        bays = subst (λ (s : Step). AllBays (BayDone reads may_leave moment left_since s) (world_of members) (bays_from members) (bays_now news)) back
            (all_bays (BayDone reads may_leave moment left_since s)
            (λ member other is. untouched_done reads may_leave moment left_since faults s member.name member.hold is.0 (unchanged member other) refl refl) here_done);
      }

    -- the disk failed
    module _ (fails : FailsWith one was now)
        (either : ForSome (reads was.disk) (λ _. (then : Files) × (reads now.disk ≡ Some then) × OpensOr was.kept (Some one) then)) where
      abbrev Stands : Option Files → Type 0
      Stands o = Becomes o (reads now.disk) (OfRecords (OpenedRecords was.kept)) ⊎ Becomes o (reads now.disk) (OfRecords (OpenedRecords (noted one was.kept)))

      stands : (o : Option Files) → ForSome o (λ _. (then : Files) × (reads now.disk ≡ Some then) × OpensOr was.kept (Some one) then) → Stands o
      stands None is = inl (λ files told. absurd (none-some files told))
      stands (Some old) is = let t = is old refl in by t.0 t.1 t.2
        where
          by : (then : Files) → reads now.disk ≡ Some then → OpensOr was.kept (Some one) then → Stands (Some old)
          by then told (inl before) = inl (λ files _. (then, told, before))
          by then told (inr behind) = inr (λ files _. (then, told, behind))

      images : (image : Files) → OpensOr now.kept now.pending image → (look image ≡ OpenedRecords was.kept) ⊎ (look image ≡ OpenedRecords (noted one was.kept))
      images image is = by now.pending fails.pending is
        where
          by : (pending : Option Noted) → (pending ≡ None) ⊎ (pending ≡ Some one) → OpensOr now.kept pending image → (look image ≡ OpenedRecords was.kept) ⊎ (look image ≡ OpenedRecords (noted one was.kept))
          by pending none (inl before) = inl (before ∙ ap OpenedRecords fails.kept)
          by pending (inl none) (inr behind) = inl (subst (λ (o : Option Noted). look image ≡ OpenedRecords (after_noted o now.kept)) none behind ∙ ap OpenedRecords fails.kept)
          by pending (inr flight) (inr behind) = inr (subst (λ (o : Option Noted). look image ≡ OpenedRecords (after_noted o now.kept)) flight behind ∙ ap (λ (r : Records). OpenedRecords (noted one r)) fails.kept)

      here_stops : BayStops reads may_leave moment left_since 0 s part was.start now.disk
      here_stops = record {
        moves = moves;
        becomes = subst Stands open_is.same (stands (reads was.disk) either);
        images = λ good files told image left. let t = either files (open_is.same ∙ told) in
            elim (images image (opens t.0 t.1 image left)) [ inl before ↦ inl (inl before) | inr behind ↦ inr behind ];
      }

      -- the disk that failed is that of the records
      rose_at : (ms ns : List (Member D)) → IsPutIn was now ms ns → Rose (faults was.start) (faults now.disk) → RoseAt faults records_bay (bays_from ms) (bays_now ns)
      rose_at [] ns is rose = absurd is
      rose_at (m ∷ ms) [] is rose = absurd is
      rose_at (m ∷ ms) (n ∷ ns) (inl is) rose = inl (
        ap (λ (x : Member D). x.name) is.0,
        subst (λ (x : Member D). Rose (faults (start_of x.hold)) (faults (disk_of n.hold))) (sym is.0) (subst (λ (x : Member D). Rose (faults was.start) (faults (disk_of x.hold))) (sym is.1) rose),
      )
      rose_at (m ∷ ms) (n ∷ ns) (inr is) rose = inr (rose_at ms ns is.2 rose)

      pub ends_failed : Rose (faults was.disk) (faults now.disk)
          → RoseAt faults records_bay (bays_from members) (bays_now news) × Stops reads may_leave moment left_since step_topology from to minute (bays_from members) (bays_now news)
      ends_failed rose = let back : s ≡ step_topology given (world_of members) = sym step_is in (
        rose_at members news put (rose_before (faults was.start) (faults was.disk) (faults now.disk) open_is.later rose),
        record {
          given = given;
          world = world_of members;
          starts = starts;
          n = 0;
          within = omega arith;
          bays = subst (λ (s : Step). AllBays (BayStops reads may_leave moment left_since 0 s) (world_of members) (bays_from members) (bays_now news)) back
              (all_bays (BayStops reads may_leave moment left_since 0 s)
              (λ member other is. untouched_stopped reads may_leave moment left_since faults s member.name member.hold is.0 (unchanged member other) refl 0) here_stops);
        },
      )
