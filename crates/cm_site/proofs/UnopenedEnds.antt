-- How a command ends on a site that is not opened: each disk reads as before, and a crash leaves at each moment what it might have left before.
use Rattle.std.proofs.Common.{◌≡◌, ℕ, ◌≤◌, List, [], ◌∷◌, ◌++◌, Option, None, Some, inl, inr, refl, sym, ap, subst}
use Rattle.std.specs.Prelude.{map}
use Rattle.std.specs.List.{AllByRecursion}
use Rattle.std.specs.Option.{ForSome}
use Rattle.std.proofs.lemmas.Option.{none-some, same_Some}
use Rattle.cm_base.specs.Causes.{Rose}
use Rattle.cm_disk.specs.Disk.{File, Files, IsImage}
use Rattle.cm_disk.proofs.Moments.{started}
use Rattle.cm_register.specs.Look.{look as look_records, Missing as NoRecords, Unreadable as UnreadableRecords}
use Rattle.cm_state.specs.Look.{Missing, Unreadable, look}
use Rattle.cm_site.specs.Bays.{AreBays}
use Rattle.cm_site.specs.Contents.{Content, content_in, gate_of}
use Rattle.cm_site.specs.Machine.{Given, Step, opened, opened_or, reply_of}
use Rattle.cm_site.specs.Opened.{IsOpenAs, IsOpenSite, start_of, disk_of, part_of, world_of, bays_from, bays_now}
use Rattle.cm_site.specs.Opening.{Closed, NoLibrary, NotReadable, NoBayFor, closed_in, point_without_bay}
use Rattle.cm_site.specs.Openings.{fault_reply}
use Rattle.cm_site.specs.Runs.{Outside, HasKind, AllBays, RoseAt, Steps, EndsOn}
use Rattle.cm_site.specs.Unopened.{IsLeft, StopsAtBay, none_in, unreadable_in}
use Rattle.cm_site.specs.Worlds.{World, Part, records_of}
use Rattle.cm_site.specs.declared.bay.Bay.{Bay}
use Rattle.cm_site.specs.declared.fault.SiteFault.{SiteFault}
use Rattle.cm_site.specs.declared.fault.SiteFault.TheVariants as fault
use Rattle.cm_site.specs.declared.member.Member.{Member}
use Rattle.cm_site.specs.declared.reply.Reply.TheVariants as reply
use Rattle.cm_site.proofs.Closed.{closed_behind, closed_open, kind_is, none_closed, unreadable_closed}
use Rattle.cm_site.proofs.Left.{IsLeftAs, given_for_bays, left_gives_up, left_steps, left_stops}
use Rattle.cm_site.proofs.Lifted.{content_is, gate_is, kind_of}
use Rattle.cm_site.proofs.Untouched.{leaves_images, reads_same}

-- what a bay is of which the disk may tell nothing

abbrev content_told : List ℕ → Option Files → Content
content_told name None = none_in name
content_told name (Some files) = content_in name files

abbrev gate_told : List ℕ → Option Files → ℕ
gate_told name None = 0
gate_told name (Some files) = gate_of name files

content_is_told : (name : List ℕ) (read : Option Files) → ForSome read (λ files. content_in name files ≡ content_told name read)
content_is_told name None files told = absurd (none-some files told)
content_is_told name (Some was) files told = ap (content_in name) (sym (same_Some was files told))

gate_is_told : (name : List ℕ) (read : Option Files) → ForSome read (λ files. gate_of name files ≡ gate_told name read)
gate_is_told name None files told = absurd (none-some files told)
gate_is_told name (Some was) files told = ap (gate_of name) (sym (same_Some was files told))

kind_is_told : (name : List ℕ) (read : Option Files) → HasKind name (content_told name read)
kind_is_told name None = kind_is name NoRecords Missing
kind_is_told name (Some files) = kind_is name (look_records files) (look files)

module _ {D : Type 0} (reads : D → Option Files) (may_leave : D → List ℕ → File → Type 0) (moment : D → ℕ) (left_since : D → ℕ → Files → Type 0) (faults : D → ℕ)
    (counts : (disk : D) (t : ℕ) (files : Files) → t ≤ moment disk → IsImage (may_leave disk) files → left_since disk t files)
    (only_now : (disk : D) (files : Files) → left_since disk (moment disk) files → IsImage (may_leave disk) files) where
  abbrev Leaves : Part → D → D → Type 0
  Leaves = IsLeftAs reads may_leave moment left_since

  abbrev IsOpenMember : Member D → Type 0
  IsOpenMember member = IsOpenAs reads may_leave moment left_since faults member.name member.hold

  -- a bay that was opened
  member_left : (member : Member D) → IsOpenMember member → Leaves (part_of member) (start_of member.hold) (disk_of member.hold)
  member_left member is = record {
    left = record { same = reads_same reads may_leave moment left_since faults member.name member.hold is; run = leaves_images reads may_leave moment left_since faults member.name member.hold is };
    kind = kind_of reads may_leave moment left_since faults member.name member.hold is;
    content = content_is reads may_leave moment left_since faults member.name member.hold is;
    gate = gate_is reads may_leave moment left_since faults member.name member.hold is;
  }

  -- a bay that was not, by what it holds
  abbrev part_as : Bay D → Content → Part
  part_as bay content = record { name = bay.name; content = content; gate = gate_told bay.name (reads bay.disk) }

  bay_left : (bay : Bay D) (now : D) (content : Content) → IsLeft reads may_leave moment left_since bay.disk now → HasKind bay.name content → ForSome (reads bay.disk) (λ files. content_in bay.name files ≡ content)
      → Leaves (part_as bay content) bay.disk now
  bay_left bay now content left kind is = record { left = left; kind = kind; content = is; gate = gate_is_told bay.name (reads bay.disk) }

  -- bays of which nothing was done
  abbrev parts_told : List (Bay D) → World
  parts_told bays = map (λ (bay : Bay D). part_as bay (content_told bay.name (reads bay.disk))) bays

  all_told : (bays : List (Bay D)) → AllBays Leaves (parts_told bays) bays bays
  all_told [] = tt
  all_told (bay ∷ bays) = (
    refl,
    refl,
    bay_left bay bay.disk (content_told bay.name (reads bay.disk)) (record { same = refl; run = started moment left_since bay.disk (IsImage (may_leave bay.disk)) (only_now bay.disk) })
        (kind_is_told bay.name (reads bay.disk)) (content_is_told bay.name (reads bay.disk)),
    all_told bays,
  )

  -- bays behind those that were opened
  all_behind : (members : List (Member D)) → AllByRecursion IsOpenMember members → (world : World) (olds news : List (Bay D)) → AllBays Leaves world olds news
      → AllBays Leaves (world_of members ++ world) (bays_from members ++ olds) (bays_now members ++ news)
  all_behind [] each world olds news all = all
  all_behind (member ∷ members) each world olds news all = (refl, refl, member_left member each.0, all_behind members each.1 world olds news all)

  all_opened : (members : List (Member D)) → AllByRecursion IsOpenMember members → AllBays Leaves (world_of members) (bays_from members) (bays_now members)
  all_opened [] each = tt
  all_opened (member ∷ members) each = (refl, refl, member_left member each.0, all_opened members each.1)

  rose_behind : (members : List (Member D)) (name : List ℕ) (olds news : List (Bay D)) → RoseAt faults name olds news → RoseAt faults name (bays_from members ++ olds) (bays_now members ++ news)
  rose_behind [] name olds news rose = rose
  rose_behind (member ∷ members) name olds news rose = inr (rose_behind members name olds news rose)

  -- how each command ends on bays that are given back with a fault
  abbrev pub EndsBy : SiteFault → List (Bay D) → List (Bay D) → Type 0
  EndsBy cause bays back = (step : Given → World → Step) (from to : Outside) (minute : ℕ) → EndsOn reads may_leave moment left_since faults (λ given. opened (step given)) from to minute (fault_reply cause) bays back

  module _ (bays back : List (Bay D)) (are : AreBays bays) where
    -- the step is the reply of why the bays are not opened
    closed_steps : (world : World) → AllBays Leaves world bays back → (closed : Closed) → closed_in world ≡ Some closed → (step : Given → World → Step) (from to : Outside) (minute : ℕ)
        → Steps reads may_leave moment left_since (λ given. opened (step given)) from to minute bays back (reply_of closed)
    closed_steps world all closed is step from to minute =
        left_steps reads may_leave moment left_since from to minute bays counts (λ given. opened (step given)) world back are.distinct all (reply_of closed)
        (ap (λ (c : Option Closed). opened_or c (step (given_for_bays reads may_leave moment left_since from minute bays) world)) is)

    module _ (cause : SiteFault) (stops : StopsAtBay reads may_leave moment left_since faults bays back cause) where
      abbrev world_with : Content → World
      world_with content = world_of stops.members ++ part_as stops.bay content ∷ parts_told stops.rest

      -- the bay that was not opened holds this
      all_stopped : (content : Content) → HasKind stops.bay.name content → ForSome (reads stops.bay.disk) (λ files. content_in stops.bay.name files ≡ content) → AllBays Leaves (world_with content) bays back
      all_stopped content kind is =
          subst (λ (olds : List (Bay D)). AllBays Leaves (world_with content) olds back) (sym stops.before)
          (subst (λ (news : List (Bay D)). AllBays Leaves (world_with content) (bays_from stops.members ++ stops.bay ∷ stops.rest) news) (sym stops.after)
          (all_behind stops.members stops.each (part_as stops.bay content ∷ parts_told stops.rest) (stops.bay ∷ stops.rest) (stops.now ∷ stops.rest)
          (refl, stops.named, bay_left stops.bay stops.now.disk content stops.left kind is, all_told stops.rest)))

      -- it holds what its disk tells
      abbrev content_there : Content
      content_there = content_told stops.bay.name (reads stops.bay.disk)

      all_there : AllBays Leaves (world_with content_there) bays back
      all_there = all_stopped content_there (kind_is_told stops.bay.name (reads stops.bay.disk)) (content_is_told stops.bay.name (reads stops.bay.disk))

      -- its disk failed
      rose_there : Rose (faults stops.bay.disk) (faults stops.now.disk) → RoseAt faults stops.bay.name bays back
      rose_there rose =
          subst (λ (olds : List (Bay D)). RoseAt faults stops.bay.name olds back) (sym stops.before)
          (subst (λ (news : List (Bay D)). RoseAt faults stops.bay.name (bays_from stops.members ++ stops.bay ∷ stops.rest) news) (sym stops.after)
          (rose_behind stops.members stops.bay.name (stops.bay ∷ stops.rest) (stops.now ∷ stops.rest) (inl (refl, rose))))

    -- a bay was not opened
    pub ends_stopped : (cause : SiteFault) → StopsAtBay reads may_leave moment left_since faults bays back cause → EndsBy cause bays back
    ends_stopped (fault.NoLibrary name) stops = λ step from to minute.
        let content : Content = none_in stops.bay.name in
        subst (λ (n : List ℕ). Steps reads may_leave moment left_since (λ given. opened (step given)) from to minute bays back (reply.NoLibrary n)) (sym stops.fault.0)
        (closed_steps (world_with (fault.NoLibrary name) stops content) (all_stopped (fault.NoLibrary name) stops content (kind_is stops.bay.name NoRecords Missing) stops.fault.1) (NoLibrary stops.bay.name)
        (closed_behind stops.members (part_as stops.bay content) (parts_told stops.rest) (NoLibrary stops.bay.name) (none_closed stops.bay.name)) step from to minute)
    ends_stopped (fault.Unreadable name place at) stops = λ step from to minute.
        let content : Content = unreadable_in stops.bay.name place at in
        subst (λ (n : List ℕ). Steps reads may_leave moment left_since (λ given. opened (step given)) from to minute bays back (reply.Unreadable n place at)) (sym stops.fault.0)
        (closed_steps (world_with (fault.Unreadable name place at) stops content)
        (all_stopped (fault.Unreadable name place at) stops content (kind_is stops.bay.name (UnreadableRecords place at) (Unreadable place at)) stops.fault.1) (NotReadable stops.bay.name place at)
        (closed_behind stops.members (part_as stops.bay content) (parts_told stops.rest) (NotReadable stops.bay.name place at) (unreadable_closed stops.bay.name place at)) step from to minute)
    ends_stopped (fault.NoBayFor name) stops = absurd stops.fault
    ends_stopped (fault.Disk name) stops = λ step from to minute. (
      subst (λ (n : List ℕ). RoseAt faults n bays back) (sym stops.fault.0) (rose_there (fault.Disk name) stops stops.fault.1),
      left_stops reads may_leave moment left_since from to minute bays counts (λ given. opened (step given)) (world_with (fault.Disk name) stops (content_there (fault.Disk name) stops)) back are.distinct (all_there (fault.Disk name) stops),
    )
    ends_stopped fault.Memory stops = λ step from to minute.
        left_gives_up reads may_leave moment left_since from to minute bays counts (λ given. opened (step given)) (world_with fault.Memory stops (content_there fault.Memory stops)) back are.distinct (all_there fault.Memory stops)

    -- all were opened, and a point has no bay
    pub ends_without_bay : (members : List (Member D)) → AllByRecursion IsOpenMember members → bays_from members ≡ bays → back ≡ bays_now members → (name : List ℕ) → Some name ≡ point_without_bay (records_of (world_of members)) (world_of members) → EndsBy (fault.NoBayFor name) bays back
    ends_without_bay members each from_is back_is name is =
        closed_steps (world_of members)
        (subst (λ (olds : List (Bay D)). AllBays Leaves (world_of members) olds back) from_is
        (subst (λ (news : List (Bay D)). AllBays Leaves (world_of members) (bays_from members) news) (sym back_is) (all_opened members each)))
        (NoBayFor name) (closed_open members (Some name) is)

  -- nothing was opened for want of memory
  pub ends_at_once : (bays : List (Bay D)) → AreBays bays → EndsBy fault.Memory bays bays
  ends_at_once bays are = λ step from to minute. left_gives_up reads may_leave moment left_since from to minute bays counts (λ given. opened (step given)) (parts_told bays) bays are.distinct (all_told bays)

  -- all are open
  pub is_open_site : (bays : List (Bay D)) → AreBays bays → (members : List (Member D)) → bays_from members ≡ bays → AllByRecursion IsOpenMember members → None ≡ point_without_bay (records_of (world_of members)) (world_of members)
      → IsOpenSite reads may_leave moment left_since faults members
  is_open_site bays are members from_is each none = record {
    bays = subst (λ (b : List (Bay D)). AreBays b) (sym from_is) are;
    each = each;
    none_closed = closed_open members None none;
  }
