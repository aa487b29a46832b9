-- A job begins and ends, and an intake with it.
use Rattle.std.proofs.Common.{◌≡◌, inl, inr, ℕ, Bool, true, List, [], ◌∷◌, length, refl, sym, ◌∙◌, ap, subst, arith}
use Rattle.std.specs.Prelude.{◌≢◌, ◌⊎◌, is_some, Option, None, Some, option_map, Contains, Result, Ok, Err, IsErrOf}
use Rattle.std.specs.Option.{ForSome, option_and_then}
use Rattle.std.specs.List.{AllByRecursion}
use Rattle.std.proofs.lemmas.Option.{none-some, same_Some}
use Rattle.cm_base.specs.declared.hash.Hash.{Hash}
use Rattle.cm_disk.specs.Disk.{File as Bytes, Files}
use Rattle.cm_pkglib.specs.Counts.{seal_at}
use Rattle.cm_pkglib.specs.declared.counts.Seal.{Seal}
use Rattle.cm_tree.specs.Trees.{File, manifest_of}
use Rattle.cm_tree.specs.declared.entry.Entry.{Entry}
use Rattle.cm_state.specs.Adding.{Told}
use Rattle.cm_state.specs.Changes.{StateChange, Begun, Finished, Dropped, changed, if_allowed}
use Rattle.cm_state.specs.Look.{Opened, look}
use Rattle.cm_state.specs.Opens.{OpensOr, EachOpensSome}
use Rattle.cm_state.specs.Faults.{RefusesOr}
use Rattle.cm_state.specs.Needed.{is_needed}
use Rattle.cm_state.specs.State.{State, held_by_job, bytes_of}
use Rattle.cm_state.specs.declared.fault.LibFault.{LibFault}
use Rattle.cm_state.specs.declared.fault.LibFault.TheVariants.{Disk as LibDisk, TooManyVersions as ManyVersions, TooManyEntries as ManyEntries, TooManyJobs as ManyJobs, Spent as NoneLeft}
use Rattle.cm_state.proofs.Members.{each_member, at_member}
use Rattle.cm_contents.specs.Seals.{is_stored, has_size, job_manifest, end_fault, if_needed}
use Rattle.cm_library.specs.Calls.{KeepsNeeded, AnyMoment}
use Rattle.cm_library.specs.Kept.{Seen}
use Rattle.cm_library.specs.Placing.{KeepsPlaces}
use Rattle.cm_contents.specs.Wants.{HasOneSize, HaveOneSize}
use Rattle.cm_library.proofs.KeptPlaces.{joined_places}
use Rattle.cm_library.proofs.StartedFiles.{wanted_needed}
use Rattle.cm_intake.specs.Ending.{Commits, HasBegun}
use Rattle.cm_intake.specs.Filling.{SealsWanted, KeepsState, drop_cause}
use Rattle.cm_intake.specs.Intake.{Intake, IsLimit, of_limit, refused, finished_or, read_again, within_limits, Goes, Rests, Stops, EndsAs}
use Rattle.cm_intake.specs.Readings.{Readings, first_with, is_changed, least_hash, change_of}
use Rattle.cm_intake.specs.declared.fault.IntakeFault.{IntakeFault}
use Rattle.cm_intake.specs.declared.fault.IntakeFault.TheVariants.{Folder, Changed, Disk, Memory}
use Rattle.cm_intake.specs.declared.taken.Taken.{Taken}
use Rattle.cm_intake.proofs.FirstChange.{first_there, first_with_size}
use Rattle.cm_intake.proofs.Going.{EndsOn, settled_opens, goes_kept, goes_second, goes_unended}
use Rattle.cm_intake.proofs.Held.{free_end, free_drop, all_stored}

-- the entries of a job are needed
pub entry_needed : (s : State) (job : ℕ) (entry : Entry) → Contains (job_manifest job s) entry → is_needed entry.hash.0 s ≡ true
entry_needed s job entry among =
    let first = first_there 0 (job_manifest job s) entry among in
    wanted_needed s job entry.hash first.0.1.size (first_with_size entry.hash 0 (job_manifest job s) first.0 first.1)

-- so that their seals are kept
pub entries_kept : (s : State) (job : ℕ) (old new : Hash → Option Seal) → KeepsNeeded s old new → AllByRecursion (λ (entry : Entry). new entry.hash ≡ old entry.hash) (job_manifest job s)
entries_kept s job old new kept =
    each_member (λ (entry : Entry). new entry.hash ≡ old entry.hash) (job_manifest job s) (λ entry among. kept entry.hash ∙ ap (λ (b : Bool). if_needed b (old entry.hash)) (entry_needed s job entry among))

pub still_stored : (manifest : List Entry) (old new : Hash → Option Seal) → AllByRecursion (λ (entry : Entry). new entry.hash ≡ old entry.hash) manifest → AllByRecursion (λ (entry : Entry). is_stored old entry ≡ true) manifest
    → AllByRecursion (λ (entry : Entry). is_stored new entry ≡ true) manifest
still_stored manifest old new same stored =
    each_member (λ (entry : Entry). is_stored new entry ≡ true) manifest (λ entry among.
    ap (λ (o : Option Seal). has_size entry.size o) (at_member (λ (e : Entry). new e.hash ≡ old e.hash) manifest same entry among) ∙ at_member (λ (e : Entry). is_stored old e ≡ true) manifest stored entry among)

-- only the disk keeps a job from its end whose entries are stored
pub only_unstored : (T : Type 0) (old new : Hash → Option Seal) (s t : State) (job : ℕ) (fault : LibFault) → t ≡ s → is_some (held_by_job job s.jobs) ≡ true → KeepsNeeded t old new
    → RefusesOr {T = T} (end_fault new t (Finished job)) (Err fault) → AllByRecursion (λ (entry : Entry). is_stored old entry ≡ true) (job_manifest job s) → fault ≡ LibDisk
only_unstored T old new s t job fault same unfinished kept answer stored =
    let here = subst (λ (u : State). AllByRecursion (λ (entry : Entry). is_stored old entry ≡ true) (job_manifest job u)) (sym same) stored in
    let none = free_end new t job (ap (λ (u : State). is_some (held_by_job job u.jobs)) same ∙ unfinished) (still_stored (job_manifest job t) old new (entries_kept t job old new kept) here) in
    subst (λ (o : Option LibFault). RefusesOr {T = T} o (Err fault)) none answer

-- and from its being dropped
pub only_disk : (T : Type 0) (seals : Hash → Option Seal) (s t : State) (job : ℕ) (fault : LibFault) → t ≡ s → is_some (held_by_job job s.jobs) ≡ true → RefusesOr {T = T} (end_fault seals t (Dropped job)) (Err fault) → fault ≡ LibDisk
only_disk T seals s t job fault same unfinished answer =
    subst (λ (o : Option LibFault). RefusesOr {T = T} o (Err fault)) (free_drop seals t job (ap (λ (u : State). is_some (held_by_job job u.jobs)) same ∙ unfinished)) answer

-- an intake that has begun, by why its job is dropped
pub again_is : (id : List ℕ) (version : ℕ) (manifest : List Entry) (s : State) (second : Option (ℕ → List ℕ)) → read_again id version manifest s second ≡ finished_or id version manifest s (drop_cause s manifest second)
again_is id version manifest s None = refl
again_is id version manifest s (Some second) = refl

-- a job that begins changes no version
pub same_cause : (id : List ℕ) (version job : ℕ) (manifest held : List Entry) (s : State) (second : Option (ℕ → List ℕ)) → drop_cause (changed (Begun job id version held) s) manifest second ≡ drop_cause s manifest second
same_cause id version job manifest held s None = refl
same_cause id version job manifest held s (Some second) = refl

-- what is dropped for: the folder, or a change
abbrev IsCause : IntakeFault → Type 0
IsCause Folder = Unit {0}
IsCause (Changed path first first_size second second_size) = Unit {0}
IsCause fault = ⊥

-- its changes
pub record Changes (id : List ℕ) (version : ℕ) (manifest : List Entry) (s : State) (intake : Intake) : Type 0 where
  pub last : StateChange
  pub are : intake.changes ≡ Begun s.next id version manifest ∷ last ∷ []

pub changes_or : (id : List ℕ) (version : ℕ) (manifest : List Entry) (s : State) (cause : Option IntakeFault) → Changes id version manifest s (finished_or id version manifest s cause)
changes_or id version manifest s None = record { last = Finished s.next; are = refl }
changes_or id version manifest s (Some fault) = record { last = Dropped s.next; are = refl }

pub changes_of : (id : List ℕ) (version : ℕ) (manifest : List Entry) (s : State) (second : Option (ℕ → List ℕ)) → Changes id version manifest s (read_again id version manifest s second)
changes_of id version manifest s second = subst (λ (i : Intake). Changes id version manifest s i) (sym (again_is id version manifest s second)) (changes_or id version manifest s (drop_cause s manifest second))

pub cause_kind : (s : State) (manifest : List Entry) (second : Option (ℕ → List ℕ)) (fault : IntakeFault) → Some fault ≡ drop_cause s manifest second → IsCause fault
cause_kind s manifest None fault is = subst (λ (f : IntakeFault). IsCause f) (sym (same_Some fault Folder is)) tt
cause_kind s manifest (Some second) fault is = by (least_hash (is_changed s manifest second) manifest) is
  where
    numbered : (o : Option (ℕ × Entry)) → Some fault ≡ option_map (change_of second) o → IsCause fault
    numbered None none = absurd (none-some fault (sym none))
    numbered (Some entry) some = subst (λ (f : IntakeFault). IsCause f) (sym (same_Some fault (change_of second entry) some)) tt

    by : (o : Option Hash) → Some fault ≡ option_and_then (λ (hash : Hash). option_map (change_of second) (first_with hash 0 manifest)) o → IsCause fault
    by None none = absurd (none-some fault (sym none))
    by (Some hash) some = numbered (first_with hash 0 manifest) some

-- a hash has one size, whatever else is sealed
one_size : (manifest : List Entry) (was now : Hash → Option Seal) → AllByRecursion (λ (entry : Entry). now entry.hash ≡ was entry.hash) manifest → HaveOneSize was manifest → HaveOneSize now manifest
one_size manifest was now same one =
    each_member (HasOneSize now manifest) manifest (λ entry among.
    let here = at_member (HasOneSize was manifest) manifest one entry among in
    let is = at_member (λ (e : Entry). now e.hash ≡ was e.hash) manifest same entry among in
    record {
      first = here.first;
      sealed = elim here.sealed [ inl none ↦ inl (is ∙ none) | inr stored ↦ inr (ap (λ (o : Option Seal). has_size entry.size o) is ∙ stored) ];
    })

module _ {D : Type 0} (reads : D → Option Files) (may_leave : D → List ℕ → Bytes → Type 0) (moment : D → ℕ) (left_since : D → ℕ → Files → Type 0) where
  -- it was refused by a limit
  pub ends_limited : (readings : Readings) (old new : Seen D) (fault : LibFault) → IsLimit fault → Rests reads may_leave moment left_since 0 [] old new → EndsAs reads may_leave moment left_since readings (refused (of_limit fault)) old new (Err (of_limit fault))
  ends_limited readings old new ManyVersions limit rests = (refl, rests)
  ends_limited readings old new ManyEntries limit rests = (refl, rests)
  ends_limited readings old new ManyJobs limit rests = (refl, rests)
  ends_limited readings old new NoneLeft limit rests = (refl, rests)
  ends_limited readings old new _ limit rests = absurd limit

  -- there was no memory for it
  pub ends_unmade : (readings : Readings) (intake : Intake) (old new : Seen D) → Rests reads may_leave moment left_since 0 intake.changes old new → EndsAs reads may_leave moment left_since readings intake old new (Err Memory)
  ends_unmade readings intake old new rests = (0, rests, inl refl)

  -- it ends with its job dropped
  ends_caused : (readings : Readings) (intake : Intake) (old new : Seen D) (fault : IntakeFault) → IsCause fault → (let r : Result Taken IntakeFault = Err fault in r) ≡ intake.answer → Rests reads may_leave moment left_since (length intake.changes) intake.changes old new
      → EndsAs reads may_leave moment left_since readings intake old new (Err fault)
  ends_caused readings intake old new Folder kind is rests = (is, rests)
  ends_caused readings intake old new (Changed path first first_size second second_size) kind is rests = (is, rests)
  ends_caused readings intake old new _ kind is rests = absurd kind

  module _ (id : List ℕ) (version : ℕ) (manifest : List Entry) (files : List File) (job : ℕ) (first old mid : Seen D) (is : manifest ≡ manifest_of files) (begun : HasBegun reads may_leave moment left_since id version manifest job first old)
      (keeps : KeepsState reads may_leave moment left_since job old mid) (settled : old.pending ≡ None) (second : Option (ℕ → List ℕ)) where
    abbrev its_readings : Readings
    its_readings = record { first = Some files; second = second }

    abbrev its_intake : Option IntakeFault → Intake
    its_intake cause = finished_or id version manifest first.state cause

    abbrev its_begun : StateChange
    its_begun = Begun first.state.next id version manifest

    places_mid : Told KeepsPlaces (reads first.disk) (reads mid.disk)
    places_mid = joined_places (reads first.disk) (reads old.disk) (reads mid.disk) begun.places keeps.places

    goes_mid : (last : StateChange) → Goes reads may_leave moment left_since 1 (its_begun ∷ last ∷ []) first mid
    goes_mid last = goes_kept reads may_leave moment left_since (its_begun ∷ last ∷ []) 1 job first old mid (begun.goes last) begun.places keeps

    its_cause : drop_cause old.state manifest second ≡ drop_cause first.state manifest second
    its_cause = ap (λ (s : State). drop_cause s manifest second) begun.state ∙ same_cause id version first.state.next manifest manifest first.state second

    -- by why the job is dropped
    by_cause : (cause : Option IntakeFault) (new : Seen D) (result : Result Taken IntakeFault) → cause ≡ drop_cause old.state manifest second → EndsAs reads may_leave moment left_since its_readings (its_intake cause) first new result
        → EndsAs reads may_leave moment left_since its_readings (read_again id version manifest first.state second) first new result
    by_cause cause new result why ends =
        subst (λ (i : Intake). EndsAs reads may_leave moment left_since its_readings i first new result)
        (ap (λ (o : Option IntakeFault). its_intake o) (why ∙ its_cause) ∙ sym (again_is id version manifest first.state second)) ends

    rests_done : (T : Type 0) (change : StateChange) (new : Seen D) (x : T) → Commits {T = T} reads may_leave moment left_since change mid new (Ok x) → Rests reads may_leave moment left_since 2 (its_begun ∷ change ∷ []) first new
    rests_done T change new x commits = record {
      goes = goes_second reads may_leave moment left_since its_begun change first mid new (goes_mid change) places_mid commits.opens commits.done.0 commits.start;
      idle = commits.done.1;
      same = λ none. absurd (omega (arith, none));
    }

    stops_undone : (T : Type 0) (change : StateChange) (new : Seen D) (fault : IntakeFault) → Commits {T = T} reads may_leave moment left_since change mid new (Err fault) → Stops reads may_leave moment left_since 1 (its_begun ∷ change ∷ []) first new
    stops_undone T change new fault commits = record {
      goes = goes_unended reads may_leave moment left_since its_begun change first mid new (goes_mid change) places_mid commits.opens commits.failed.0 commits.start;
      flight = elim commits.failed.1 [ inl none ↦ inl none | inr flies ↦ inr (omega arith, flies.1) ];
      same = λ none. absurd (omega (arith, none));
    }

    -- the job is finished
    pub ends_finished : (T : Type 0) (new : Seen D) (x : T) (taken : Taken) → None ≡ drop_cause old.state manifest second → Commits {T = T} reads may_leave moment left_since (Finished job) mid new (Ok x) → taken.files ≡ length manifest → taken.bytes ≡ bytes_of manifest
        → EndsAs reads may_leave moment left_since its_readings (read_again id version manifest first.state second) first new (Ok taken)
    ends_finished T new x taken why commits many bytes =
        by_cause None new (Ok taken) why (
          ap (λ (n : ℕ). let r : Result Taken IntakeFault = Ok (record { files = n; bytes = taken.bytes }) in r) many ∙ ap (λ (n : ℕ). let r : Result Taken IntakeFault = Ok (record { files = length manifest; bytes = n }) in r) bytes,
          rests_done T (Finished first.state.next) new x (subst (λ (j : ℕ). Commits {T = T} reads may_leave moment left_since (Finished j) mid new (Ok x)) begun.job_is commits),
        )

    -- it is dropped
    pub ends_dropped : (T : Type 0) (new : Seen D) (x : T) (fault : IntakeFault) → Some fault ≡ drop_cause old.state manifest second → Commits {T = T} reads may_leave moment left_since (Dropped job) mid new (Ok x)
        → EndsAs reads may_leave moment left_since its_readings (read_again id version manifest first.state second) first new (Err fault)
    ends_dropped T new x fault why commits =
        by_cause (Some fault) new (Err fault) why
        (ends_caused its_readings (its_intake (Some fault)) first new fault (cause_kind old.state manifest second fault why) refl
        (rests_done T (Dropped first.state.next) new x (subst (λ (j : ℕ). Commits {T = T} reads may_leave moment left_since (Dropped j) mid new (Ok x)) begun.job_is commits)))

    -- the disk failed as the files were read again
    pub ends_unfilled : EndsAs reads may_leave moment left_since its_readings (read_again id version manifest first.state second) first mid (Err Disk)
    ends_unfilled =
        let changes = changes_of id version manifest first.state second in (
          1,
          subst (λ (cs : List StateChange). Stops reads may_leave moment left_since 1 cs first mid) (sym changes.are) (record { goes = goes_mid changes.last; flight = inl (keeps.rows.pending ∙ settled); same = λ none. absurd (omega (arith, none)) }),
        )

    -- or as the job was to end
    pub ends_undropped : (T : Type 0) (new : Seen D) (fault cause : IntakeFault) → Some cause ≡ drop_cause old.state manifest second → fault ≡ Disk → Commits {T = T} reads may_leave moment left_since (Dropped job) mid new (Err fault)
        → EndsAs reads may_leave moment left_since its_readings (read_again id version manifest first.state second) first new (Err fault)
    ends_undropped T new fault cause why disk commits =
        by_cause (Some cause) new (Err fault) why
        (subst (λ (f : IntakeFault). EndsAs reads may_leave moment left_since its_readings (its_intake (Some cause)) first new (Err f)) (sym disk)
        (1, stops_undone T (Dropped first.state.next) new fault (subst (λ (j : ℕ). Commits {T = T} reads may_leave moment left_since (Dropped j) mid new (Err fault)) begun.job_is commits)))

    pub ends_unfinished : (T : Type 0) (new : Seen D) (fault : IntakeFault) → None ≡ drop_cause old.state manifest second → job_manifest job old.state ≡ manifest → SealsWanted manifest (seal_at old.seals) (seal_at mid.seals)
        → AllByRecursion (λ (entry : Entry). seal_at mid.seals entry.hash ≢ None) manifest → Commits {T = T} reads may_leave moment left_since (Finished job) mid new (Err fault)
        → ((fault ≡ Disk) ⊎ ((fault ≡ Memory) × (AllByRecursion (λ (entry : Entry). is_stored (seal_at mid.seals) entry ≡ true) (job_manifest job mid.state) → ⊥)))
        → EndsAs reads may_leave moment left_since its_readings (read_again id version manifest first.state second) first new (Err fault)
    ends_unfinished T new fault why held wanted sealed commits kind =
        let here = subst (λ (j : ℕ). Commits {T = T} reads may_leave moment left_since (Finished j) mid new (Err fault)) begun.job_is commits in
        by_cause None new (Err fault) why
        (elim kind [
          | inl disk ↦ subst (λ (f : IntakeFault). EndsAs reads may_leave moment left_since its_readings (its_intake None) first new (Err f)) (sym disk) (1, stops_undone T (Finished first.state.next) new fault here)
          | inr memory ↦ subst (λ (f : IntakeFault). EndsAs reads may_leave moment left_since its_readings (its_intake None) first new (Err f)) (sym memory.0) (
            1,
            record {
              goes = goes_unended reads may_leave moment left_since its_begun (Finished first.state.next) first mid new (goes_mid (Finished first.state.next)) places_mid here.opens here.failed.0 here.start;
              idle = elim here.failed.1 [ inl none ↦ none | inr flies ↦ absurd (other (sym memory.0 ∙ flies.0)) ];
              same = λ none. absurd (omega (arith, none));
            },
            inr (refl, λ one. memory.1 (stored one)),
          )
        ])
      where
        other : Memory ≡ Disk → ⊥
        other e = cc

        stored : HaveOneSize (seal_at first.seals) (manifest_of files) → AllByRecursion (λ (entry : Entry). is_stored (seal_at mid.seals) entry ≡ true) (job_manifest job mid.state)
        stored one =
            let here = one_size manifest (seal_at first.seals) (seal_at old.seals) begun.seals (subst (λ (es : List Entry). HaveOneSize (seal_at first.seals) es) (sym is) one) in
            subst (λ (es : List Entry). AllByRecursion (λ (entry : Entry). is_stored (seal_at mid.seals) entry ≡ true) es) (sym (ap (λ (s : State). job_manifest job s) keeps.rows.state ∙ held)) (all_stored manifest (seal_at old.seals) (seal_at mid.seals) here wanted sealed)

  -- a job begins
  module _ (id : List ℕ) (version : ℕ) (manifest : List Entry) (old new : Seen D) where
    -- the disk failed
    pub ends_unbegun : (readings : Readings) (limit : Option LibFault) → limit ≡ None → ((new.pending ≡ None) ⊎ (new.pending ≡ Some (Begun old.state.next id version manifest)))
        → ((last : StateChange) → Goes reads may_leave moment left_since 0 (Begun old.state.next id version manifest ∷ last ∷ []) old new) → EndsAs reads may_leave moment left_since readings (within_limits id version manifest old.state readings.second limit) old new (Err Disk)
    ends_unbegun readings limit none flight goes =
        let changes = changes_of id version manifest old.state readings.second in
        subst (λ (o : Option LibFault). EndsAs reads may_leave moment left_since readings (within_limits id version manifest old.state readings.second o) old new (Err Disk)) (sym none) (
          0,
          subst (λ (cs : List StateChange). Stops reads may_leave moment left_since 0 cs old new) (sym changes.are) (record { goes = goes changes.last; flight = elim flight [ inl idle ↦ inl idle | inr flies ↦ inr (omega arith, flies) ]; same = λ none. absurd (omega (arith, none)) }),
        )

-- want of memory is no fault of the disk
pub not_disk : {T : Type 0} → IsErrOf {T = T} (Err Memory) Disk → ⊥
not_disk is = cc

-- a call with one change on a settled library
module _ {D : Type 0} (reads : D → Option Files) (may_leave : D → List ℕ → Bytes → Type 0) (moment : D → ℕ) (left_since : D → ℕ → Files → Type 0) (T U : Type 0) (change : StateChange) (Answers : Seen D → Result T LibFault → Type 0) (old new : Seen D)
    (settled : old.pending ≡ None) (looks : ForSome (reads old.disk) (λ files. old.pending ≡ None → look files ≡ Opened old.state))
    (opens : EachOpensSome (may_leave old.start) → ForSome (reads old.disk) (λ files. (found : State) → look files ≡ Opened found → AnyMoment moment left_since OpensOr (if_allowed change) old.disk new.disk old.state old.pending found)) where
  pub commits_done : (x : T) (y : U) → EndsOn reads may_leave moment left_since {T = T} (λ _. change) Answers old new (Ok x) → Commits {T = U} reads may_leave moment left_since change old new (Ok y)
  commits_done x y done = record {
    done = (done.ends.ok.0 ∙ ap (λ (s : State). changed change s) done.state, done.ends.ok.2);
    failed = tt;
    start = done.ends.start ∙ done.finds.start;
    opens = settled_opens reads may_leave moment left_since (if_allowed change) old new settled looks opens;
  }

  pub commits_failed : (fault : LibFault) → EndsOn reads may_leave moment left_since {T = T} (λ _. change) Answers old new (Err fault) → Commits {T = U} reads may_leave moment left_since change old new (Err Disk)
  commits_failed fault done = record {
    done = tt;
    failed = (done.ends.err.0 ∙ done.state, elim done.ends.err.2 [ inl none ↦ inl none | inr flies ↦ inr (refl, flies) ]);
    start = done.ends.start ∙ done.finds.start;
    opens = settled_opens reads may_leave moment left_since (if_allowed change) old new settled looks opens;
  }

  pub commits_none : (fault : IntakeFault) → new ≡ old → Commits {T = U} reads may_leave moment left_since change old new (Err fault)
  commits_none fault same = record {
    done = tt;
    failed = (ap (λ (v : Seen D). v.state) same, inl (ap (λ (v : Seen D). v.pending) same ∙ settled));
    start = ap (λ (v : Seen D). v.start) same;
    opens = settled_opens reads may_leave moment left_since (if_allowed change) old new settled looks opens;
  }
