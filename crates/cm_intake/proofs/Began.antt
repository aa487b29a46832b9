-- A job has begun.
use Rattle.std.proofs.Common.{◌≡◌, inl, inr, ℕ, Bool, true, false, List, [], length, refl, sym, ◌∙◌, ap, subst}
use Rattle.std.specs.Prelude.{◌≢◌, ◌||◌, is_some, Option, None, Some, Result, Ok, Err, IfOk, IsErrOf}
use Rattle.std.specs.Option.{ForSome}
use Rattle.std.specs.List.{AllByRecursion}
use Rattle.cm_base.specs.declared.hash.Hash.{Hash}
use Rattle.cm_disk.specs.Disk.{File as Bytes, Files, IsImage, LeavesOnly}
use Rattle.cm_pkglib.specs.Counts.{seal_at}
use Rattle.cm_pkglib.specs.Rows.{last_of}
use Rattle.cm_pkglib.specs.declared.counts.Seal.{Seal}
use Rattle.cm_tree.specs.declared.entry.Entry.{Entry}
use Rattle.cm_state.specs.Adding.{Told}
use Rattle.cm_state.specs.Changes.{StateChange, Begun, changed, if_allowed}
use Rattle.cm_state.specs.Faults.{begin_fault, limit_fault, Refuses}
use Rattle.cm_state.specs.Needed.{is_named, is_needed}
use Rattle.cm_state.specs.Opens.{OpensOr, EachOpensSome}
use Rattle.cm_state.specs.Sound.{IsSound}
use Rattle.cm_state.specs.State.{Held, State, held_of, held_by_job}
use Rattle.cm_state.specs.declared.fault.LibFault.{LibFault}
use Rattle.cm_state.specs.declared.fault.LibFault.TheVariants.{Disk as LibDisk, Memory as LibMemory, TooManyVersions as ManyVersions, TooManyEntries as ManyEntries, TooManyJobs as ManyJobs, Spent as NoneLeft}
use Rattle.cm_state.proofs.Members.{each_member, at_member}
use Rattle.cm_contents.specs.Seals.{if_needed, job_manifest, manifest_or_none}
use Rattle.cm_library.specs.Calls.{KeepsNeeded, StaysSame}
use Rattle.cm_library.specs.Kept.{Seen}
use Rattle.cm_library.specs.Placing.{KeepsPlaces}
use Rattle.cm_intake.specs.Ending.{HasBegun, EndsRefused}
use Rattle.cm_intake.specs.Intake.{IsAbove, IsLimit, of_limit, within_limits, Rests, EndsAs}
use Rattle.cm_intake.specs.declared.fault.IntakeFault.TheVariants.{Disk, Memory}
use Rattle.cm_intake.proofs.Ended.{entries_kept, ends_limited, ends_unmade, ends_unbegun}
use Rattle.cm_intake.proofs.Going.{EndsOn, goes_none, goes_first, goes_unbegun}
use Rattle.cm_intake.proofs.Held.{begun_held}
use Rattle.cm_intake.proofs.Limits.{begin_fault-above, limit_fault-IsLimit}

-- it has its manifest
pub held_begun : (s t : State) (job : ℕ) (id : List ℕ) (version : ℕ) (manifest : List Entry) → IsSound s → job ≡ s.next → t ≡ changed (Begun s.next id version manifest) s → held_by_job job t.jobs ≡ Some (held_of id version manifest)
held_begun s t job id version manifest sound next is =
    ap (λ (u : State). held_by_job job u.jobs) is ∙ ap (λ (j : ℕ). held_by_job job (changed (Begun j id version manifest) s).jobs) (sym next) ∙ begun_held s job id version manifest sound next

pub manifest_begun : (t : State) (job : ℕ) (id : List ℕ) (version : ℕ) (manifest : List Entry) → held_by_job job t.jobs ≡ Some (held_of id version manifest) → job_manifest job t ≡ manifest
manifest_begun t job id version manifest is = ap (λ (o : Option Held). manifest_or_none o) is

pub unfinished_begun : (t : State) (job : ℕ) (id : List ℕ) (version : ℕ) (manifest : List Entry) → held_by_job job t.jobs ≡ Some (held_of id version manifest) → is_some (held_by_job job t.jobs) ≡ true
unfinished_begun t job id version manifest is = ap (λ (o : Option Held). is_some o) is

-- a hash keeps its seal where only those of the versions are sealed
named_kept : (named jobs : Bool) (seal : Option Seal) → is_some seal ≡ named → if_needed (named || jobs) seal ≡ seal
named_kept true jobs seal is = refl
named_kept false true seal is = refl
named_kept false false None is = refl
named_kept false false (Some seal) is = cc

-- its hashes keep their seals
pub begun_seals : (s m t : State) (job : ℕ) (id : List ℕ) (version : ℕ) (manifest : List Entry) (old mid new : Hash → Option Seal) → ((hash : Hash) → is_some (old hash) ≡ is_named hash.0 s) → m ≡ s → KeepsNeeded m old mid
    → held_by_job job t.jobs ≡ Some (held_of id version manifest) → KeepsNeeded t mid new → AllByRecursion (λ (entry : Entry). new entry.hash ≡ old entry.hash) manifest
begun_seals s m t job id version manifest old mid new sealed same settled held kept =
    let later = subst (λ (es : List Entry). AllByRecursion (λ (entry : Entry). new entry.hash ≡ mid entry.hash) es) (manifest_begun t job id version manifest held) (entries_kept t job mid new kept) in
    each_member (λ (entry : Entry). new entry.hash ≡ old entry.hash) manifest (λ entry among.
    at_member (λ (e : Entry). new e.hash ≡ mid e.hash) manifest later entry among
    ∙ settled entry.hash ∙ ap (λ (u : State). if_needed (is_needed entry.hash.0 u) (old entry.hash)) same
    ∙ named_kept (is_named entry.hash.0 s) _ (old entry.hash) (sealed entry.hash))

-- so that they are sealed if and only if a version names them
pub begun_sealed : (s t : State) (job : ℕ) (id : List ℕ) (version : ℕ) (manifest : List Entry) (old new : Hash → Option Seal) → ((hash : Hash) → is_some (old hash) ≡ is_named hash.0 s) → t ≡ changed (Begun job id version manifest) s
    → AllByRecursion (λ (entry : Entry). new entry.hash ≡ old entry.hash) manifest → AllByRecursion (λ (entry : Entry). is_some (new entry.hash) ≡ is_named entry.hash.0 t) manifest
begun_sealed s t job id version manifest old new sealed is kept =
    each_member (λ (entry : Entry). is_some (new entry.hash) ≡ is_named entry.hash.0 t) manifest (λ entry among.
    ap (λ (o : Option Seal). is_some o) (at_member (λ (e : Entry). new e.hash ≡ old e.hash) manifest kept entry among) ∙ sealed entry.hash ∙ ap (λ (u : State). is_named entry.hash.0 u) (sym is))

-- want of memory is no fault of the disk
pub memory_no_disk : (fault : LibFault) → fault ≡ LibMemory → fault ≡ LibDisk → ⊥
memory_no_disk fault memory disk = cc

-- no limit keeps it from its beginning
pub not_refused : (T : Type 0) (limit : Option LibFault) (x : T) → Refuses {T = T} limit (Ok x) → limit ≡ None
not_refused T None x refused = refl
not_refused T (Some fault) x refused = let e : (let r : Result T LibFault = Ok x in r) ≡ Err fault = refused in cc

-- where it was none, the disk failed or there was no memory
pub fault_unlimited : (T : Type 0) (limit : Option LibFault) (fault : LibFault) → ((cause : LibFault) → limit ≡ Some cause → IsLimit cause) → (IsLimit fault → ⊥) → Refuses {T = T} limit (Err fault) → limit ≡ None
fault_unlimited T None fault limits other refused = refl
fault_unlimited T (Some cause) fault limits other refused =
    let e : (let r : Result T LibFault = Err fault in r) ≡ Err cause = refused in
    let same : fault ≡ cause = cc in
    absurd (other (subst (λ (f : LibFault). IsLimit f) (sym same) (limits cause refl)))

-- the cause is the limit
pub fault_limit : (T : Type 0) (limit : Option LibFault) (fault : LibFault) → fault ≢ LibDisk → fault ≢ LibMemory → Refuses {T = T} limit (Err fault) → limit ≡ Some fault
fault_limit T None fault not_disk not_memory refused = elim refused [ inl memory ↦ absurd (not_memory memory) | inr disk ↦ absurd (not_disk disk) ]
fault_limit T (Some cause) fault not_disk not_memory refused =
    let e : (let r : Result T LibFault = Err fault in r) ≡ Err cause = refused in
    let same : fault ≡ cause = cc in
    ap (λ (f : LibFault). Some f) (sym same)

module _ {D : Type 0} (reads : D → Option Files) (may_leave : D → List ℕ → Bytes → Type 0) (moment : D → ℕ) (left_since : D → ℕ → Files → Type 0) (id : List ℕ) (version : ℕ) (manifest : List Entry) (old new : Seen D)
    (settled : old.pending ≡ None) (sound : IsSound old.state) (fresh : IsAbove version (last_of id old.state.lasts)) where
  by_limit : (mid : Seen D) (result : Result ℕ LibFault) → mid.state ≡ old.state → mid.end ≡ old.end → Refuses (begin_fault mid.state mid.end id version (length manifest)) result → Refuses (limit_fault old.state old.end (length manifest)) result
  by_limit mid result state end answer =
      subst (λ (o : Option LibFault). Refuses o result)
      (ap (λ (s : State). begin_fault s mid.end id version (length manifest)) state ∙ ap (λ (n : ℕ). begin_fault old.state n id version (length manifest)) end ∙ begin_fault-above old.state old.end id version (length manifest) sound fresh) answer

  limits_are : (cause : LibFault) → limit_fault old.state old.end (length manifest) ≡ Some cause → IsLimit cause
  limits_are cause is = limit_fault-IsLimit old.state old.end (length manifest) cause is

  -- the job has begun
  module _ (job : ℕ) (done : EndsOn reads may_leave moment left_since (λ (s : State). Begun s.next id version manifest) (λ (mid : Seen D) (answer : Result ℕ LibFault). Refuses (begin_fault mid.state mid.end id version (length manifest)) answer × IfOk answer (λ n. n ≡ mid.state.next)) old new (Ok job)) where
    next_job : job ≡ old.state.next
    next_job = done.answers.1 ∙ ap (λ (s : State). s.next) done.state

    state_after : new.state ≡ changed (Begun old.state.next id version manifest) old.state
    state_after = done.ends.ok.0 ∙ ap (λ (s : State). changed (Begun s.next id version manifest) s) done.state

    pub began_held : held_by_job job new.state.jobs ≡ Some (held_of id version manifest)
    began_held = held_begun old.state new.state job id version manifest sound next_job state_after

    pub began_free : limit_fault old.state old.end (length manifest) ≡ None
    began_free = not_refused ℕ (limit_fault old.state old.end (length manifest)) job (by_limit done.mid (Ok job) done.state done.end done.answers.0)

    pub began_settled : new.pending ≡ None
    began_settled = done.ends.ok.2

    pub began_started : new.started ≡ old.started
    began_started = done.ends.left ∙ done.finds.started

    pub has_begun : ((hash : Hash) → is_some (seal_at old.seals hash) ≡ is_named hash.0 old.state) → Told KeepsPlaces (reads old.disk) (reads new.disk)
        → (EachOpensSome (may_leave old.start) → ForSome (reads old.disk) (λ _. LeavesOnly moment left_since old.disk new.disk (OpensOr old.state (if_allowed (Begun old.state.next id version manifest) old.state))))
        → HasBegun reads may_leave moment left_since id version manifest job old new
    has_begun sealed places opens = record {
      job_is = next_job;
      state = state_after;
      goes = λ last. goes_first reads may_leave moment left_since (Begun old.state.next id version manifest) last old new opens state_after (done.ends.start ∙ done.finds.start);
      places = places;
      seals = begun_seals old.state done.mid.state new.state job id version manifest (seal_at old.seals) (seal_at done.mid.seals) (seal_at new.seals) sealed done.state done.finds.seals began_held done.ends.ok.3;
    }

  -- the disk failed
  pub refused_disk : (fault : LibFault) → fault ≡ LibDisk → EndsOn reads may_leave moment left_since (λ (s : State). Begun s.next id version manifest) (λ (mid : Seen D) (answer : Result ℕ LibFault). Refuses (begin_fault mid.state mid.end id version (length manifest)) answer × IfOk answer (λ n. n ≡ mid.state.next)) old new (Err fault)
      → (EachOpensSome (may_leave old.start) → ForSome (reads old.disk) (λ _. LeavesOnly moment left_since old.disk new.disk (OpensOr old.state (if_allowed (Begun old.state.next id version manifest) old.state))))
      → EndsRefused reads may_leave moment left_since id version manifest old new Disk
  refused_disk fault disk done opens readings =
      let state = done.ends.err.0 ∙ done.state in
      ends_unbegun reads may_leave moment left_since id version manifest old new readings (limit_fault old.state old.end (length manifest))
      (fault_unlimited ℕ (limit_fault old.state old.end (length manifest)) fault limits_are (λ limit. no_limit (subst (λ (f : LibFault). IsLimit f) disk limit)) (by_limit done.mid (Err fault) done.state done.end done.answers.0))
      (elim done.ends.err.2 [ inl none ↦ inl none | inr flies ↦ inr (flies ∙ ap (λ (s : State). Some (Begun s.next id version manifest)) done.state) ])
      (λ last. goes_unbegun reads may_leave moment left_since (Begun old.state.next id version manifest) last old new opens state (done.ends.start ∙ done.finds.start))
    where
      no_limit : IsLimit LibDisk → ⊥
      no_limit limit = limit

  module _ (only_now : (disk : D) (files : Files) → left_since disk (moment disk) files → IsImage (may_leave disk) files) (tells : EachOpensSome (may_leave old.start) → ForSome (reads old.disk) (λ _. (image : Files) → IsImage (may_leave old.disk) image → OpensOr old.state old.pending image))
      (same : StaysSame old new) where
    rests : (changes : List StateChange) → Rests reads may_leave moment left_since 0 changes old new
    rests changes = record {
      goes = goes_none reads may_leave moment left_since only_now changes old new settled tells same.state same.start same.disk;
      idle = same.pending ∙ settled;
      same = λ none. ap reads same.disk;
    }

    -- there was no memory
    pub refused_memory : EndsRefused reads may_leave moment left_since id version manifest old new Memory
    refused_memory readings = ends_unmade reads may_leave moment left_since readings (within_limits id version manifest old.state readings.second (limit_fault old.state old.end (length manifest))) old new (rests _)

    -- a limit is reached
    pub refused_limit : (fault : LibFault) → limit_fault old.state old.end (length manifest) ≡ Some fault → EndsRefused reads may_leave moment left_since id version manifest old new (of_limit fault)
    refused_limit fault is readings =
        subst (λ (o : Option LibFault). EndsAs reads may_leave moment left_since readings (within_limits id version manifest old.state readings.second o) old new (Err (of_limit fault))) (sym is)
        (ends_limited reads may_leave moment left_since readings old new fault (limits_are fault is) (rests []))

  pub its_fault : (fault : LibFault) → fault ≢ LibDisk → fault ≢ LibMemory → EndsOn reads may_leave moment left_since (λ (s : State). Begun s.next id version manifest) (λ (mid : Seen D) (answer : Result ℕ LibFault). Refuses (begin_fault mid.state mid.end id version (length manifest)) answer × IfOk answer (λ n. n ≡ mid.state.next)) old new (Err fault)
      → limit_fault old.state old.end (length manifest) ≡ Some fault
  its_fault fault not_disk not_memory done = fault_limit ℕ (limit_fault old.state old.end (length manifest)) fault not_disk not_memory (by_limit done.mid (Err fault) done.state done.end done.answers.0)

  pub is_limit : (fault : LibFault) → limit_fault old.state old.end (length manifest) ≡ Some fault → IsLimit fault
  is_limit fault is = limits_are fault is

-- what a limit is told as
pub limit_no_disk : (T : Type 0) (fault : LibFault) → IsLimit fault → IsErrOf {T = T} (Err (of_limit fault)) Disk → ⊥
limit_no_disk T ManyVersions limit is = cc
limit_no_disk T ManyEntries limit is = cc
limit_no_disk T ManyJobs limit is = cc
limit_no_disk T NoneLeft limit is = cc
limit_no_disk T _ limit is = absurd limit
