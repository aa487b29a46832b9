-- The ends of `drop` on an opened library.
use Rattle.std.proofs.Common.{◌≡◌, ◌⊎◌, ℕ, Bool, true, false, if◌then◌else◌, cond, List, [], ◌∷◌, Option, None, Some, Result, Ok, Err, inl, inr, refl, sym, ◌∙◌, ap, subst, arith}
use Rattle.std.specs.Prelude.{is_some, not, map, find, option_map, ◌==◌}
use Rattle.std.specs.Option.{ForSome}
use Rattle.std.proofs.lemmas.Bool.{false≢true}
use Rattle.cm_base.specs.Causes.{Rose}
use Rattle.cm_base.specs.declared.hash.Hash.{Hash}
use Rattle.cm_disk.specs.Disk.{File, Files, IsImage, LeavesOnly}
use Rattle.cm_disk.proofs.Moments.{weaker}
use Rattle.cm_intake.specs.Intake.{OpensAmong as RunOpens}
use Rattle.cm_library.specs.Calls.{MayFind, Finds, Ends, EndsOrStays, AnyMoment}
use Rattle.cm_library.specs.Kept.{Seen}
use Rattle.cm_library.specs.Placing.{KeepsPlaces}
use Rattle.cm_pkglib.specs.Counts.{seal_at}
use Rattle.cm_pkglib.specs.Rows.{row_of_job, when}
use Rattle.cm_pkglib.specs.declared.counts.Seal.{Seal}
use Rattle.cm_pkglib.specs.declared.row.PkgRow.{PkgRow}
use Rattle.cm_pkglib.specs.declared.fault.RowFault.TheVariants.{NoJob as RowNoJob}
use Rattle.cm_contents.specs.Seals.{end_fault, first_fault}
use Rattle.cm_state.specs.Adding.{Told}
use Rattle.cm_state.specs.Changes.{StateChange, Dropped as JobDropped, changed, if_allowed, is_allowed, after_change}
use Rattle.cm_state.specs.Faults.{RefusesOr, of_row_fault}
use Rattle.cm_state.specs.Look.{Opened, look}
use Rattle.cm_state.specs.Opens.{Opens, OpensOr, EachOpensSome}
use Rattle.cm_state.specs.State.{Held, State, held_by_job}
use Rattle.cm_state.specs.declared.fault.LibFault.{LibFault}
use Rattle.cm_state.specs.declared.fault.LibFault.TheVariants.{NoJob, Disk as DiskFault}
use Rattle.cm_state.proofs.Lists.{find_map}
use Rattle.cm_site.specs.OneEnds.{OneEndsOn}
use Rattle.cm_site.specs.OneLibrary.{Step, commits, told, drop}
use Rattle.cm_site.specs.Opened.{IsOpened}
use Rattle.cm_site.specs.Runs.{Sourced}
use Rattle.cm_site.specs.declared.reply.Reply.TheVariants.{Dropped, Refused, Disk}
use Rattle.cm_site.specs.declared.reply.Refusal.TheVariants.{NoJob as NoSuchJob}
use Rattle.cm_site.proofs.Closing.{Leaves, ends_told, steps_asked, ends_disk}
use Rattle.cm_site.proofs.OpenedEnds.{ends_stay}
use Rattle.cm_site.proofs.SomeFiles.{some_given, starts}

-- a job has a row where it is held
is_there : (job : ℕ) (jobs : List (ℕ × Held)) → is_some (row_of_job job (map (λ (u : ℕ × Held). (u.0, u.1.row)) jobs)) ≡ is_some (held_by_job job jobs)
is_there job jobs =
    ap (λ (o : Option (ℕ × PkgRow)). is_some (option_map (λ (u : ℕ × PkgRow). u.1) o)) (find_map (λ (u : ℕ × Held). (u.0, u.1.row)) (λ (u : ℕ × Held). u.0 == job) (λ (u : ℕ × PkgRow). u.0 == job) (λ u. refl) jobs)
    ∙ by (find (λ (u : ℕ × Held). u.0 == job) jobs)
  where
    by : (o : Option (ℕ × Held)) → is_some (option_map (λ (u : ℕ × PkgRow). u.1) (option_map (λ (u : ℕ × Held). let row : ℕ × PkgRow = (u.0, u.1.row) in row) o)) ≡ is_some (option_map (λ (u : ℕ × Held). u.1) o)
    by None = refl
    by (Some u) = refl

-- why a job is not dropped
abbrev drop_fault : Bool → Option LibFault
drop_fault true = None
drop_fault false = Some NoJob

fault_is : (seals : Hash → Option Seal) (state : State) (job : ℕ) → end_fault seals state (JobDropped job) ≡ drop_fault (is_some (held_by_job job state.jobs))
fault_is seals state job =
    ap (λ (b : Bool). first_fault (option_map of_row_fault (when (not b) RowNoJob)) None) (is_there job state.jobs) ∙ by (is_some (held_by_job job state.jobs))
  where
    by : (b : Bool) → first_fault (option_map of_row_fault (when (not b) RowNoJob)) None ≡ drop_fault b
    by true = refl
    by false = refl

-- what was dropped was there
dropped_there : {T : Type 0} (b : Bool) (x : T) → RefusesOr (drop_fault b) (Ok x) → b ≡ true
dropped_there true x refuses = refl
dropped_there false x refuses = absurd (cc)

-- what was refused was not there, or the disk failed
refused_by : (T : Type 0) (b : Bool) (fault : LibFault) → (let r : Result T LibFault = Err fault in RefusesOr (drop_fault b) r) → ((b ≡ false) × (fault ≡ NoJob)) ⊎ ((b ≡ true) × (fault ≡ DiskFault))
refused_by T true fault refuses = inr (refl, refuses)
refused_by T false fault refuses = inl (refl, cc)

-- a state before a change, or after it if it is allowed, is among those of the change
among : (change : StateChange) (state : State) (image : Files) → OpensOr state (if_allowed change state) image → RunOpens (change ∷ []) state image
among change state image (inl opens) = (0, omega arith, opens)
among change state image (inr opens) = by (is_allowed change state) opens
  where
    by : (b : Bool) → Opens image (after_change (cond b (Some change) None) state) → RunOpens (change ∷ []) state image
    by true opens = (1, omega arith, opens)
    by false opens = (0, omega arith, opens)

-- what was answered Ok has made its change, and what was refused has made none, but for the one in flight
ends_ok : {D T : Type 0} (mid : Seen D) (one : StateChange) (now : Seen D) (result : Result T LibFault) (x : T) → result ≡ Ok x → Ends mid one now result → (now.state ≡ changed one mid.state) × (now.pending ≡ None)
ends_ok mid one now (Ok y) x is ends = (ends.ok.0, ends.ok.2)
ends_ok mid one now (Err fault) x is ends = absurd (cc)

ends_err : {D T : Type 0} (mid : Seen D) (one : StateChange) (now : Seen D) (result : Result T LibFault) (fault : LibFault) → result ≡ Err fault → Ends mid one now result → (now.state ≡ mid.state) × ((now.pending ≡ None) ⊎ (now.pending ≡ Some one))
ends_err mid one now (Ok y) fault is ends = absurd (cc)
ends_err mid one now (Err other) fault is ends = (ends.err.0, ends.err.2)

-- the one change of a drop
abbrev change : ℕ → List StateChange
change job = JobDropped job ∷ []

module _ {D T : Type 0} (reads : D → Option Files) (may_leave : D → List ℕ → File → Type 0) (moment : D → ℕ) (left_since : D → ℕ → Files → Type 0) (faults : D → ℕ) (was now : Seen D)
    (open_is : IsOpened reads may_leave moment left_since faults was) (job : ℕ) (result : Result T LibFault)
    (call : EndsOrStays reads (λ _. JobDropped job) (λ mid answer. RefusesOr (end_fault (seal_at mid.seals) mid.state (JobDropped job)) answer) was now result) where
  settled : (mid : Seen D) × Finds reads was mid × RefusesOr (end_fault (seal_at mid.seals) mid.state (JobDropped job)) result × Ends mid (JobDropped job) now result
  settled = elim call [ inl stays ↦ absurd (stays.1 open_is.settled) | inr done ↦ done ]

  same_state : settled.0.state ≡ was.state
  same_state = (subst (λ (o : Option StateChange). MayFind o was.state was.end settled.0.state settled.0.end) open_is.settled settled.1.may).0

  answers : RefusesOr (drop_fault (is_some (held_by_job job was.state.jobs))) result
  answers = subst (λ (s : State). RefusesOr (drop_fault (is_some (held_by_job job s.jobs))) result) same_state (subst (λ (o : Option LibFault). RefusesOr o result) (fault_is (seal_at settled.0.seals) settled.0.state job) settled.2)

  -- what was dropped was there
  dropped : (x : T) → result ≡ Ok x → is_some (held_by_job job was.state.jobs) ≡ true
  dropped x is = dropped_there (is_some (held_by_job job was.state.jobs)) x (subst (λ (r : Result T LibFault). RefusesOr (drop_fault (is_some (held_by_job job was.state.jobs))) r) is answers)

  refused : (fault : LibFault) → result ≡ Err fault → ((is_some (held_by_job job was.state.jobs) ≡ false) × (fault ≡ NoJob)) ⊎ ((is_some (held_by_job job was.state.jobs) ≡ true) × (fault ≡ DiskFault))
  refused fault is = refused_by T (is_some (held_by_job job was.state.jobs)) fault (subst (λ (r : Result T LibFault). RefusesOr (drop_fault (is_some (held_by_job job was.state.jobs))) r) is answers)

  module _ (bay : List ℕ)
      (opens : EachOpensSome (may_leave was.start) → ForSome (reads was.disk) (λ files. (found : State) → look files ≡ Opened found → AnyMoment moment left_since OpensOr (if_allowed (JobDropped job)) was.disk now.disk was.state was.pending found))
      (places : Told KeepsPlaces (reads was.disk) (reads now.disk)) (leaves : Leaves reads may_leave now) (from to : Sourced) where
    start : now.start ≡ was.start
    start = settled.3.start ∙ settled.1.start

    moments : EachOpensSome (may_leave was.start) → ForSome (reads was.disk) (λ _. LeavesOnly moment left_since was.disk now.disk (RunOpens (change job) was.state))
    moments whole files told =
        weaker moment left_since was.disk now.disk (OpensOr was.state (if_allowed (JobDropped job) was.state)) (RunOpens (change job) was.state)
        (subst (λ (o : Option StateChange). AnyMoment moment left_since OpensOr (if_allowed (JobDropped job)) was.disk now.disk was.state o was.state) open_is.settled (opens whole files told was.state (open_is.stands files (sym open_is.same ∙ told))))
        (among (JobDropped job) was.state)

    step_is : (b : Bool) → is_some (held_by_job job was.state.jobs) ≡ b → drop job was.state ≡ (if b then commits Dropped (change job) else told (Refused NoSuchJob))
    step_is b is = ap (λ (v : Bool). if v then commits Dropped (change job) else told (Refused NoSuchJob)) is

    -- it is dropped
    pub ends_dropped : (x : T) → result ≡ Ok x → OneEndsOn reads may_leave moment left_since faults bay was.state was.end (λ given. drop job) from to Dropped was.start now.disk
    ends_dropped x is =
        let given = some_given from.shown (reads was.start) was.end in
        let ok = ends_ok settled.0 (JobDropped job) now result x is settled.3 in
        ends_told reads may_leave moment left_since faults bay was now open_is places leaves (λ given. drop job) from to given (starts from to (reads was.start) was.end) refl Dropped tt
        (steps_asked reads may_leave moment left_since faults bay was now open_is places leaves (λ given. drop job) from to given (starts from to (reads was.start) was.end) refl Dropped false (change job) (λ asks. absurd (false≢true asks))
        (step_is true (dropped x is))
        (record {
          goes = record { within = omega arith; state = ok.0 ∙ ap (λ (s : State). changed (JobDropped job) s) same_state; start = start; moments = moments };
          idle = ok.1;
          same = λ none. absurd (omega arith);
        }))

    -- the disk failed
    pub ends_failed : result ≡ Err DiskFault → ((files : Files) → reads now.disk ≡ Some files → IsImage (may_leave now.disk) files) → Rose (faults was.disk) (faults now.disk)
        → OneEndsOn reads may_leave moment left_since faults bay was.state was.end (λ given. drop job) from to (Disk bay) was.start now.disk
    ends_failed is as_it_reads rose =
        let given = some_given from.shown (reads was.start) was.end in
        let err = ends_err settled.0 (JobDropped job) now result DiskFault is settled.3 in
        let there : is_some (held_by_job job was.state.jobs) ≡ true = elim (refused DiskFault is) [ inl none ↦ absurd (cc) | inr failed ↦ failed.0 ] in
        ends_disk reads may_leave moment left_since faults bay was now open_is places leaves (λ given. drop job) from to given (starts from to (reads was.start) was.end) refl as_it_reads (commits Dropped (change job)) (step_is true there) refl 0
        (record {
          goes = record { within = omega arith; state = err.0 ∙ same_state; start = start; moments = moments };
          flight = elim err.1 [ inl idle ↦ inl idle | inr flight ↦ inr (omega arith, flight) ];
          same = λ none. absurd (omega arith);
        })
        rose

    -- it was not there
    pub ends_missing : result ≡ Err NoJob → now ≡ was → ((files : Files) → left_since now.disk (moment now.disk) files → IsImage (may_leave now.disk) files)
        → OneEndsOn reads may_leave moment left_since faults bay was.state was.end (λ given. drop job) from to (Refused NoSuchJob) was.start now.disk
    ends_missing is stays only_now =
        let none : is_some (held_by_job job was.state.jobs) ≡ false = elim (refused NoJob is) [ inl none ↦ none.0 | inr failed ↦ absurd (cc) ] in
        subst (λ (s : Seen D). OneEndsOn reads may_leave moment left_since faults bay s.state s.end (λ given. drop job) from to (Refused NoSuchJob) s.start now.disk) stays
        (ends_stay reads may_leave moment left_since faults bay now (subst (λ (s : Seen D). IsOpened reads may_leave moment left_since faults s) (sym stays) open_is) leaves only_now from to (λ given. drop job) (Refused NoSuchJob)
        (λ given. subst (λ (s : Seen D). drop job s.state ≡ told (Refused NoSuchJob)) (sym stays) (step_is false none)) tt)
