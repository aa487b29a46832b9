-- A call that works on a file of a settled library.
use Rattle.std.proofs.Common.{◌≡◌, ℕ, ◌<◌, ◌≤◌, Bool, true, false, List, [], refl, sym, ◌∙◌, ap, subst, arith}
use Rattle.std.specs.Prelude.{◌≢◌, Option, None, Some, is_some, cond, if◌then◌else◌}
use Rattle.std.specs.Option.{ForSome}
use Rattle.std.proofs.lemmas.Option.{none-some}
use Rattle.std.proofs.lemmas.Bool.{false≢true}
use Rattle.std.specs.Str.{bytes_eq}
use Rattle.hex.specs.Hex.{IsBytes}
use Rattle.cm_base.specs.declared.hash.Hash.{Hash}
use Rattle.cm_disk.specs.Disk.{File, Files, IsImage, LeavesNoMore, LeavesOnly}
use Rattle.cm_log.specs.declared.state.Log.{Log}
use Rattle.cm_log.specs.Settled.{end_of}
use Rattle.cm_pkglib.specs.declared.change.Change.{Change}
use Rattle.cm_pkglib.specs.declared.counts.Seal.{Seal}
use Rattle.cm_pkglib.specs.declared.counts.Counts.{Counts}
use Rattle.cm_pkglib.specs.Counts.{sealed_of, seals_in, seal_at}
use Rattle.cm_pkglib.proofs.Times.{seals_are}
use Rattle.cm_filelib.specs.declared.writing.Writing.{Writing}
use Rattle.cm_filelib.specs.Places.{file_place}
use Rattle.cm_filelib.specs.Stored.{IsFileSure}
use Rattle.cm_state.specs.declared.fault.LibFault.{LibFault}
use Rattle.cm_state.specs.declared.fault.LibFault.TheVariants.{NoJob, NotStarted, Stored, HeldBy}
use Rattle.cm_state.specs.Changes.{StateChange}
use Rattle.cm_state.specs.Opens.{OpensOr, StandsOr, EachOpensSome}
use Rattle.cm_state.specs.State.{State, held_by_job}
use Rattle.cm_state.proofs.Lists.{no_some}
use Rattle.cm_contents.specs.Contents.{InMemory, change_in}
use Rattle.cm_contents.specs.Seals.{job_manifest, first_fault, IsCounted}
use Rattle.cm_contents.specs.Wants.{size_in}
use Rattle.cm_library.specs.Kept.{Seen, pending_in, IsKept, IsLibrary}
use Rattle.cm_library.specs.Started.{AreStarted, started_by, holder_of, no_job, unwanted, stored, held, start_fault, salvage_fault, unstarted, file_fault}
use Rattle.cm_library.proofs.FilesWritten.{filing_leaves_standing, filing_leaves_open}
use Rattle.cm_library.proofs.Keeps.{kept_filed}
use Rattle.cm_library.proofs.Sure.{sure_apart, file_kept, file_sealed}

-- where no cause holds, none of its parts does
pub first_none : (a b : Option LibFault) → first_fault a b ≡ None → (a ≡ None) × (b ≡ None)
first_none None b is = (refl, is)
first_none (Some fault) b is = absurd (none-some fault (sym is))

pub no_job_none : (job : ℕ) (s : State) → no_job job s ≡ None → is_some (held_by_job job s.jobs) ≡ true
no_job_none job s is = by (is_some (held_by_job job s.jobs)) is
  where
    by : (b : Bool) → (if b then None else Some NoJob) ≡ None → b ≡ true
    by true is = refl
    by false is = absurd (none-some NoJob (sym is))

pub stored_none : (hash : Hash) (o : Option Seal) → stored hash o ≡ None → o ≡ None
stored_none hash None is = refl
stored_none hash (Some seal) is = absurd (none-some (Stored hash) (sym is))

pub held_none : (hash : Hash) (o : Option ℕ) → held hash o ≡ None → o ≡ None
held_none hash None is = refl
held_none hash (Some job) is = absurd (none-some (HeldBy hash job) (sym is))

pub unstarted_none : (o : Option Writing) → unstarted o ≡ None → is_some o ≡ true
unstarted_none None is = absurd (none-some NotStarted (sym is))
unstarted_none (Some writing) is = refl

pub none_there : {A : Type 0} (o : Option A) → is_some o ≡ false → o ≡ None
none_there None is = refl
none_there (Some x) is = absurd (false≢true (sym is))

pub some_none : {A : Type 0} (o : Option A) → is_some o ≡ true → o ≡ None → ⊥
some_none None is none = false≢true is
some_none (Some x) is none = none-some x (sym none)

-- a file may be started
pub record MayStart (seals : Hash → Option Seal) (s : State) (files : List (ℕ × Writing)) (job : ℕ) (hash : Hash) : Type 0 where
  pub unfinished : is_some (held_by_job job s.jobs) ≡ true
  pub unsealed : seals hash ≡ None
  pub free : holder_of job hash files ≡ None

pub may_start : (seals : Hash → Option Seal) (s : State) (files : List (ℕ × Writing)) (job : ℕ) (hash : Hash) → start_fault seals s files job hash ≡ None → MayStart seals s files job hash
may_start seals s files job hash is =
    let a = first_none (no_job job s) (first_fault (unwanted hash (size_in hash (job_manifest job s))) (first_fault (stored hash (seals hash)) (held hash (holder_of job hash files)))) is in
    let b = first_none (unwanted hash (size_in hash (job_manifest job s))) (first_fault (stored hash (seals hash)) (held hash (holder_of job hash files))) a.1 in
    let c = first_none (stored hash (seals hash)) (held hash (holder_of job hash files)) b.1 in
    record { unfinished = no_job_none job s a.0; unsealed = stored_none hash (seals hash) c.0; free = held_none hash (holder_of job hash files) c.1 }

-- or looked at
pub may_salvage : (s : State) (files : List (ℕ × Writing)) (job : ℕ) (hash : Hash) → salvage_fault s files job hash ≡ None → holder_of job hash files ≡ None
may_salvage s files job hash is =
    let a = first_none (no_job job s) (first_fault (unwanted hash (size_in hash (job_manifest job s))) (held hash (holder_of job hash files))) is in
    held_none hash (holder_of job hash files) (first_none (unwanted hash (size_in hash (job_manifest job s))) (held hash (holder_of job hash files)) a.1).1

-- or gone on with
pub may_go_on : (s : State) (files : List (ℕ × Writing)) (job : ℕ) → file_fault s files job ≡ None → (is_some (held_by_job job s.jobs) ≡ true) × (is_some (started_by job files) ≡ true)
may_go_on s files job is =
    let a = first_none (no_job job s) (unstarted (started_by job files)) is in
    (no_job_none job s a.0, unstarted_none (started_by job files) a.1)

module _ {D : Type 0} (reads : D → Option Files) (may_leave : D → List ℕ → File → Type 0) (moment : D → ℕ) (left_since : D → ℕ → Files → Type 0) (as_it_reads : (disk : D) (x : Files) → reads disk ≡ Some x → IsImage (may_leave disk) x)
    (start disk : D) (log : Log) (m : InMemory) (counts : Counts) (pending : Option Change) (files : List (ℕ × Writing)) (room : ℕ) (view : Seen D)
    (is : (let v : Seen D = record { disk = disk; start = start; state = m.state; seals = seals_in counts; started = files; end = end_of log; pending = pending_in m.taken pending } in v) ≡ view)
    (settled : view.pending ≡ None) (library : IsLibrary reads may_leave start disk log m counts pending files room) where
  pub idle : pending ≡ None
  idle = no_some (change_in m.taken) pending (ap (λ (v : Seen D). v.pending) is ∙ settled)

  pub kept_idle : IsKept reads may_leave start disk log m counts None
  kept_idle = subst (λ (p : Option Change). IsKept reads may_leave start disk log m counts p) idle library.kept

  pub files_idle : AreStarted (reads disk) m.state (λ hash. sealed_of counts hash) None files
  files_idle = subst (λ (p : Option Change). AreStarted (reads disk) m.state (λ hash. sealed_of counts hash) (pending_in m.taken p) files) idle library.files

  pub unsealed_in : (hash : Hash) → seal_at view.seals hash ≡ None → sealed_of counts hash ≡ None
  unsealed_in hash none = ap (λ (f : Hash → Option Seal). f hash) (seals_are counts) ∙ ap (λ (v : Seen D). seal_at v.seals hash) is ∙ none

  pub unsealed_out : (hash : Hash) → sealed_of counts hash ≡ None → seal_at view.seals hash ≡ None
  unsealed_out hash none = sym (ap (λ (f : Hash → Option Seal). f hash) (seals_are counts) ∙ ap (λ (v : Seen D). seal_at v.seals hash) is) ∙ none

  -- the place of a file was worked on
  module _ (new : D) (hash : Hash) (others : (q : List ℕ) (left : File) → q ≢ file_place hash.0 → may_leave new q left → may_leave disk q left) (silent : reads disk ≡ None → reads new ≡ None) (bytes : IsBytes hash.0) (unsealed : sealed_of counts hash ≡ None) where
    worked_kept : IsKept reads may_leave start new log m counts None
    worked_kept = file_kept reads may_leave start disk new log m counts kept_idle silent (as_it_reads disk) (as_it_reads new) hash bytes unsealed others

    pub worked : (left : List (ℕ × Writing)) (enough : ℕ) → 256 ≤ enough → AreStarted (reads new) m.state (λ h. sealed_of counts h) None left → IsLibrary reads may_leave start new log m counts pending left enough
    worked left enough le there =
        subst (λ (p : Option Change). IsLibrary reads may_leave start new log m counts p left enough) (sym idle) (record { kept = worked_kept; files = there; enough = le })

    -- and its hash is sealed
    pub sealed_now : (counts' : Counts) (seal : Seal) (left : List (ℕ × Writing)) (enough : ℕ) → 256 ≤ enough → ForSome (reads new) (λ _. IsFileSure (may_leave new) hash.0 seal.size) → IsCounted counts' m.state []
        → ((other : Hash) → sealed_of counts' other ≡ cond (bytes_eq hash.0 other.0) (Some seal) (sealed_of counts other)) → AreStarted (reads new) m.state (λ h. sealed_of counts' h) None left → IsLibrary reads may_leave start new log m counts' pending left enough
    sealed_now counts' seal left enough le here counted seals there =
        subst (λ (p : Option Change). IsLibrary reads may_leave start new log m counts' p left enough) (sym idle) (record {
          kept = file_sealed reads may_leave start disk new log m counts kept_idle silent (as_it_reads disk) (as_it_reads new) hash bytes unsealed others counts' seal here counted seals;
          files = there;
          enough = le;
        })

  -- what a crash leaves meanwhile
  module _ (new : D) (hash : Hash) (run : LeavesOnly moment left_since disk new (λ (left : Files). (q : List ℕ) → q ≢ file_place hash.0 → may_leave disk q (left q))) where
    pub work_stands : ForSome (reads view.disk) (λ _. LeavesOnly moment left_since view.disk new (StandsOr view.state None))
    work_stands =
        subst (λ (v : Seen D). ForSome (reads v.disk) (λ _. LeavesOnly moment left_since v.disk new (StandsOr v.state None))) is
        (filing_leaves_standing reads may_leave moment left_since start disk new log m counts kept_idle hash run)

    pub work_opens : IsBytes hash.0 → sealed_of counts hash ≡ None → EachOpensSome (may_leave view.start) → ForSome (reads view.disk) (λ _. LeavesOnly moment left_since view.disk new (OpensOr view.state None))
    work_opens bytes unsealed =
        subst (λ (v : Seen D). EachOpensSome (may_leave v.start) → ForSome (reads v.disk) (λ _. LeavesOnly moment left_since v.disk new (OpensOr v.state None))) is
        (filing_leaves_open reads may_leave moment left_since start disk new log m counts kept_idle hash run (as_it_reads disk) bytes unsealed)

  -- the disk was read
  module _ (new : D) (same : reads new ≡ reads disk) (stop : LeavesNoMore (may_leave disk) (may_leave new)) where
    pub read_alone : IsLibrary reads may_leave start new log m counts pending files room
    read_alone =
        let silent = λ (none : reads disk ≡ None). same ∙ none in
        subst (λ (p : Option Change). IsLibrary reads may_leave start new log m counts p files room) (sym idle) (record {
          kept = record {
            standing = kept_filed reads may_leave disk new log m kept_idle.standing silent (as_it_reads new) [] (λ q left other now. stop q left now);
            counted = kept_idle.counted;
            stored = tt;
            sure = sure_apart reads may_leave start disk new m.state counts silent (λ x told hash left. stop (file_place hash) left) kept_idle.sure;
          };
          files = subst (λ (r : Option Files). AreStarted r m.state (λ hash. sealed_of counts hash) None files) (sym same) files_idle;
          enough = library.enough;
        })

-- there is room for one started file more
pub room_for : (jobs few room left : ℕ) → left < jobs → jobs ≡ few → few ≤ 256 → 256 ≤ room → left < room
room_for jobs few room left less same many enough = omega arith

pub still_enough : (a b c : ℕ) → 256 ≤ a → b ≡ a → b ≤ c → 256 ≤ c
still_enough a b c enough same more = omega arith

-- nothing is pending
pub stands_idle : (s : State) (pending : Option StateChange) (image : Files) → pending ≡ None → StandsOr s pending image → StandsOr s None image
stands_idle s pending image none or = subst (λ (p : Option StateChange). StandsOr s p image) none or

pub opens_idle : (s : State) (pending : Option StateChange) (image : Files) → pending ≡ None → OpensOr s pending image → OpensOr s None image
opens_idle s pending image none or = subst (λ (p : Option StateChange). OpensOr s p image) none or
