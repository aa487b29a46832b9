use Rattle.std.proofs.Common.{◌≡◌, ◌⊎◌, ◌+◌, inl, inr, ℕ, List, length, refl, sym, ◌∙◌, ap, subst}
use Rattle.std.specs.Prelude.{Option, None, Some, Result, Err, option_map, vec_capacity}
use Rattle.std.specs.Option.{ForSome}
use Rattle.std.proofs.lemmas.Bool.{le-leb}
use Rattle.cm_base.specs.declared.hash.Hash.{Hash}
use Rattle.cm_disk.specs.Disk.{Files, LeavesOnly}
use Rattle.cm_filelib.specs.declared.writing.Writing.{Writing}
use Rattle.cm_log.specs.Settled.{end_of}
use Rattle.cm_pkglib.specs.declared.change.Change.{Change}
use Rattle.cm_pkglib.specs.declared.counts.Seal.{Seal}
use Rattle.cm_pkglib.specs.Changes.{spelled}
use Rattle.cm_pkglib.specs.Counts.{sealed_of, seals_in, seal_at}
use Rattle.cm_pkglib.specs.Rows.{opened_fault}
use Rattle.cm_pkglib.proofs.Times.{seals_are}
use Rattle.cm_state.specs.declared.fault.LibFault.{LibFault}
use Rattle.cm_state.specs.declared.fault.LibFault.TheVariants.{Memory}
use Rattle.cm_base.specs.declared.job_id.JobId.{JobId}
use Rattle.cm_state.specs.Changes.{StateChange, Begun, record_of, changed, if_allowed}
use Rattle.cm_state.specs.Faults.{begin_fault}
use Rattle.cm_state.specs.Opens.{OpensOr, StandsOr, EachOpensSome}
use Rattle.cm_state.specs.Needed.{is_needed}
use Rattle.cm_state.specs.State.{State, rows_of}
use Rattle.cm_state.proofs.Lists.{no_some}
use Rattle.cm_state.proofs.Ready.{not_spent}
use Rattle.cm_state.proofs.Rooms.{begun_room, begun_length}
use Rattle.cm_contents.specs.Contents.{InMemory, taken_manifest, change_in}
use Rattle.cm_library.specs.Begins.{MayBegin}
use Rattle.cm_contents.specs.Seals.{if_needed}
use Rattle.cm_library.specs.Calls.{KeepsNeeded, KeepsSeals, StaysSame, Ends}
use Rattle.cm_library.specs.Kept.{Seen, pending_in, AreSure, IsKept, IsLibrary}
use Rattle.cm_library.specs.Started.{AreStarted}
use Rattle.cm_library.proofs.AnyMoment.{is_taken}
use Rattle.cm_library.proofs.Keeps.{kept_taken}
use Rattle.cm_library.proofs.Refused.{refused_stands, refused_opens}
use Rattle.cm_library.proofs.StartedFiles.{files_done, files_failed, files_unsealed, store_kept}
use Rattle.cm_library.proofs.Sure.{sure_same}
use Rattle.cm_library.proofs.library.Library.begin_settled.Goals as goal
use Rattle.cm_library.proofs.library.Library.begin_settled.Goals.{in-Ok-store_and_commit, in-Err-store_and_commit}

-- the files stay started where a job may have begun
begun_or : (r : Option Files) (m : InMemory) (seals seals' : Hash → Option Seal) (job : ℕ) (id : List ℕ) (version : ℕ) (pending : Option Change) (started : List (ℕ × Writing))
    → (pending ≡ None) ⊎ (pending ≡ Some (record_of (Begun job id version (taken_manifest m.taken)))) → KeepsSeals seals seals' → AreStarted r m.state seals None started → AreStarted r m.state seals' (pending_in m.taken pending) started
begun_or r m seals seals' job id version pending started (inl is) same files =
    subst (λ (o : Option Change). AreStarted r m.state seals' (pending_in m.taken o) started) (sym is) (files_unsealed r m.state seals seals' None started (λ hash none. same hash ∙ none) files)
begun_or r m seals seals' job id version pending started (inr is) same files =
    subst (λ (o : Option Change). AreStarted r m.state seals' (pending_in m.taken o) started) (sym is)
    (files_failed r m.state seals' (Begun job id version (taken_manifest m.taken)) started tt (files_unsealed r m.state seals seals' None started (λ hash none. same hash ∙ none) files))

-- a record that may be pending is that of its change
pending_or : (f : Option Change → Option StateChange) (record_is : Change) (change : StateChange) (p : Option Change) → f None ≡ None → f (Some record_is) ≡ Some change → (p ≡ None) ⊎ (p ≡ Some record_is) → (f p ≡ None) ⊎ (f p ≡ Some change)
pending_or f record_is change p none some (inl is) = inl (ap f is ∙ none)
pending_or f record_is change p none some (inr is) = inr (ap f is ∙ some)

pub returns-in-Some-clause-stands : goal.returns-in-Some-clause-stands
returns-in-Some-clause-stands g c =
    let d = g.D.Disk in
    let s = c.self.inside in
    refused_stands d.reads d.may_leave d.moment d.left_since g.met.D.Disk.only_now s.start.value s.disk s.log s.contents s.counts s.pending s.started.items c.args.self.now (λ state. if_allowed (Begun state.next c.args.«package» c.args.version c.args.manifest) state) c.self.view_is c.requires c.self.invariant.kept c.args.self.now.disk (ap (λ (v : Seen g.row.D.Denot). v.disk) c.self.view_is)

pub returns-in-Some-clause-opens : goal.returns-in-Some-clause-opens
returns-in-Some-clause-opens g c =
    let d = g.D.Disk in
    let s = c.self.inside in
    refused_opens d.reads d.may_leave d.moment d.left_since g.met.D.Disk.only_now s.start.value s.disk s.log s.contents s.counts s.pending s.started.items c.args.self.now (λ state. if_allowed (Begun state.next c.args.«package» c.args.version c.args.manifest) state) c.self.view_is c.requires c.self.invariant.kept c.args.self.now.disk (ap (λ (v : Seen g.row.D.Denot). v.disk) c.self.view_is)

pub returns-in-Err-clause-stands : goal.returns-in-Err-clause-stands
returns-in-Err-clause-stands g c =
    let d = g.D.Disk in
    let s = c.self.inside in
    refused_stands d.reads d.may_leave d.moment d.left_since g.met.D.Disk.only_now s.start.value s.disk s.log s.contents s.counts s.pending s.started.items c.args.self.now (λ state. if_allowed (Begun state.next c.args.«package» c.args.version c.args.manifest) state) c.self.view_is c.requires c.self.invariant.kept s.disk refl

pub returns-in-Err-clause-opens : goal.returns-in-Err-clause-opens
returns-in-Err-clause-opens g c =
    let d = g.D.Disk in
    let s = c.self.inside in
    refused_opens d.reads d.may_leave d.moment d.left_since g.met.D.Disk.only_now s.start.value s.disk s.log s.contents s.counts s.pending s.started.items c.args.self.now (λ state. if_allowed (Begun state.next c.args.«package» c.args.version c.args.manifest) state) c.self.view_is c.requires c.self.invariant.kept s.disk refl

pub returns-in-Err-count_taken-clause-stands : goal.returns-in-Err-count_taken-clause-stands
returns-in-Err-count_taken-clause-stands g c =
    let d = g.D.Disk in
    let s = c.self.inside in
    refused_stands d.reads d.may_leave d.moment d.left_since g.met.D.Disk.only_now s.start.value s.disk s.log s.contents s.counts s.pending s.started.items c.args.self.now (λ state. if_allowed (Begun state.next c.args.«package» c.args.version c.args.manifest) state) c.self.view_is c.requires c.self.invariant.kept s.disk refl

pub returns-in-Err-count_taken-clause-opens : goal.returns-in-Err-count_taken-clause-opens
returns-in-Err-count_taken-clause-opens g c =
    let d = g.D.Disk in
    let s = c.self.inside in
    refused_opens d.reads d.may_leave d.moment d.left_since g.met.D.Disk.only_now s.start.value s.disk s.log s.contents s.counts s.pending s.started.items c.args.self.now (λ state. if_allowed (Begun state.next c.args.«package» c.args.version c.args.manifest) state) c.self.view_is c.requires c.self.invariant.kept s.disk refl

pub invariant_of-self-in-Err-count_taken : goal.invariant_of-self-in-Err-count_taken
invariant_of-self-in-Err-count_taken g c =
    let d = g.D.Disk in
    let s = c.self.inside in
    let none = no_some (change_in s.contents.taken) s.pending (ap (λ (v : Seen g.row.D.Denot). v.pending) c.self.view_is ∙ c.requires) in
    let m = c.take_memory.new.self in
    let counts = c.count_taken.new.counts in
    let state_is : m.state ≡ s.contents.state = ap (λ (m : InMemory). m.state) c.in-Ok.ensures.ok in
    let all = subst (λ (p : Option Change). IsKept d.reads d.may_leave s.start.value s.disk s.log s.contents s.counts p) none c.self.invariant.kept in
    let files = subst (λ (p : Option Change). AreStarted (d.reads s.disk) s.contents.state (λ hash. sealed_of s.counts hash) (pending_in s.contents.taken p) s.started.items) none c.self.invariant.files in
    subst (λ (p : Option Change). IsLibrary d.reads d.may_leave s.start.value s.disk s.log m counts p s.started.items (vec_capacity s.started)) (sym none)
    (record {
      kept = record {
        standing = kept_taken d.reads d.may_leave s.disk s.log s.contents m state_is all.standing;
        counted = c.in-Err-count_taken.ensures.memory;
        stored = tt;
        sure = subst (λ (state : State). AreSure d.reads d.may_leave s.start.value s.disk state counts) (sym state_is)
            (sure_same d.reads d.may_leave s.start.value s.disk s.contents.state s.counts counts c.count_taken.ensures.seals all.sure);
      };
      files = subst (λ (state : State). AreStarted (d.reads s.disk) state (λ hash. sealed_of counts hash) None s.started.items) (sym state_is)
          (files_unsealed (d.reads s.disk) s.contents.state (λ hash. sealed_of s.counts hash) (λ hash. sealed_of counts hash) None s.started.items (λ hash is. c.count_taken.ensures.seals hash ∙ is) files);
      enough = c.self.invariant.enough;
    })

pub invariant_of-self-2 : goal.invariant_of-self-2
invariant_of-self-2 g c =
    let d = g.D.Disk in
    let s = c.self.inside in
    let none = no_some (change_in s.contents.taken) s.pending (ap (λ (v : Seen g.row.D.Denot). v.pending) c.self.view_is ∙ c.requires) in
    let m = c.take_memory.new.self in
    let counts = c.count_taken.new.counts in
    let p = c.store_and_commit.new in
    let state_is : m.state ≡ s.contents.state = ap (λ (m : InMemory). m.state) c.in-Ok.ensures.ok in
    let change : StateChange = Begun c.next-job.result c.args.«package» c.args.version (taken_manifest m.taken) in
    let files = subst (λ (p : Option Change). AreStarted (d.reads s.disk) s.contents.state (λ hash. sealed_of s.counts hash) (pending_in s.contents.taken p) s.started.items) none c.self.invariant.files in
    let counted = subst (λ (state : State). AreStarted (d.reads s.disk) state (λ hash. sealed_of counts hash) None s.started.items) (sym state_is)
    (files_unsealed (d.reads s.disk) s.contents.state (λ hash. sealed_of s.counts hash) (λ hash. sealed_of counts hash) None s.started.items (λ hash is. c.count_taken.ensures.seals hash ∙ is) files) in
    let there = store_kept (d.reads s.disk) (d.reads p.disk) m.state (λ hash. sealed_of counts hash) None s.started.items c.store_and_commit.ensures.store c.store_and_commit.ensures.silent counted in
    record {
      kept = c.store_and_commit.ensures.kept;
      files = elim c.match-store_and_commit.branch [
        | in-Ok-store_and_commit w ↦
            let done = w.in-Ok-store_and_commit.ensures.done in
            subst (λ (o : Option Change). AreStarted (d.reads p.disk) p.contents.state (λ hash. sealed_of p.counts hash) (pending_in p.contents.taken o) s.started.items) (sym done.2)
            (files_done (d.reads p.disk) m.state p.contents.state (λ hash. sealed_of counts hash) (λ hash. sealed_of p.counts hash) None change s.started.items done.0 tt done.3 there)
        | in-Err-store_and_commit w ↦
            let failed = w.in-Err-store_and_commit.ensures.failed in
            subst (λ (x : InMemory). AreStarted (d.reads p.disk) x.state (λ hash. sealed_of p.counts hash) (pending_in x.taken p.pending) s.started.items) (sym failed.0)
            (begun_or (d.reads p.disk) m (λ hash. sealed_of counts hash) (λ hash. sealed_of p.counts hash) c.next-job.result c.args.«package» c.args.version p.pending s.started.items failed.2 failed.3 there)
      ];
      enough = c.self.invariant.enough;
    }

pub returns-in-Err-count_taken-clause-ends : goal.returns-in-Err-count_taken-clause-ends
returns-in-Err-count_taken-clause-ends g c =
    let d = g.D.Disk in
    let s = c.self.inside in
    let none = no_some (change_in s.contents.taken) s.pending (ap (λ (v : Seen g.row.D.Denot). v.pending) c.self.view_is ∙ c.requires) in
    let m = c.take_memory.new.self in
    let counts = c.count_taken.new.counts in
    let state_is : m.state ≡ s.contents.state = ap (λ (m : InMemory). m.state) c.in-Ok.ensures.ok in
    let was : Seen g.row.D.Denot = record { disk = s.disk; start = s.start.value; state = s.contents.state; seals = seals_in s.counts; started = s.started.items; end = end_of s.log; pending = pending_in s.contents.taken s.pending } in
    let now : Seen g.row.D.Denot = record { disk = s.disk; start = s.start.value; state = m.state; seals = seals_in counts; started = s.started.items; end = end_of s.log; pending = pending_in m.taken s.pending } in
    let settled : pending_in m.taken s.pending ≡ None = ap (λ (o : Option Change). pending_in m.taken o) none in
    let seals = subst (λ (f : Hash → Option Seal). KeepsSeals f (seal_at (seals_in counts))) (seals_are s.counts) (subst (λ (f : Hash → Option Seal). KeepsSeals (λ hash. sealed_of s.counts hash) f) (seals_are counts) c.count_taken.ensures.seals) in
    subst (λ (v : Seen g.row.D.Denot). Ends v (Begun v.state.next c.args.«package» c.args.version c.args.manifest) now (let r : Result JobId LibFault = Err Memory in r)) c.self.view_is
    (record { ok = tt; err = (state_is, refl, inl settled, seals); refused = λ other. (settled, refl); left = tt; left_then = λ is. refl; start = refl })

pub returns-in-Err-count_taken-clause-unchanged : goal.returns-in-Err-count_taken-clause-unchanged
returns-in-Err-count_taken-clause-unchanged g c =
    let d = g.D.Disk in
    let s = c.self.inside in
    let none = no_some (change_in s.contents.taken) s.pending (ap (λ (v : Seen g.row.D.Denot). v.pending) c.self.view_is ∙ c.requires) in
    let m = c.take_memory.new.self in
    let counts = c.count_taken.new.counts in
    let state_is : m.state ≡ s.contents.state = ap (λ (m : InMemory). m.state) c.in-Ok.ensures.ok in
    let was : Seen g.row.D.Denot = record { disk = s.disk; start = s.start.value; state = s.contents.state; seals = seals_in s.counts; started = s.started.items; end = end_of s.log; pending = pending_in s.contents.taken s.pending } in
    let now : Seen g.row.D.Denot = record { disk = s.disk; start = s.start.value; state = m.state; seals = seals_in counts; started = s.started.items; end = end_of s.log; pending = pending_in m.taken s.pending } in
    let settled : pending_in m.taken s.pending ≡ None = ap (λ (o : Option Change). pending_in m.taken o) none in
    let seals = subst (λ (f : Hash → Option Seal). KeepsSeals f (seal_at (seals_in counts))) (seals_are s.counts) (subst (λ (f : Hash → Option Seal). KeepsSeals (λ hash. sealed_of s.counts hash) f) (seals_are counts) c.count_taken.ensures.seals) in
    λ other. subst (λ (v : Seen g.row.D.Denot). StaysSame v now) c.self.view_is
    (record { disk = refl; start = refl; state = state_is; seals = seals; started = refl; end = refl; pending = settled ∙ sym (ap (λ (o : Option Change). pending_in s.contents.taken o) none) })

pub store_and_commit-requires-clause-sure : goal.store_and_commit-requires-clause-sure
store_and_commit-requires-clause-sure g c =
    let d = g.D.Disk in
    let s = c.self.inside in
    let none = no_some (change_in s.contents.taken) s.pending (ap (λ (v : Seen g.row.D.Denot). v.pending) c.self.view_is ∙ c.requires) in
    let m = c.take_memory.new.self in
    let counts = c.count_taken.new.counts in
    let state_is : m.state ≡ s.contents.state = ap (λ (m : InMemory). m.state) c.in-Ok.ensures.ok in
    let all = subst (λ (p : Option Change). IsKept d.reads d.may_leave s.start.value s.disk s.log s.contents s.counts p) none c.self.invariant.kept in
    subst (λ (state : State). AreSure d.reads d.may_leave s.start.value s.disk state counts) (sym state_is)
    (sure_same d.reads d.may_leave s.start.value s.disk s.contents.state s.counts counts c.count_taken.ensures.seals all.sure)

pub returns-clause-ends : goal.returns-clause-ends
returns-clause-ends g c =
    let d = g.D.Disk in
    let s = c.self.inside in
    let none = no_some (change_in s.contents.taken) s.pending (ap (λ (v : Seen g.row.D.Denot). v.pending) c.self.view_is ∙ c.requires) in
    let m = c.take_memory.new.self in
    let counts = c.count_taken.new.counts in
    let state_is : m.state ≡ s.contents.state = ap (λ (m : InMemory). m.state) c.in-Ok.ensures.ok in
    let was : Seen g.row.D.Denot = record { disk = s.disk; start = s.start.value; state = s.contents.state; seals = seals_in s.counts; started = s.started.items; end = end_of s.log; pending = pending_in s.contents.taken s.pending } in
    let p = c.store_and_commit.new in
    let id = c.args.«package» in
    let version = c.args.version in
    let manifest = c.args.manifest in
    let job = c.next-job.result in
    let change : StateChange = Begun s.contents.state.next id version manifest in
    let same : Begun job id version (taken_manifest m.taken) ≡ change = ap (λ (m : InMemory). Begun job id version (taken_manifest m.taken)) c.in-Ok.ensures.ok ∙ ap (λ (j : ℕ). Begun j id version manifest) c.next-job.ensures in
    let now : Seen g.row.D.Denot = record { disk = p.disk; start = s.start.value; state = p.contents.state; seals = seals_in p.counts; started = s.started.items; end = end_of p.log; pending = pending_in p.contents.taken p.pending } in
    subst (λ (v : Seen g.row.D.Denot). Ends v (Begun v.state.next id version manifest) now c.match-store_and_commit.result) c.self.view_is
    (elim c.match-store_and_commit.branch [
      | in-Ok-store_and_commit w ↦ subst (λ (r : Result JobId LibFault). Ends was change now r) (sym w.result-is) (record {
        ok = (
          w.in-Ok-store_and_commit.ensures.done.0 ∙ ap (λ (sc : StateChange). changed sc m.state) same ∙ ap (λ (state : State). changed change state) state_is,
          w.in-Ok-store_and_commit.ensures.done.1 ∙ ap (λ (sc : StateChange). end_of s.log + 5 + length (spelled (record_of sc))) same,
          ap (λ (o : Option Change). pending_in p.contents.taken o) w.in-Ok-store_and_commit.ensures.done.2,
          subst (λ (f : Hash → Option Seal). KeepsNeeded p.contents.state f (seal_at (seals_in p.counts))) (seals_are s.counts) (subst (λ (f : Hash → Option Seal). KeepsNeeded p.contents.state (λ hash. sealed_of s.counts hash) f) (seals_are p.counts)
              (λ hash. w.in-Ok-store_and_commit.ensures.done.3 hash ∙ ap (λ (o : Option Seal). if_needed (is_needed hash.0 p.contents.state) o) (c.count_taken.ensures.seals hash))),
        );
        err = tt;
        refused = tt;
        left = refl;
        left_then = tt;
        start = refl;
      })
      | in-Err-store_and_commit w ↦ subst (λ (r : Result JobId LibFault). Ends was change now r) (sym w.result-is) (record {
        ok = tt;
        err = (
          ap (λ (m : InMemory). m.state) w.in-Err-store_and_commit.ensures.failed.0 ∙ state_is,
          w.in-Err-store_and_commit.ensures.failed.1,
          pending_or (λ o. pending_in p.contents.taken o) (record_of (Begun job id version (taken_manifest m.taken))) change p.pending refl (ap (λ (x : InMemory). option_map (change_in x.taken) (Some (record_of (Begun job id version (taken_manifest m.taken))))) w.in-Err-store_and_commit.ensures.failed.0 ∙ ap (λ (sc : StateChange). Some sc) same) w.in-Err-store_and_commit.ensures.failed.2,
          subst (λ (f : Hash → Option Seal). KeepsSeals f (seal_at (seals_in p.counts))) (seals_are s.counts) (subst (λ (f : Hash → Option Seal). KeepsSeals (λ hash. sealed_of s.counts hash) f) (seals_are p.counts)
              (λ hash. w.in-Err-store_and_commit.ensures.failed.3 hash ∙ c.count_taken.ensures.seals hash)),
        );
        refused = λ other. absurd (other refl);
        left = tt;
        left_then = λ is. refl;
        start = refl;
      })
    ])

pub store_and_commit-requires-clause-may : goal.store_and_commit-requires-clause-may
store_and_commit-requires-clause-may g c =
    let s = c.self.inside in
    let state = s.contents.state in
    let id = c.args.«package» in
    let version = c.args.version in
    let manifest = c.args.manifest in
    let job = c.next-job.result in
    let counted = ap length c.entries.ensures.value in
    let none_refused = ap (λ (v : Seen g.row.D.Denot). begin_fault v.state v.end id version (length c.entries.result.now)) c.self.view_is ∙ sym c.in-None.ensures in
    let no = not_spent (end_of s.log) (opened_fault (rows_of state) state.next id version (length c.entries.result.now)) none_refused in
    let free : opened_fault (rows_of state) state.next id version (length manifest) ≡ None = ap (λ (n : ℕ). opened_fault (rows_of state) state.next id version n) (sym counted) ∙ no.0 in
    let at = ap (λ (j : ℕ). opened_fault (rows_of state) j id version (length manifest)) c.next-job.ensures ∙ free in
    let may : MayBegin (end_of s.log) state job id version manifest = record {
      next = c.next-job.ensures;
      job_range = c.are_recordable.ensures.job;
      long = c.are_recordable.ensures.long;
      form = c.are_recordable.ensures.form;
      version_range = c.are_recordable.ensures.version;
      named = c.self.invariant.kept.standing.fit.named;
      free = at;
      room = begun_room state (end_of s.log) job id version manifest at no.1 (begun_length job id version manifest c.are_recordable.ensures.long);
    } in
    subst (λ (m : InMemory). MayBegin (end_of s.log) m.state job id version (taken_manifest m.taken)) (sym c.in-Ok.ensures.ok) may

pub returns-clause-stands : goal.returns-clause-stands
returns-clause-stands g c =
    let d = g.D.Disk in
    let s = c.self.inside in
    let state = s.contents.state in
    let id = c.args.«package» in
    let version = c.args.version in
    let manifest = c.args.manifest in
    let none = no_some (change_in s.contents.taken) s.pending (ap (λ (v : Seen g.row.D.Denot). v.pending) c.self.view_is ∙ c.requires) in
    let all = subst (λ (p : Option Change). IsKept d.reads d.may_leave s.start.value s.disk s.log s.contents s.counts p) none c.self.invariant.kept in
    let kept = all.standing in
    let counted = ap length c.entries.ensures.value in
    let none_refused = ap (λ (v : Seen g.row.D.Denot). begin_fault v.state v.end id version (length c.entries.result.now)) c.self.view_is ∙ sym c.in-None.ensures in
    let no = not_spent (end_of s.log) (opened_fault (rows_of state) state.next id version (length c.entries.result.now)) none_refused in
    let free : opened_fault (rows_of state) state.next id version (length manifest) ≡ None = ap (λ (n : ℕ). opened_fault (rows_of state) state.next id version n) (sym counted) ∙ no.0 in
    let new = c.store_and_commit.new.disk in
    let job = c.next-job.result in
    subst (λ (v : Seen g.row.D.Denot). ForSome (d.reads v.disk) (λ files. LeavesOnly d.moment d.left_since v.disk new (StandsOr v.state (if_allowed (Begun v.state.next id version manifest) v.state)))) c.self.view_is
    (λ x told. subst (λ (o : Option StateChange). LeavesOnly d.moment d.left_since s.disk new (StandsOr state o)) (sym (is_taken (Begun state.next id version manifest) state (le-leb 1 version c.are_recordable.ensures.version.0) free))
    (subst (λ (j : ℕ). LeavesOnly d.moment d.left_since s.disk new (StandsOr state (Some (Begun j id version manifest)))) c.next-job.ensures
    (subst (λ (m : InMemory). LeavesOnly d.moment d.left_since s.disk new (StandsOr m.state (Some (Begun job id version (taken_manifest m.taken))))) c.in-Ok.ensures.ok (c.store_and_commit.ensures.stands x told))))

pub returns-clause-opens : goal.returns-clause-opens
returns-clause-opens g c =
    let d = g.D.Disk in
    let s = c.self.inside in
    let state = s.contents.state in
    let id = c.args.«package» in
    let version = c.args.version in
    let manifest = c.args.manifest in
    let none = no_some (change_in s.contents.taken) s.pending (ap (λ (v : Seen g.row.D.Denot). v.pending) c.self.view_is ∙ c.requires) in
    let all = subst (λ (p : Option Change). IsKept d.reads d.may_leave s.start.value s.disk s.log s.contents s.counts p) none c.self.invariant.kept in
    let kept = all.standing in
    let counted = ap length c.entries.ensures.value in
    let none_refused = ap (λ (v : Seen g.row.D.Denot). begin_fault v.state v.end id version (length c.entries.result.now)) c.self.view_is ∙ sym c.in-None.ensures in
    let no = not_spent (end_of s.log) (opened_fault (rows_of state) state.next id version (length c.entries.result.now)) none_refused in
    let free : opened_fault (rows_of state) state.next id version (length manifest) ≡ None = ap (λ (n : ℕ). opened_fault (rows_of state) state.next id version n) (sym counted) ∙ no.0 in
    let new = c.store_and_commit.new.disk in
    let job = c.next-job.result in
    subst (λ (v : Seen g.row.D.Denot). EachOpensSome (d.may_leave v.start) → ForSome (d.reads v.disk) (λ files. LeavesOnly d.moment d.left_since v.disk new (OpensOr v.state (if_allowed (Begun v.state.next id version manifest) v.state)))) c.self.view_is
    (λ whole x told. subst (λ (o : Option StateChange). LeavesOnly d.moment d.left_since s.disk new (OpensOr state o)) (sym (is_taken (Begun state.next id version manifest) state (le-leb 1 version c.are_recordable.ensures.version.0) free))
    (subst (λ (j : ℕ). LeavesOnly d.moment d.left_since s.disk new (OpensOr state (Some (Begun j id version manifest)))) c.next-job.ensures
    (subst (λ (m : InMemory). LeavesOnly d.moment d.left_since s.disk new (OpensOr m.state (Some (Begun job id version (taken_manifest m.taken))))) c.in-Ok.ensures.ok (c.store_and_commit.ensures.opens whole x told))))
