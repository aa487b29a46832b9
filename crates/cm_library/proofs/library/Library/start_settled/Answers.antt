use Rattle.std.proofs.Common.{◌≡◌, ℕ, ◌<◌, ◌≤◌, true, List, [], ◌∷◌, ◌++◌, length, sym, ◌∙◌, ap, subst, refl}
use Rattle.std.specs.Prelude.{None, Some, is_some, vec_capacity}
use Rattle.std.proofs.lemmas.List.{length-map}
use Rattle.cm_pkglib.specs.Counts.{sealed_of, seal_at}
use Rattle.cm_filelib.specs.declared.writing.Writing.{Writing}
use Rattle.cm_filelib.specs.Places.{file_place}
use Rattle.cm_filelib.specs.Stored.{emptied}
use Rattle.cm_state.specs.State.{Held, held_by_job}
use Rattle.cm_contents.specs.Seals.{job_manifest}
use Rattle.cm_contents.specs.Wants.{size_in}
use Rattle.cm_library.specs.Kept.{Seen}
use Rattle.cm_library.specs.Started.{AreStarted, holder_of, with_file, without_file}
use Rattle.cm_library.proofs.AnyMoment.{no_change}
use Rattle.cm_library.proofs.FileCalls.{told_but, files_left, files_with}
use Rattle.cm_library.proofs.Refused.{refused_stands, refused_opens}
use Rattle.cm_library.proofs.SettledCalls.{may_start, files_idle, unsealed_in, worked, work_stands, work_opens, room_for, still_enough}
use Rattle.cm_library.proofs.StartedFiles.{fewer_than_jobs, others_apart}
use Rattle.cm_library.proofs.KeptPlaces.{does_places, file_own}
use Rattle.cm_state.specs.Adding.{Told}
use Rattle.cm_library.specs.Placing.{KeepsPlaces}
use Rattle.cm_library.proofs.library.Library.start_settled.Goals as goal

pub returns-in-Err-clause-stands : goal.returns-in-Err-clause-stands
returns-in-Err-clause-stands g c =
    let d = g.D.Disk in
    let s = c.self.inside in
    let was = c.args.self.now in
    refused_stands d.reads d.may_leave d.moment d.left_since g.met.D.Disk.only_now s.start.value s.disk s.log s.contents s.counts s.pending s.started.items was no_change c.self.view_is c.requires.settled c.self.invariant.kept was.disk (ap (λ (v : Seen g.row.D.Denot). v.disk) c.self.view_is)

pub returns-in-Err-clause-opens : goal.returns-in-Err-clause-opens
returns-in-Err-clause-opens g c =
    let d = g.D.Disk in
    let s = c.self.inside in
    let was = c.args.self.now in
    refused_opens d.reads d.may_leave d.moment d.left_since g.met.D.Disk.only_now s.start.value s.disk s.log s.contents s.counts s.pending s.started.items was no_change c.self.view_is c.requires.settled c.self.invariant.kept was.disk (ap (λ (v : Seen g.row.D.Denot). v.disk) c.self.view_is)

pub add_file-requires : goal.add_file-requires
add_file-requires g c =
    let d = g.D.Disk in
    let s = c.self.inside in
    let was = c.args.self.now in
    let job = c.args.job in
    let hash = c.args.hash in
    let may = may_start (seal_at was.seals) was.state was.started job hash c.in-Ok.ensures.wanted.0 in
    let unsealed = unsealed_in d.reads d.may_leave d.moment d.left_since g.met.D.Disk.as_it_reads s.start.value s.disk s.log s.contents s.counts s.pending s.started.items (vec_capacity s.started) was c.self.view_is c.requires.settled c.self.invariant hash may.unsealed in
    let free : holder_of job hash s.started.items ≡ None = ap (λ (v : Seen g.row.D.Denot). holder_of job hash v.started) c.self.view_is ∙ may.free in
    let wanted : size_in hash (job_manifest job s.contents.state) ≡ Some c.in-Ok.size = ap (λ (v : Seen g.row.D.Denot). size_in hash (job_manifest job v.state)) c.self.view_is ∙ c.in-Ok.ensures.wanted.1 in
    let unfinished : is_some (held_by_job job s.contents.state.jobs) ≡ true = ap (λ (v : Seen g.row.D.Denot). is_some (held_by_job job v.state.jobs)) c.self.view_is ∙ may.unfinished in
    let files = files_idle d.reads d.may_leave d.moment d.left_since g.met.D.Disk.as_it_reads s.start.value s.disk s.log s.contents s.counts s.pending s.started.items (vec_capacity s.started) was c.self.view_is c.requires.settled c.self.invariant in
    record {
      room = subst (λ (xs : List (ℕ × Writing)). length xs < vec_capacity c.leave_file.new.started) (sym c.leave_file.ensures.rest)
          (room_for (length s.contents.state.jobs) _ (vec_capacity c.leave_file.new.started) (length (without_file job s.started.items))
          (fewer_than_jobs s.contents.state (λ h. sealed_of s.counts h) job s.started.items files.each files.apart unfinished)
          (sym (length-map s.contents.state.jobs (λ (u : ℕ × Held). (u.0, u.1.row)))) c.tells_valid.ensures.few_jobs
          (subst (λ (n : ℕ). 256 ≤ n) (sym c.leave_file.ensures.capacity) c.self.invariant.enough));
    }

pub invariant_of-self : goal.invariant_of-self
invariant_of-self g c =
    let d = g.D.Disk in
    let s = c.self.inside in
    let was = c.args.self.now in
    let job = c.args.job in
    let hash = c.args.hash in
    let may = may_start (seal_at was.seals) was.state was.started job hash c.in-Ok.ensures.wanted.0 in
    let unsealed = unsealed_in d.reads d.may_leave d.moment d.left_since g.met.D.Disk.as_it_reads s.start.value s.disk s.log s.contents s.counts s.pending s.started.items (vec_capacity s.started) was c.self.view_is c.requires.settled c.self.invariant hash may.unsealed in
    let free : holder_of job hash s.started.items ≡ None = ap (λ (v : Seen g.row.D.Denot). holder_of job hash v.started) c.self.view_is ∙ may.free in
    let wanted : size_in hash (job_manifest job s.contents.state) ≡ Some c.in-Ok.size = ap (λ (v : Seen g.row.D.Denot). size_in hash (job_manifest job v.state)) c.self.view_is ∙ c.in-Ok.ensures.wanted.1 in
    let unfinished : is_some (held_by_job job s.contents.state.jobs) ≡ true = ap (λ (v : Seen g.row.D.Denot). is_some (held_by_job job v.state.jobs)) c.self.view_is ∙ may.unfinished in
    let files = files_idle d.reads d.may_leave d.moment d.left_since g.met.D.Disk.as_it_reads s.start.value s.disk s.log s.contents s.counts s.pending s.started.items (vec_capacity s.started) was c.self.view_is c.requires.settled c.self.invariant in
    let new = c.start.new.disk in
    let work = c.start.ensures.work in
    let others = others_apart job hash s.started.items free in
    let but = told_but (d.reads s.disk) (d.reads new) (file_place hash.0) emptied c.start.result work in
    let writing = c.in-Ok-start.writing in
    let made = c.in-Ok-start.ensures in
    worked d.reads d.may_leave d.moment d.left_since g.met.D.Disk.as_it_reads s.start.value s.disk s.log s.contents s.counts s.pending s.started.items (vec_capacity s.started) was c.self.view_is c.requires.settled c.self.invariant new hash c.start.ensures.others work.silent c.show_bytes.ensures.bytes unsealed c.add_file.new.started.items (vec_capacity c.add_file.new.started)
    (still_enough (vec_capacity s.started) (vec_capacity c.leave_file.new.started) (vec_capacity c.add_file.new.started) c.self.invariant.enough c.leave_file.ensures.capacity c.add_file.ensures.capacity)
    (subst (λ (xs : List (ℕ × Writing)). AreStarted (d.reads new) s.contents.state (λ h. sealed_of s.counts h) None xs) (sym (c.add_file.ensures.more ∙ ap (λ (xs : List (ℕ × Writing)). xs ++ (job, writing) ∷ []) c.leave_file.ensures.rest))
    (files_with (d.reads s.disk) (d.reads new) s.contents.state (λ h. sealed_of s.counts h) job hash s.started.items files c.show_bytes.ensures.bytes c.show_bytes.ensures.long but work.silent writing others (wanted ∙ ap (λ (n : ℕ). Some n) (sym made.named.1)) unsealed made.named.0 made.idle made.stands))

pub invariant_of-self-in-Err-start : goal.invariant_of-self-in-Err-start
invariant_of-self-in-Err-start g c =
    let d = g.D.Disk in
    let s = c.self.inside in
    let was = c.args.self.now in
    let job = c.args.job in
    let hash = c.args.hash in
    let may = may_start (seal_at was.seals) was.state was.started job hash c.in-Ok.ensures.wanted.0 in
    let unsealed = unsealed_in d.reads d.may_leave d.moment d.left_since g.met.D.Disk.as_it_reads s.start.value s.disk s.log s.contents s.counts s.pending s.started.items (vec_capacity s.started) was c.self.view_is c.requires.settled c.self.invariant hash may.unsealed in
    let free : holder_of job hash s.started.items ≡ None = ap (λ (v : Seen g.row.D.Denot). holder_of job hash v.started) c.self.view_is ∙ may.free in
    let wanted : size_in hash (job_manifest job s.contents.state) ≡ Some c.in-Ok.size = ap (λ (v : Seen g.row.D.Denot). size_in hash (job_manifest job v.state)) c.self.view_is ∙ c.in-Ok.ensures.wanted.1 in
    let unfinished : is_some (held_by_job job s.contents.state.jobs) ≡ true = ap (λ (v : Seen g.row.D.Denot). is_some (held_by_job job v.state.jobs)) c.self.view_is ∙ may.unfinished in
    let files = files_idle d.reads d.may_leave d.moment d.left_since g.met.D.Disk.as_it_reads s.start.value s.disk s.log s.contents s.counts s.pending s.started.items (vec_capacity s.started) was c.self.view_is c.requires.settled c.self.invariant in
    let new = c.start.new.disk in
    let work = c.start.ensures.work in
    let others = others_apart job hash s.started.items free in
    let but = told_but (d.reads s.disk) (d.reads new) (file_place hash.0) emptied c.start.result work in
    worked d.reads d.may_leave d.moment d.left_since g.met.D.Disk.as_it_reads s.start.value s.disk s.log s.contents s.counts s.pending s.started.items (vec_capacity s.started) was c.self.view_is c.requires.settled c.self.invariant new hash c.start.ensures.others work.silent c.show_bytes.ensures.bytes unsealed c.leave_file.new.started.items (vec_capacity c.leave_file.new.started)
    (subst (λ (n : ℕ). 256 ≤ n) (sym c.leave_file.ensures.capacity) c.self.invariant.enough)
    (subst (λ (xs : List (ℕ × Writing)). AreStarted (d.reads new) s.contents.state (λ h. sealed_of s.counts h) None xs) (sym c.leave_file.ensures.rest)
    (files_left (d.reads s.disk) (d.reads new) s.contents.state (λ h. sealed_of s.counts h) job hash s.started.items files c.show_bytes.ensures.bytes c.show_bytes.ensures.long but work.silent others))

pub returns-in-Ok-start-clause-started : goal.returns-in-Ok-start-clause-started
returns-in-Ok-start-clause-started g c =
    let d = g.D.Disk in
    let s = c.self.inside in
    let was = c.args.self.now in
    let job = c.args.job in
    let writing = c.in-Ok-start.writing in
    let made = c.in-Ok-start.ensures in
    record {
      writing = writing;
      started = c.add_file.ensures.more ∙ ap (λ (xs : List (ℕ × Writing)). xs ++ (job, writing) ∷ []) c.leave_file.ensures.rest ∙ ap (λ (v : Seen g.row.D.Denot). with_file job writing v.started) c.self.view_is;
      hash_is = made.named.0;
      size_is = c.in-Ok.ensures.wanted.1 ∙ ap (λ (n : ℕ). Some n) (sym made.named.1);
      none_yet = made.put;
    }

pub returns-in-Ok-start-clause-stands : goal.returns-in-Ok-start-clause-stands
returns-in-Ok-start-clause-stands g c =
    let d = g.D.Disk in
    let s = c.self.inside in
    let was = c.args.self.now in
    work_stands d.reads d.may_leave d.moment d.left_since g.met.D.Disk.as_it_reads s.start.value s.disk s.log s.contents s.counts s.pending s.started.items (vec_capacity s.started) was c.self.view_is c.requires.settled c.self.invariant c.start.new.disk c.args.hash c.start.ensures.run

pub returns-in-Ok-start-clause-opens : goal.returns-in-Ok-start-clause-opens
returns-in-Ok-start-clause-opens g c =
    let d = g.D.Disk in
    let s = c.self.inside in
    let was = c.args.self.now in
    let job = c.args.job in
    let hash = c.args.hash in
    let may = may_start (seal_at was.seals) was.state was.started job hash c.in-Ok.ensures.wanted.0 in
    let unsealed = unsealed_in d.reads d.may_leave d.moment d.left_since g.met.D.Disk.as_it_reads s.start.value s.disk s.log s.contents s.counts s.pending s.started.items (vec_capacity s.started) was c.self.view_is c.requires.settled c.self.invariant hash may.unsealed in
    let free : holder_of job hash s.started.items ≡ None = ap (λ (v : Seen g.row.D.Denot). holder_of job hash v.started) c.self.view_is ∙ may.free in
    let wanted : size_in hash (job_manifest job s.contents.state) ≡ Some c.in-Ok.size = ap (λ (v : Seen g.row.D.Denot). size_in hash (job_manifest job v.state)) c.self.view_is ∙ c.in-Ok.ensures.wanted.1 in
    let unfinished : is_some (held_by_job job s.contents.state.jobs) ≡ true = ap (λ (v : Seen g.row.D.Denot). is_some (held_by_job job v.state.jobs)) c.self.view_is ∙ may.unfinished in
    let files = files_idle d.reads d.may_leave d.moment d.left_since g.met.D.Disk.as_it_reads s.start.value s.disk s.log s.contents s.counts s.pending s.started.items (vec_capacity s.started) was c.self.view_is c.requires.settled c.self.invariant in
    work_opens d.reads d.may_leave d.moment d.left_since g.met.D.Disk.as_it_reads s.start.value s.disk s.log s.contents s.counts s.pending s.started.items (vec_capacity s.started) was c.self.view_is c.requires.settled c.self.invariant c.start.new.disk c.args.hash c.start.ensures.run c.show_bytes.ensures.bytes unsealed

pub returns-in-Err-start-clause-stands : goal.returns-in-Err-start-clause-stands
returns-in-Err-start-clause-stands g c =
    let d = g.D.Disk in
    let s = c.self.inside in
    let was = c.args.self.now in
    work_stands d.reads d.may_leave d.moment d.left_since g.met.D.Disk.as_it_reads s.start.value s.disk s.log s.contents s.counts s.pending s.started.items (vec_capacity s.started) was c.self.view_is c.requires.settled c.self.invariant c.start.new.disk c.args.hash c.start.ensures.run

pub returns-in-Err-start-clause-opens : goal.returns-in-Err-start-clause-opens
returns-in-Err-start-clause-opens g c =
    let d = g.D.Disk in
    let s = c.self.inside in
    let was = c.args.self.now in
    let job = c.args.job in
    let hash = c.args.hash in
    let may = may_start (seal_at was.seals) was.state was.started job hash c.in-Ok.ensures.wanted.0 in
    let unsealed = unsealed_in d.reads d.may_leave d.moment d.left_since g.met.D.Disk.as_it_reads s.start.value s.disk s.log s.contents s.counts s.pending s.started.items (vec_capacity s.started) was c.self.view_is c.requires.settled c.self.invariant hash may.unsealed in
    let free : holder_of job hash s.started.items ≡ None = ap (λ (v : Seen g.row.D.Denot). holder_of job hash v.started) c.self.view_is ∙ may.free in
    let wanted : size_in hash (job_manifest job s.contents.state) ≡ Some c.in-Ok.size = ap (λ (v : Seen g.row.D.Denot). size_in hash (job_manifest job v.state)) c.self.view_is ∙ c.in-Ok.ensures.wanted.1 in
    let unfinished : is_some (held_by_job job s.contents.state.jobs) ≡ true = ap (λ (v : Seen g.row.D.Denot). is_some (held_by_job job v.state.jobs)) c.self.view_is ∙ may.unfinished in
    let files = files_idle d.reads d.may_leave d.moment d.left_since g.met.D.Disk.as_it_reads s.start.value s.disk s.log s.contents s.counts s.pending s.started.items (vec_capacity s.started) was c.self.view_is c.requires.settled c.self.invariant in
    work_opens d.reads d.may_leave d.moment d.left_since g.met.D.Disk.as_it_reads s.start.value s.disk s.log s.contents s.counts s.pending s.started.items (vec_capacity s.started) was c.self.view_is c.requires.settled c.self.invariant c.start.new.disk c.args.hash c.start.ensures.run c.show_bytes.ensures.bytes unsealed

pub returns-in-Ok-start-clause-places : goal.returns-in-Ok-start-clause-places
returns-in-Ok-start-clause-places g c =
    let d = g.D.Disk in
    let s = c.self.inside in
    let hash = c.args.hash in
    let own = file_own hash.0 c.show_bytes.ensures.bytes c.show_bytes.ensures.long in
    subst (λ (v : Seen g.row.D.Denot). Told KeepsPlaces (d.reads v.disk) (d.reads c.start.new.disk)) c.self.view_is
    (does_places (d.reads s.disk) (d.reads c.start.new.disk) (file_place hash.0) emptied c.start.result own (λ file. refl) c.start.ensures.work)

pub returns-in-Err-start-clause-places : goal.returns-in-Err-start-clause-places
returns-in-Err-start-clause-places g c =
    let d = g.D.Disk in
    let s = c.self.inside in
    let hash = c.args.hash in
    let own = file_own hash.0 c.show_bytes.ensures.bytes c.show_bytes.ensures.long in
    subst (λ (v : Seen g.row.D.Denot). Told KeepsPlaces (d.reads v.disk) (d.reads c.start.new.disk)) c.self.view_is
    (does_places (d.reads s.disk) (d.reads c.start.new.disk) (file_place hash.0) emptied c.start.result own (λ file. refl) c.start.ensures.work)
