use Rattle.std.proofs.Common.{◌≡◌, ℕ, ◌<◌, ◌≤◌, true, List, [], ◌∷◌, ◌++◌, length, sym, ◌∙◌, ap, subst, refl}
use Rattle.std.specs.Prelude.{None, Some, is_some, vec_capacity}
use Rattle.std.proofs.lemmas.List.{length-map}
use Rattle.std.proofs.lemmas.Option.{same_Some}
use Rattle.cm_pkglib.specs.Counts.{sealed_of}
use Rattle.cm_filelib.specs.declared.writing.Writing.{Writing}
use Rattle.cm_filelib.specs.Stored.{appended}
use Rattle.cm_filelib.specs.Writings.{hash_of, place_of}
use Rattle.cm_state.specs.State.{Held, held_by_job}
use Rattle.cm_library.specs.Kept.{Seen}
use Rattle.cm_library.specs.Filing.{GoesOn}
use Rattle.cm_library.specs.Started.{file_fault, misplaced_in, AreStarted, started_by, with_file, without_file}
use Rattle.cm_library.proofs.AnyMoment.{no_change}
use Rattle.cm_library.proofs.FileCalls.{told_but, files_left, files_with}
use Rattle.cm_library.proofs.Refused.{refused_stands, refused_opens}
use Rattle.cm_library.proofs.SettledCalls.{first_none, may_go_on, files_idle, worked, work_stands, work_opens, room_for, still_enough}
use Rattle.cm_library.proofs.StartedFiles.{file_found, fewer_than_jobs}
use Rattle.cm_library.proofs.KeptPlaces.{does_places, file_own}
use Rattle.cm_state.specs.Adding.{Told}
use Rattle.cm_library.specs.Placing.{KeepsPlaces}
use Rattle.cm_library.proofs.library.Library.put_settled.Goals as goal

pub returns-in-Some-clause-stands : goal.returns-in-Some-clause-stands
returns-in-Some-clause-stands g c =
    let d = g.D.Disk in
    let s = c.self.inside in
    let was = c.args.self.now in
    refused_stands d.reads d.may_leave d.moment d.left_since g.met.D.Disk.only_now s.start.value s.disk s.log s.contents s.counts s.pending s.started.items was no_change c.self.view_is c.requires.settled c.self.invariant.kept was.disk (ap (λ (v : Seen g.row.D.Denot). v.disk) c.self.view_is)

pub returns-in-Some-clause-opens : goal.returns-in-Some-clause-opens
returns-in-Some-clause-opens g c =
    let d = g.D.Disk in
    let s = c.self.inside in
    let was = c.args.self.now in
    refused_opens d.reads d.may_leave d.moment d.left_since g.met.D.Disk.only_now s.start.value s.disk s.log s.contents s.counts s.pending s.started.items was no_change c.self.view_is c.requires.settled c.self.invariant.kept was.disk (ap (λ (v : Seen g.row.D.Denot). v.disk) c.self.view_is)

pub put-requires-clause-idle : goal.put-requires-clause-idle
put-requires-clause-idle g c =
    let d = g.D.Disk in
    let s = c.self.inside in
    let was = c.args.self.now in
    let job = c.args.job in
    let w = c.in-Some-take_file.writing in
    let files = files_idle d.reads d.may_leave d.moment d.left_since g.met.D.Disk.as_it_reads s.start.value s.disk s.log s.contents s.counts s.pending s.started.items (vec_capacity s.started) was c.self.view_is c.requires.settled c.self.invariant in
    let at = file_found (d.reads s.disk) s.contents.state (λ h. sealed_of s.counts h) None job s.started.items w (sym c.in-Some-take_file.ensures.found) files in
    at.0.idle

pub put-requires-clause-stands : goal.put-requires-clause-stands
put-requires-clause-stands g c =
    let d = g.D.Disk in
    let s = c.self.inside in
    let was = c.args.self.now in
    let job = c.args.job in
    let w = c.in-Some-take_file.writing in
    let files = files_idle d.reads d.may_leave d.moment d.left_since g.met.D.Disk.as_it_reads s.start.value s.disk s.log s.contents s.counts s.pending s.started.items (vec_capacity s.started) was c.self.view_is c.requires.settled c.self.invariant in
    let at = file_found (d.reads s.disk) s.contents.state (λ h. sealed_of s.counts h) None job s.started.items w (sym c.in-Some-take_file.ensures.found) files in
    at.1

pub add_file-requires : goal.add_file-requires
add_file-requires g c =
    let d = g.D.Disk in
    let s = c.self.inside in
    let was = c.args.self.now in
    let job = c.args.job in
    let w = c.in-Some-take_file.writing in
    let files = files_idle d.reads d.may_leave d.moment d.left_since g.met.D.Disk.as_it_reads s.start.value s.disk s.log s.contents s.counts s.pending s.started.items (vec_capacity s.started) was c.self.view_is c.requires.settled c.self.invariant in
    let at = file_found (d.reads s.disk) s.contents.state (λ h. sealed_of s.counts h) None job s.started.items w (sym c.in-Some-take_file.ensures.found) files in
    let none = first_none (file_fault was.state was.started job) (misplaced_in (started_by job was.started) c.args.offset (length c.args.bytes.now)) (sym c.in-None.ensures) in
    let unfinished : is_some (held_by_job job s.contents.state.jobs) ≡ true = ap (λ (v : Seen g.row.D.Denot). is_some (held_by_job job v.state.jobs)) c.self.view_is ∙ (may_go_on was.state was.started job none.0).0 in
    record {
      room = subst (λ (xs : List (ℕ × Writing)). length xs < vec_capacity c.take_file.new.started) (sym c.take_file.ensures.rest)
          (room_for (length s.contents.state.jobs) _ (vec_capacity c.take_file.new.started) (length (without_file job s.started.items))
          (fewer_than_jobs s.contents.state (λ h. sealed_of s.counts h) job s.started.items files.each files.apart unfinished)
          (sym (length-map s.contents.state.jobs (λ (u : ℕ × Held). (u.0, u.1.row)))) c.tells_valid.ensures.few_jobs
          (subst (λ (n : ℕ). 256 ≤ n) (sym c.take_file.ensures.capacity) c.self.invariant.enough));
    }

pub invariant_of-self : goal.invariant_of-self
invariant_of-self g c =
    let d = g.D.Disk in
    let s = c.self.inside in
    let was = c.args.self.now in
    let job = c.args.job in
    let w = c.in-Some-take_file.writing in
    let files = files_idle d.reads d.may_leave d.moment d.left_since g.met.D.Disk.as_it_reads s.start.value s.disk s.log s.contents s.counts s.pending s.started.items (vec_capacity s.started) was c.self.view_is c.requires.settled c.self.invariant in
    let at = file_found (d.reads s.disk) s.contents.state (λ h. sealed_of s.counts h) None job s.started.items w (sym c.in-Some-take_file.ensures.found) files in
    let new = c.put.new.disk in
    let work = c.put.ensures.work in
    let but = told_but (d.reads s.disk) (d.reads new) (place_of w) (appended c.args.bytes.now) c.put.result work in
    let writing = c.put.new.writing in
    let done = c.in-Ok.ensures in
    worked d.reads d.may_leave d.moment d.left_since g.met.D.Disk.as_it_reads s.start.value s.disk s.log s.contents s.counts s.pending s.started.items (vec_capacity s.started) was c.self.view_is c.requires.settled c.self.invariant new (hash_of w) c.put.ensures.others work.silent at.0.bytes at.0.unsealed c.add_file.new.started.items (vec_capacity c.add_file.new.started)
    (still_enough (vec_capacity s.started) (vec_capacity c.take_file.new.started) (vec_capacity c.add_file.new.started) c.self.invariant.enough c.take_file.ensures.capacity c.add_file.ensures.capacity)
    (subst (λ (xs : List (ℕ × Writing)). AreStarted (d.reads new) s.contents.state (λ h. sealed_of s.counts h) None xs) (sym (c.add_file.ensures.more ∙ ap (λ (xs : List (ℕ × Writing)). xs ++ (job, writing) ∷ []) c.take_file.ensures.rest))
    (files_with (d.reads s.disk) (d.reads new) s.contents.state (λ h. sealed_of s.counts h) job (hash_of w) s.started.items files at.0.bytes at.0.long but work.silent writing at.2 (at.0.wanted ∙ ap (λ (n : ℕ). Some n) (sym done.named.1)) at.0.unsealed done.named.0 done.idle done.stands))

pub invariant_of-self-in-Err-Disk : goal.invariant_of-self-in-Err-Disk
invariant_of-self-in-Err-Disk g c =
    let d = g.D.Disk in
    let s = c.self.inside in
    let was = c.args.self.now in
    let job = c.args.job in
    let w = c.in-Some-take_file.writing in
    let files = files_idle d.reads d.may_leave d.moment d.left_since g.met.D.Disk.as_it_reads s.start.value s.disk s.log s.contents s.counts s.pending s.started.items (vec_capacity s.started) was c.self.view_is c.requires.settled c.self.invariant in
    let at = file_found (d.reads s.disk) s.contents.state (λ h. sealed_of s.counts h) None job s.started.items w (sym c.in-Some-take_file.ensures.found) files in
    let new = c.put.new.disk in
    let work = c.put.ensures.work in
    let but = told_but (d.reads s.disk) (d.reads new) (place_of w) (appended c.args.bytes.now) c.put.result work in
    worked d.reads d.may_leave d.moment d.left_since g.met.D.Disk.as_it_reads s.start.value s.disk s.log s.contents s.counts s.pending s.started.items (vec_capacity s.started) was c.self.view_is c.requires.settled c.self.invariant new (hash_of w) c.put.ensures.others work.silent at.0.bytes at.0.unsealed c.take_file.new.started.items (vec_capacity c.take_file.new.started)
    (subst (λ (n : ℕ). 256 ≤ n) (sym c.take_file.ensures.capacity) c.self.invariant.enough)
    (subst (λ (xs : List (ℕ × Writing)). AreStarted (d.reads new) s.contents.state (λ h. sealed_of s.counts h) None xs) (sym c.take_file.ensures.rest)
    (files_left (d.reads s.disk) (d.reads new) s.contents.state (λ h. sealed_of s.counts h) job (hash_of w) s.started.items files at.0.bytes at.0.long but work.silent at.2))

pub returns-in-Ok-clause-goes_on : goal.returns-in-Ok-clause-goes_on
returns-in-Ok-clause-goes_on g c x is =
    let d = g.D.Disk in
    let s = c.self.inside in
    let was = c.args.self.now in
    let job = c.args.job in
    let w = c.in-Some-take_file.writing in
    let writing = c.put.new.writing in
    let done = c.in-Ok.ensures in
    let same : w ≡ x = same_Some w x (c.in-Some-take_file.ensures.found ∙ ap (λ (v : Seen g.row.D.Denot). started_by job v.started) c.self.view_is ∙ is) in
    subst (λ (y : Writing). GoesOn job y c.args.bytes.now was.started c.add_file.new.started.items) same (record {
      writing = writing;
      started = (c.add_file.ensures.more ∙ ap (λ (xs : List (ℕ × Writing)). xs ++ (job, writing) ∷ []) c.take_file.ensures.rest) ∙ ap (λ (v : Seen g.row.D.Denot). with_file job writing v.started) c.self.view_is;
      hash_is = done.named.0;
      size_is = done.named.1;
      next = done.next;
      put = done.put;
    })

pub returns-in-Ok-clause-stands : goal.returns-in-Ok-clause-stands
returns-in-Ok-clause-stands g c =
    let d = g.D.Disk in
    let s = c.self.inside in
    let was = c.args.self.now in
    let w = c.in-Some-take_file.writing in
    work_stands d.reads d.may_leave d.moment d.left_since g.met.D.Disk.as_it_reads s.start.value s.disk s.log s.contents s.counts s.pending s.started.items (vec_capacity s.started) was c.self.view_is c.requires.settled c.self.invariant c.put.new.disk (hash_of w) c.put.ensures.run

pub returns-in-Ok-clause-opens : goal.returns-in-Ok-clause-opens
returns-in-Ok-clause-opens g c =
    let d = g.D.Disk in
    let s = c.self.inside in
    let was = c.args.self.now in
    let job = c.args.job in
    let w = c.in-Some-take_file.writing in
    let files = files_idle d.reads d.may_leave d.moment d.left_since g.met.D.Disk.as_it_reads s.start.value s.disk s.log s.contents s.counts s.pending s.started.items (vec_capacity s.started) was c.self.view_is c.requires.settled c.self.invariant in
    let at = file_found (d.reads s.disk) s.contents.state (λ h. sealed_of s.counts h) None job s.started.items w (sym c.in-Some-take_file.ensures.found) files in
    work_opens d.reads d.may_leave d.moment d.left_since g.met.D.Disk.as_it_reads s.start.value s.disk s.log s.contents s.counts s.pending s.started.items (vec_capacity s.started) was c.self.view_is c.requires.settled c.self.invariant c.put.new.disk (hash_of w) c.put.ensures.run at.0.bytes at.0.unsealed

pub returns-in-Err-Disk-clause-stands : goal.returns-in-Err-Disk-clause-stands
returns-in-Err-Disk-clause-stands g c =
    let d = g.D.Disk in
    let s = c.self.inside in
    let was = c.args.self.now in
    let w = c.in-Some-take_file.writing in
    work_stands d.reads d.may_leave d.moment d.left_since g.met.D.Disk.as_it_reads s.start.value s.disk s.log s.contents s.counts s.pending s.started.items (vec_capacity s.started) was c.self.view_is c.requires.settled c.self.invariant c.put.new.disk (hash_of w) c.put.ensures.run

pub returns-in-Err-Disk-clause-opens : goal.returns-in-Err-Disk-clause-opens
returns-in-Err-Disk-clause-opens g c =
    let d = g.D.Disk in
    let s = c.self.inside in
    let was = c.args.self.now in
    let job = c.args.job in
    let w = c.in-Some-take_file.writing in
    let files = files_idle d.reads d.may_leave d.moment d.left_since g.met.D.Disk.as_it_reads s.start.value s.disk s.log s.contents s.counts s.pending s.started.items (vec_capacity s.started) was c.self.view_is c.requires.settled c.self.invariant in
    let at = file_found (d.reads s.disk) s.contents.state (λ h. sealed_of s.counts h) None job s.started.items w (sym c.in-Some-take_file.ensures.found) files in
    work_opens d.reads d.may_leave d.moment d.left_since g.met.D.Disk.as_it_reads s.start.value s.disk s.log s.contents s.counts s.pending s.started.items (vec_capacity s.started) was c.self.view_is c.requires.settled c.self.invariant c.put.new.disk (hash_of w) c.put.ensures.run at.0.bytes at.0.unsealed

pub returns-in-Ok-clause-places : goal.returns-in-Ok-clause-places
returns-in-Ok-clause-places g c =
    let d = g.D.Disk in
    let s = c.self.inside in
    let was = c.args.self.now in
    let job = c.args.job in
    let w = c.in-Some-take_file.writing in
    let files = files_idle d.reads d.may_leave d.moment d.left_since g.met.D.Disk.as_it_reads s.start.value s.disk s.log s.contents s.counts s.pending s.started.items (vec_capacity s.started) was c.self.view_is c.requires.settled c.self.invariant in
    let at = file_found (d.reads s.disk) s.contents.state (λ h. sealed_of s.counts h) None job s.started.items w (sym c.in-Some-take_file.ensures.found) files in
    subst (λ (v : Seen g.row.D.Denot). Told KeepsPlaces (d.reads v.disk) (d.reads c.put.new.disk)) c.self.view_is
    (does_places (d.reads s.disk) (d.reads c.put.new.disk) (place_of w) (appended c.args.bytes.now) c.put.result (file_own (hash_of w).0 at.0.bytes at.0.long) (λ file. refl) c.put.ensures.work)

pub returns-in-Err-Disk-clause-places : goal.returns-in-Err-Disk-clause-places
returns-in-Err-Disk-clause-places g c =
    let d = g.D.Disk in
    let s = c.self.inside in
    let was = c.args.self.now in
    let job = c.args.job in
    let w = c.in-Some-take_file.writing in
    let files = files_idle d.reads d.may_leave d.moment d.left_since g.met.D.Disk.as_it_reads s.start.value s.disk s.log s.contents s.counts s.pending s.started.items (vec_capacity s.started) was c.self.view_is c.requires.settled c.self.invariant in
    let at = file_found (d.reads s.disk) s.contents.state (λ h. sealed_of s.counts h) None job s.started.items w (sym c.in-Some-take_file.ensures.found) files in
    subst (λ (v : Seen g.row.D.Denot). Told KeepsPlaces (d.reads v.disk) (d.reads c.put.new.disk)) c.self.view_is
    (does_places (d.reads s.disk) (d.reads c.put.new.disk) (place_of w) (appended c.args.bytes.now) c.put.result (file_own (hash_of w).0 at.0.bytes at.0.long) (λ file. refl) c.put.ensures.work)
