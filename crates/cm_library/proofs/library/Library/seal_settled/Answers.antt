use Rattle.std.proofs.Common.{◌≡◌, ℕ, ◌≤◌, true, List, sym, ◌∙◌, ap, subst}
use Rattle.std.specs.Prelude.{◌≢◌, ◌==◌, cond, not, Option, None, Some, vec_capacity}
use Rattle.std.proofs.lemmas.Option.{same_Some}
use Rattle.cm_base.specs.declared.hash.Hash.{Hash}
use Rattle.cm_disk.specs.Disk.{File, Files}
use Rattle.cm_pkglib.specs.declared.counts.Seal.{Seal}
use Rattle.cm_pkglib.specs.Counts.{sealed_of, seals_in, seal_at}
use Rattle.cm_pkglib.proofs.Times.{seals_are}
use Rattle.std.specs.Str.{bytes_eq}
use Rattle.cm_state.specs.Needed.{is_needed}
use Rattle.cm_filelib.specs.declared.writing.Writing.{Writing}
use Rattle.cm_filelib.specs.Writings.{hash_of, size_of, place_of}
use Rattle.cm_library.specs.Kept.{Seen}
use Rattle.cm_library.specs.Filing.{SealsIt, AreRight}
use Rattle.cm_library.specs.Started.{AreStarted, started_by, without_file}
use Rattle.cm_library.proofs.AnyMoment.{no_change}
use Rattle.cm_library.proofs.FileCalls.{other_hashes, run_alone}
use Rattle.cm_library.proofs.Refused.{refused_stands, refused_opens}
use Rattle.cm_library.proofs.SettledCalls.{files_idle, worked, sealed_now, work_stands, work_opens}
use Rattle.cm_library.proofs.StartedFiles.{file_found, files_fewer, files_sealed, wanted_needed}
use Rattle.cm_library.proofs.library.Library.seal_settled.Goals as goal

pub returns-in-Some-clause-stands : goal.returns-in-Some-clause-stands
returns-in-Some-clause-stands g c =
    let d = g.D.Disk in
    let s = c.self.inside in
    let was = c.args.self.now in
    refused_stands d.reads d.may_leave d.moment d.left_since g.met.D.Disk.only_now s.start.value s.disk s.log s.contents s.counts s.pending s.started.items was no_change c.self.view_is c.requires.settled c.self.invariant.kept was.disk (ap (λ (v : Seen g.row.D.Denot). v.disk) c.self.view_is)

pub returns-in-Some-clause-opens : goal.returns-in-Some-clause-opens
returns-in-Some-clause-opens g c =
    let d = g.D.Disk in
    let s = c.self.inside in
    let was = c.args.self.now in
    refused_opens d.reads d.may_leave d.moment d.left_since g.met.D.Disk.only_now s.start.value s.disk s.log s.contents s.counts s.pending s.started.items was no_change c.self.view_is c.requires.settled c.self.invariant.kept was.disk (ap (λ (v : Seen g.row.D.Denot). v.disk) c.self.view_is)

pub seal-requires-clause-idle : goal.seal-requires-clause-idle
seal-requires-clause-idle g c =
    let d = g.D.Disk in
    let s = c.self.inside in
    let was = c.args.self.now in
    let job = c.args.job in
    let w = c.in-Some-take_file.writing in
    let files = files_idle d.reads d.may_leave d.moment d.left_since g.met.D.Disk.as_it_reads s.start.value s.disk s.log s.contents s.counts s.pending s.started.items (vec_capacity s.started) was c.self.view_is c.requires.settled c.self.invariant in
    let at = file_found (d.reads s.disk) s.contents.state (λ h. sealed_of s.counts h) None job s.started.items w (sym c.in-Some-take_file.ensures.found) files in
    at.0.idle

pub seal-requires-clause-stands : goal.seal-requires-clause-stands
seal-requires-clause-stands g c =
    let d = g.D.Disk in
    let s = c.self.inside in
    let was = c.args.self.now in
    let job = c.args.job in
    let w = c.in-Some-take_file.writing in
    let files = files_idle d.reads d.may_leave d.moment d.left_since g.met.D.Disk.as_it_reads s.start.value s.disk s.log s.contents s.counts s.pending s.started.items (vec_capacity s.started) was c.self.view_is c.requires.settled c.self.invariant in
    let at = file_found (d.reads s.disk) s.contents.state (λ h. sealed_of s.counts h) None job s.started.items w (sym c.in-Some-take_file.ensures.found) files in
    at.1

pub seal-requires-in-Ok-clause-needed : goal.seal-requires-in-Ok-clause-needed
seal-requires-in-Ok-clause-needed g c =
    let d = g.D.Disk in
    let s = c.self.inside in
    let was = c.args.self.now in
    let job = c.args.job in
    let w = c.in-Some-take_file.writing in
    let files = files_idle d.reads d.may_leave d.moment d.left_since g.met.D.Disk.as_it_reads s.start.value s.disk s.log s.contents s.counts s.pending s.started.items (vec_capacity s.started) was c.self.view_is c.requires.settled c.self.invariant in
    let at = file_found (d.reads s.disk) s.contents.state (λ h. sealed_of s.counts h) None job s.started.items w (sym c.in-Some-take_file.ensures.found) files in
    subst (λ (h : Hash). is_needed h.0 s.contents.state ≡ true) (sym c.hash-hash.ensures) (wanted_needed s.contents.state job (hash_of w) (size_of w) at.0.wanted)

pub invariant_of-self : goal.invariant_of-self
invariant_of-self g c =
    let d = g.D.Disk in
    let s = c.self.inside in
    let was = c.args.self.now in
    let job = c.args.job in
    let w = c.in-Some-take_file.writing in
    let files = files_idle d.reads d.may_leave d.moment d.left_since g.met.D.Disk.as_it_reads s.start.value s.disk s.log s.contents s.counts s.pending s.started.items (vec_capacity s.started) was c.self.view_is c.requires.settled c.self.invariant in
    let at = file_found (d.reads s.disk) s.contents.state (λ h. sealed_of s.counts h) None job s.started.items w (sym c.in-Some-take_file.ensures.found) files in
    let new = c.seal.new.disk in
    let same = c.seal.ensures.same in
    let silent = λ (none : d.reads s.disk ≡ None). same ∙ none in
    let others = λ (q : List ℕ) (left : File) (ne : q ≢ place_of w) (l : d.may_leave new q left). c.seal.ensures.stop q left l in
    let fewer = subst (λ (r : Option Files). AreStarted r s.contents.state (λ h. sealed_of s.counts h) None (without_file job s.started.items)) (sym same)
    (files_fewer (d.reads s.disk) s.contents.state (λ h. sealed_of s.counts h) (λ (file : ℕ × Writing). not (file.0 == job)) s.started.items files) in
    let counts = c.seal-in-Ok.new.counts in
    let seals : SealsIt (hash_of w) (size_of w) (λ h. sealed_of s.counts h) (λ h. sealed_of counts h) =
    subst (λ (n : ℕ). SealsIt (hash_of w) n (λ h. sealed_of s.counts h) (λ h. sealed_of counts h)) c.size-size.ensures
    (subst (λ (h : Hash). SealsIt h c.size-size.result (λ h. sealed_of s.counts h) (λ h. sealed_of counts h)) c.hash-hash.ensures c.seal-in-Ok.ensures.seals) in
    sealed_now d.reads d.may_leave d.moment d.left_since g.met.D.Disk.as_it_reads s.start.value s.disk s.log s.contents s.counts s.pending s.started.items (vec_capacity s.started) was c.self.view_is c.requires.settled c.self.invariant new (hash_of w) others silent at.0.bytes at.0.unsealed counts (record { size = size_of w; since = true }) c.take_file.new.started.items (vec_capacity c.take_file.new.started)
    (subst (λ (n : ℕ). 256 ≤ n) (sym c.take_file.ensures.capacity) c.self.invariant.enough)
    c.in-Ok.ensures.sure c.seal-in-Ok.ensures.counted seals
    (subst (λ (xs : List (ℕ × Writing)). AreStarted (d.reads new) s.contents.state (λ h. sealed_of counts h) None xs) (sym c.take_file.ensures.rest)
    (files_sealed (d.reads new) s.contents.state (λ h. sealed_of s.counts h) (λ h. sealed_of counts h) (hash_of w) (size_of w) (without_file job s.started.items) (other_hashes job (hash_of w) (without_file job s.started.items) at.2) seals fewer))

pub invariant_of-self-in-Err-WrongBytes : goal.invariant_of-self-in-Err-WrongBytes
invariant_of-self-in-Err-WrongBytes g c =
    let d = g.D.Disk in
    let s = c.self.inside in
    let was = c.args.self.now in
    let job = c.args.job in
    let w = c.in-Some-take_file.writing in
    let files = files_idle d.reads d.may_leave d.moment d.left_since g.met.D.Disk.as_it_reads s.start.value s.disk s.log s.contents s.counts s.pending s.started.items (vec_capacity s.started) was c.self.view_is c.requires.settled c.self.invariant in
    let at = file_found (d.reads s.disk) s.contents.state (λ h. sealed_of s.counts h) None job s.started.items w (sym c.in-Some-take_file.ensures.found) files in
    let new = c.seal.new.disk in
    let same = c.seal.ensures.same in
    let silent = λ (none : d.reads s.disk ≡ None). same ∙ none in
    let others = λ (q : List ℕ) (left : File) (ne : q ≢ place_of w) (l : d.may_leave new q left). c.seal.ensures.stop q left l in
    let fewer = subst (λ (r : Option Files). AreStarted r s.contents.state (λ h. sealed_of s.counts h) None (without_file job s.started.items)) (sym same)
    (files_fewer (d.reads s.disk) s.contents.state (λ h. sealed_of s.counts h) (λ (file : ℕ × Writing). not (file.0 == job)) s.started.items files) in
    worked d.reads d.may_leave d.moment d.left_since g.met.D.Disk.as_it_reads s.start.value s.disk s.log s.contents s.counts s.pending s.started.items (vec_capacity s.started) was c.self.view_is c.requires.settled c.self.invariant new (hash_of w) others silent at.0.bytes at.0.unsealed c.take_file.new.started.items (vec_capacity c.take_file.new.started)
    (subst (λ (n : ℕ). 256 ≤ n) (sym c.take_file.ensures.capacity) c.self.invariant.enough)
    (subst (λ (xs : List (ℕ × Writing)). AreStarted (d.reads new) s.contents.state (λ h. sealed_of s.counts h) None xs) (sym c.take_file.ensures.rest) fewer)

pub invariant_of-self-in-Err-Disk : goal.invariant_of-self-in-Err-Disk
invariant_of-self-in-Err-Disk g c =
    let d = g.D.Disk in
    let s = c.self.inside in
    let was = c.args.self.now in
    let job = c.args.job in
    let w = c.in-Some-take_file.writing in
    let files = files_idle d.reads d.may_leave d.moment d.left_since g.met.D.Disk.as_it_reads s.start.value s.disk s.log s.contents s.counts s.pending s.started.items (vec_capacity s.started) was c.self.view_is c.requires.settled c.self.invariant in
    let at = file_found (d.reads s.disk) s.contents.state (λ h. sealed_of s.counts h) None job s.started.items w (sym c.in-Some-take_file.ensures.found) files in
    let new = c.seal.new.disk in
    let same = c.seal.ensures.same in
    let silent = λ (none : d.reads s.disk ≡ None). same ∙ none in
    let others = λ (q : List ℕ) (left : File) (ne : q ≢ place_of w) (l : d.may_leave new q left). c.seal.ensures.stop q left l in
    let fewer = subst (λ (r : Option Files). AreStarted r s.contents.state (λ h. sealed_of s.counts h) None (without_file job s.started.items)) (sym same)
    (files_fewer (d.reads s.disk) s.contents.state (λ h. sealed_of s.counts h) (λ (file : ℕ × Writing). not (file.0 == job)) s.started.items files) in
    worked d.reads d.may_leave d.moment d.left_since g.met.D.Disk.as_it_reads s.start.value s.disk s.log s.contents s.counts s.pending s.started.items (vec_capacity s.started) was c.self.view_is c.requires.settled c.self.invariant new (hash_of w) others silent at.0.bytes at.0.unsealed c.take_file.new.started.items (vec_capacity c.take_file.new.started)
    (subst (λ (n : ℕ). 256 ≤ n) (sym c.take_file.ensures.capacity) c.self.invariant.enough)
    (subst (λ (xs : List (ℕ × Writing)). AreStarted (d.reads new) s.contents.state (λ h. sealed_of s.counts h) None xs) (sym c.take_file.ensures.rest) fewer)

pub returns-in-Ok-clause-sealed : goal.returns-in-Ok-clause-sealed
returns-in-Ok-clause-sealed g c x is =
    let d = g.D.Disk in
    let s = c.self.inside in
    let was = c.args.self.now in
    let job = c.args.job in
    let w = c.in-Some-take_file.writing in
    let counts = c.seal-in-Ok.new.counts in
    let seals : SealsIt (hash_of w) (size_of w) (λ h. sealed_of s.counts h) (λ h. sealed_of counts h) =
    subst (λ (n : ℕ). SealsIt (hash_of w) n (λ h. sealed_of s.counts h) (λ h. sealed_of counts h)) c.size-size.ensures
    (subst (λ (h : Hash). SealsIt h c.size-size.result (λ h. sealed_of s.counts h) (λ h. sealed_of counts h)) c.hash-hash.ensures c.seal-in-Ok.ensures.seals) in
    let same : w ≡ x = same_Some w x (c.in-Some-take_file.ensures.found ∙ ap (λ (v : Seen g.row.D.Denot). started_by job v.started) c.self.view_is ∙ is) in
    subst (λ (y : Writing). AreRight y × SealsIt (hash_of y) (size_of y) (seal_at was.seals) (seal_at (seals_in counts))) same (
      c.in-Ok.ensures.right,
      λ other.
          let seal : Seal = record { size = size_of w; since = true } in
          ap (λ (f : Hash → Option Seal). f other) (sym (seals_are counts)) ∙ seals other
          ∙ ap (λ (o : Option Seal). cond (bytes_eq (hash_of w).0 other.0) (Some seal) o) (ap (λ (f : Hash → Option Seal). f other) (seals_are s.counts) ∙ ap (λ (v : Seen g.row.D.Denot). seal_at v.seals other) c.self.view_is),
    )

pub returns-in-Ok-clause-stands : goal.returns-in-Ok-clause-stands
returns-in-Ok-clause-stands g c =
    let d = g.D.Disk in
    let s = c.self.inside in
    let was = c.args.self.now in
    let w = c.in-Some-take_file.writing in
    work_stands d.reads d.may_leave d.moment d.left_since g.met.D.Disk.as_it_reads s.start.value s.disk s.log s.contents s.counts s.pending s.started.items (vec_capacity s.started) was c.self.view_is c.requires.settled c.self.invariant c.seal.new.disk (hash_of w) (run_alone d.moment d.left_since s.disk c.seal.new.disk (d.may_leave s.disk) (place_of w) c.seal.ensures.run)

pub returns-in-Ok-clause-opens : goal.returns-in-Ok-clause-opens
returns-in-Ok-clause-opens g c =
    let d = g.D.Disk in
    let s = c.self.inside in
    let was = c.args.self.now in
    let job = c.args.job in
    let w = c.in-Some-take_file.writing in
    let files = files_idle d.reads d.may_leave d.moment d.left_since g.met.D.Disk.as_it_reads s.start.value s.disk s.log s.contents s.counts s.pending s.started.items (vec_capacity s.started) was c.self.view_is c.requires.settled c.self.invariant in
    let at = file_found (d.reads s.disk) s.contents.state (λ h. sealed_of s.counts h) None job s.started.items w (sym c.in-Some-take_file.ensures.found) files in
    work_opens d.reads d.may_leave d.moment d.left_since g.met.D.Disk.as_it_reads s.start.value s.disk s.log s.contents s.counts s.pending s.started.items (vec_capacity s.started) was c.self.view_is c.requires.settled c.self.invariant c.seal.new.disk (hash_of w) (run_alone d.moment d.left_since s.disk c.seal.new.disk (d.may_leave s.disk) (place_of w) c.seal.ensures.run) at.0.bytes at.0.unsealed

pub returns-in-Err-WrongBytes-clause-stands : goal.returns-in-Err-WrongBytes-clause-stands
returns-in-Err-WrongBytes-clause-stands g c =
    let d = g.D.Disk in
    let s = c.self.inside in
    let was = c.args.self.now in
    let w = c.in-Some-take_file.writing in
    work_stands d.reads d.may_leave d.moment d.left_since g.met.D.Disk.as_it_reads s.start.value s.disk s.log s.contents s.counts s.pending s.started.items (vec_capacity s.started) was c.self.view_is c.requires.settled c.self.invariant c.seal.new.disk (hash_of w) (run_alone d.moment d.left_since s.disk c.seal.new.disk (d.may_leave s.disk) (place_of w) c.seal.ensures.run)

pub returns-in-Err-WrongBytes-clause-opens : goal.returns-in-Err-WrongBytes-clause-opens
returns-in-Err-WrongBytes-clause-opens g c =
    let d = g.D.Disk in
    let s = c.self.inside in
    let was = c.args.self.now in
    let job = c.args.job in
    let w = c.in-Some-take_file.writing in
    let files = files_idle d.reads d.may_leave d.moment d.left_since g.met.D.Disk.as_it_reads s.start.value s.disk s.log s.contents s.counts s.pending s.started.items (vec_capacity s.started) was c.self.view_is c.requires.settled c.self.invariant in
    let at = file_found (d.reads s.disk) s.contents.state (λ h. sealed_of s.counts h) None job s.started.items w (sym c.in-Some-take_file.ensures.found) files in
    work_opens d.reads d.may_leave d.moment d.left_since g.met.D.Disk.as_it_reads s.start.value s.disk s.log s.contents s.counts s.pending s.started.items (vec_capacity s.started) was c.self.view_is c.requires.settled c.self.invariant c.seal.new.disk (hash_of w) (run_alone d.moment d.left_since s.disk c.seal.new.disk (d.may_leave s.disk) (place_of w) c.seal.ensures.run) at.0.bytes at.0.unsealed

pub returns-in-Err-Disk-clause-stands : goal.returns-in-Err-Disk-clause-stands
returns-in-Err-Disk-clause-stands g c =
    let d = g.D.Disk in
    let s = c.self.inside in
    let was = c.args.self.now in
    let w = c.in-Some-take_file.writing in
    work_stands d.reads d.may_leave d.moment d.left_since g.met.D.Disk.as_it_reads s.start.value s.disk s.log s.contents s.counts s.pending s.started.items (vec_capacity s.started) was c.self.view_is c.requires.settled c.self.invariant c.seal.new.disk (hash_of w) (run_alone d.moment d.left_since s.disk c.seal.new.disk (d.may_leave s.disk) (place_of w) c.seal.ensures.run)

pub returns-in-Err-Disk-clause-opens : goal.returns-in-Err-Disk-clause-opens
returns-in-Err-Disk-clause-opens g c =
    let d = g.D.Disk in
    let s = c.self.inside in
    let was = c.args.self.now in
    let job = c.args.job in
    let w = c.in-Some-take_file.writing in
    let files = files_idle d.reads d.may_leave d.moment d.left_since g.met.D.Disk.as_it_reads s.start.value s.disk s.log s.contents s.counts s.pending s.started.items (vec_capacity s.started) was c.self.view_is c.requires.settled c.self.invariant in
    let at = file_found (d.reads s.disk) s.contents.state (λ h. sealed_of s.counts h) None job s.started.items w (sym c.in-Some-take_file.ensures.found) files in
    work_opens d.reads d.may_leave d.moment d.left_since g.met.D.Disk.as_it_reads s.start.value s.disk s.log s.contents s.counts s.pending s.started.items (vec_capacity s.started) was c.self.view_is c.requires.settled c.self.invariant c.seal.new.disk (hash_of w) (run_alone d.moment d.left_since s.disk c.seal.new.disk (d.may_leave s.disk) (place_of w) c.seal.ensures.run) at.0.bytes at.0.unsealed
