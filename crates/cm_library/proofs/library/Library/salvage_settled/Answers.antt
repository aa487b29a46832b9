use Rattle.std.proofs.Common.{◌≡◌, ℕ, ◌≤◌, true, List, sym, ◌∙◌, ap, subst}
use Rattle.std.specs.Prelude.{◌≢◌, ◌==◌, ◌&&◌, cond, not, Option, None, Some, vec_capacity}
use Rattle.std.proofs.lemmas.Option.{none-some, same_Some}
use Rattle.cm_base.specs.declared.hash.Hash.{Hash}
use Rattle.cm_disk.specs.Disk.{File, Files}
use Rattle.cm_pkglib.specs.declared.counts.Seal.{Seal}
use Rattle.cm_pkglib.specs.Counts.{sealed_of, seals_in, seal_at}
use Rattle.cm_pkglib.proofs.Times.{seals_are}
use Rattle.std.specs.Str.{bytes_eq}
use Rattle.cm_filelib.specs.declared.writing.Writing.{Writing}
use Rattle.cm_filelib.specs.Places.{file_place}
use Rattle.cm_filelib.specs.Writings.{hash_of}
use Rattle.cm_contents.specs.Seals.{job_manifest}
use Rattle.cm_contents.specs.Wants.{size_in}
use Rattle.cm_library.specs.Kept.{Seen}
use Rattle.cm_library.specs.Started.{AreStarted, holder_of, without_own}
use Rattle.cm_library.proofs.AnyMoment.{no_change}
use Rattle.cm_library.proofs.FileCalls.{run_alone}
use Rattle.cm_library.proofs.Refused.{refused_stands, refused_opens}
use Rattle.cm_library.proofs.SettledCalls.{may_salvage, files_idle, unsealed_in, unsealed_out, none_there, some_none, worked, sealed_now, work_stands, work_opens}
use Rattle.cm_library.proofs.StartedFiles.{files_fewer, files_sealed, own_apart, wanted_needed}
use Rattle.cm_library.proofs.library.Library.salvage_settled.Goals as goal

pub returns-in-Err-clause-stands : goal.returns-in-Err-clause-stands
returns-in-Err-clause-stands g c =
    let d = g.D.Disk in
    let s = c.self.inside in
    let was = c.args.self.now in
    refused_stands d.reads d.may_leave d.moment d.left_since g.met.D.Disk.only_now s.start.value s.disk s.log s.contents s.counts s.pending s.started.items was no_change c.self.view_is c.requires.settled c.self.invariant.kept was.disk (ap (λ (v : Seen g.row.D.Denot). v.disk) c.self.view_is)

pub returns-in-Err-clause-opens : goal.returns-in-Err-clause-opens
returns-in-Err-clause-opens g c =
    let d = g.D.Disk in
    let s = c.self.inside in
    let was = c.args.self.now in
    refused_opens d.reads d.may_leave d.moment d.left_since g.met.D.Disk.only_now s.start.value s.disk s.log s.contents s.counts s.pending s.started.items was no_change c.self.view_is c.requires.settled c.self.invariant.kept was.disk (ap (λ (v : Seen g.row.D.Denot). v.disk) c.self.view_is)

pub returns-then-is_some-clause-stands : goal.returns-then-is_some-clause-stands
returns-then-is_some-clause-stands g c =
    let d = g.D.Disk in
    let s = c.self.inside in
    let was = c.args.self.now in
    refused_stands d.reads d.may_leave d.moment d.left_since g.met.D.Disk.only_now s.start.value s.disk s.log s.contents s.counts s.pending s.started.items was no_change c.self.view_is c.requires.settled c.self.invariant.kept was.disk (ap (λ (v : Seen g.row.D.Denot). v.disk) c.self.view_is)

pub returns-then-is_some-clause-opens : goal.returns-then-is_some-clause-opens
returns-then-is_some-clause-opens g c =
    let d = g.D.Disk in
    let s = c.self.inside in
    let was = c.args.self.now in
    refused_opens d.reads d.may_leave d.moment d.left_since g.met.D.Disk.only_now s.start.value s.disk s.log s.contents s.counts s.pending s.started.items was no_change c.self.view_is c.requires.settled c.self.invariant.kept was.disk (ap (λ (v : Seen g.row.D.Denot). v.disk) c.self.view_is)

pub returns-then-is_some-clause-value : goal.returns-then-is_some-clause-value
returns-then-is_some-clause-value g c none =
    let d = g.D.Disk in
    let s = c.self.inside in
    let was = c.args.self.now in
    absurd (some_none c.sealed.result (sym c.if-is_some.ensures) (c.sealed.ensures ∙ unsealed_in d.reads d.may_leave d.moment d.left_since g.met.D.Disk.as_it_reads s.start.value s.disk s.log s.contents s.counts s.pending s.started.items (vec_capacity s.started) was c.self.view_is c.requires.settled c.self.invariant c.args.hash none))

pub returns-then-is_some-clause-sealed : goal.returns-then-is_some-clause-sealed
returns-then-is_some-clause-sealed g c right none =
    let d = g.D.Disk in
    let s = c.self.inside in
    let was = c.args.self.now in
    absurd (some_none c.sealed.result (sym c.if-is_some.ensures) (c.sealed.ensures ∙ unsealed_in d.reads d.may_leave d.moment d.left_since g.met.D.Disk.as_it_reads s.start.value s.disk s.log s.contents s.counts s.pending s.started.items (vec_capacity s.started) was c.self.view_is c.requires.settled c.self.invariant c.args.hash none))

pub returns-then-is_some-clause-started : goal.returns-then-is_some-clause-started
returns-then-is_some-clause-started g c free none =
    let d = g.D.Disk in
    let s = c.self.inside in
    let was = c.args.self.now in
    absurd (some_none c.sealed.result (sym c.if-is_some.ensures) (c.sealed.ensures ∙ unsealed_in d.reads d.may_leave d.moment d.left_since g.met.D.Disk.as_it_reads s.start.value s.disk s.log s.contents s.counts s.pending s.started.items (vec_capacity s.started) was c.self.view_is c.requires.settled c.self.invariant c.args.hash none))

pub seal-requires-clause-needed : goal.seal-requires-clause-needed
seal-requires-clause-needed g c =
    let d = g.D.Disk in
    let s = c.self.inside in
    let was = c.args.self.now in
    let job = c.args.job in
    let hash = c.args.hash in
    let files = files_idle d.reads d.may_leave d.moment d.left_since g.met.D.Disk.as_it_reads s.start.value s.disk s.log s.contents s.counts s.pending s.started.items (vec_capacity s.started) was c.self.view_is c.requires.settled c.self.invariant in
    let free : holder_of job hash s.started.items ≡ None = ap (λ (v : Seen g.row.D.Denot). holder_of job hash v.started) c.self.view_is ∙ may_salvage was.state was.started job hash c.in-Ok.ensures.wanted.0 in
    let wanted : size_in hash (job_manifest job s.contents.state) ≡ Some c.in-Ok.size = ap (λ (v : Seen g.row.D.Denot). size_in hash (job_manifest job v.state)) c.self.view_is ∙ c.in-Ok.ensures.wanted.1 in
    let unsealed : sealed_of s.counts hash ≡ None = sym c.sealed.ensures ∙ none_there c.sealed.result (sym c.if-is_some.ensures) in
    wanted_needed s.contents.state job hash c.in-Ok.size wanted

pub invariant_of-self : goal.invariant_of-self
invariant_of-self g c =
    let d = g.D.Disk in
    let s = c.self.inside in
    let was = c.args.self.now in
    let job = c.args.job in
    let hash = c.args.hash in
    let files = files_idle d.reads d.may_leave d.moment d.left_since g.met.D.Disk.as_it_reads s.start.value s.disk s.log s.contents s.counts s.pending s.started.items (vec_capacity s.started) was c.self.view_is c.requires.settled c.self.invariant in
    let free : holder_of job hash s.started.items ≡ None = ap (λ (v : Seen g.row.D.Denot). holder_of job hash v.started) c.self.view_is ∙ may_salvage was.state was.started job hash c.in-Ok.ensures.wanted.0 in
    let wanted : size_in hash (job_manifest job s.contents.state) ≡ Some c.in-Ok.size = ap (λ (v : Seen g.row.D.Denot). size_in hash (job_manifest job v.state)) c.self.view_is ∙ c.in-Ok.ensures.wanted.1 in
    let unsealed : sealed_of s.counts hash ≡ None = sym c.sealed.ensures ∙ none_there c.sealed.result (sym c.if-is_some.ensures) in
    let new = c.salvage.new.disk in
    let same = c.salvage.ensures.same in
    let silent = λ (none : d.reads s.disk ≡ None). same ∙ none in
    let others = λ (q : List ℕ) (left : File) (ne : q ≢ file_place hash.0) (l : d.may_leave new q left). c.salvage.ensures.stop q left l in
    let fewer = subst (λ (r : Option Files). AreStarted r s.contents.state (λ h. sealed_of s.counts h) None (without_own job hash s.started.items)) (sym same)
    (files_fewer (d.reads s.disk) s.contents.state (λ h. sealed_of s.counts h) (λ (file : ℕ × Writing). not (file.0 == job && bytes_eq (hash_of file.1).0 hash.0)) s.started.items files) in
    let counts = c.seal.new.counts in
    sealed_now d.reads d.may_leave d.moment d.left_since g.met.D.Disk.as_it_reads s.start.value s.disk s.log s.contents s.counts s.pending s.started.items (vec_capacity s.started) was c.self.view_is c.requires.settled c.self.invariant new hash others silent c.show_bytes.ensures.bytes unsealed counts (record { size = c.in-Ok.size; since = true }) c.leave_own.new.started.items (vec_capacity c.leave_own.new.started)
    (subst (λ (n : ℕ). 256 ≤ n) (sym c.leave_own.ensures.capacity) c.self.invariant.enough)
    (c.in-Ok-true.ensures.sure c.in-Ok-true.field-0-test) c.seal.ensures.counted c.seal.ensures.seals
    (subst (λ (xs : List (ℕ × Writing)). AreStarted (d.reads new) s.contents.state (λ h. sealed_of counts h) None xs) (sym c.leave_own.ensures.rest)
    (files_sealed (d.reads new) s.contents.state (λ h. sealed_of s.counts h) (λ h. sealed_of counts h) hash c.in-Ok.size (without_own job hash s.started.items) (own_apart job hash s.started.items free) c.seal.ensures.seals fewer))

pub invariant_of-self-in-Ok-false : goal.invariant_of-self-in-Ok-false
invariant_of-self-in-Ok-false g c =
    let d = g.D.Disk in
    let s = c.self.inside in
    let was = c.args.self.now in
    let job = c.args.job in
    let hash = c.args.hash in
    let files = files_idle d.reads d.may_leave d.moment d.left_since g.met.D.Disk.as_it_reads s.start.value s.disk s.log s.contents s.counts s.pending s.started.items (vec_capacity s.started) was c.self.view_is c.requires.settled c.self.invariant in
    let free : holder_of job hash s.started.items ≡ None = ap (λ (v : Seen g.row.D.Denot). holder_of job hash v.started) c.self.view_is ∙ may_salvage was.state was.started job hash c.in-Ok.ensures.wanted.0 in
    let wanted : size_in hash (job_manifest job s.contents.state) ≡ Some c.in-Ok.size = ap (λ (v : Seen g.row.D.Denot). size_in hash (job_manifest job v.state)) c.self.view_is ∙ c.in-Ok.ensures.wanted.1 in
    let unsealed : sealed_of s.counts hash ≡ None = sym c.sealed.ensures ∙ none_there c.sealed.result (sym c.if-is_some.ensures) in
    let new = c.salvage.new.disk in
    let same = c.salvage.ensures.same in
    let silent = λ (none : d.reads s.disk ≡ None). same ∙ none in
    let others = λ (q : List ℕ) (left : File) (ne : q ≢ file_place hash.0) (l : d.may_leave new q left). c.salvage.ensures.stop q left l in
    let fewer = subst (λ (r : Option Files). AreStarted r s.contents.state (λ h. sealed_of s.counts h) None (without_own job hash s.started.items)) (sym same)
    (files_fewer (d.reads s.disk) s.contents.state (λ h. sealed_of s.counts h) (λ (file : ℕ × Writing). not (file.0 == job && bytes_eq (hash_of file.1).0 hash.0)) s.started.items files) in
    worked d.reads d.may_leave d.moment d.left_since g.met.D.Disk.as_it_reads s.start.value s.disk s.log s.contents s.counts s.pending s.started.items (vec_capacity s.started) was c.self.view_is c.requires.settled c.self.invariant new hash others silent c.show_bytes.ensures.bytes unsealed c.leave_own.new.started.items (vec_capacity c.leave_own.new.started)
    (subst (λ (n : ℕ). 256 ≤ n) (sym c.leave_own.ensures.capacity) c.self.invariant.enough)
    (subst (λ (xs : List (ℕ × Writing)). AreStarted (d.reads new) s.contents.state (λ h. sealed_of s.counts h) None xs) (sym c.leave_own.ensures.rest) fewer)

pub invariant_of-self-in-Err-salvage : goal.invariant_of-self-in-Err-salvage
invariant_of-self-in-Err-salvage g c =
    let d = g.D.Disk in
    let s = c.self.inside in
    let was = c.args.self.now in
    let job = c.args.job in
    let hash = c.args.hash in
    let files = files_idle d.reads d.may_leave d.moment d.left_since g.met.D.Disk.as_it_reads s.start.value s.disk s.log s.contents s.counts s.pending s.started.items (vec_capacity s.started) was c.self.view_is c.requires.settled c.self.invariant in
    let free : holder_of job hash s.started.items ≡ None = ap (λ (v : Seen g.row.D.Denot). holder_of job hash v.started) c.self.view_is ∙ may_salvage was.state was.started job hash c.in-Ok.ensures.wanted.0 in
    let wanted : size_in hash (job_manifest job s.contents.state) ≡ Some c.in-Ok.size = ap (λ (v : Seen g.row.D.Denot). size_in hash (job_manifest job v.state)) c.self.view_is ∙ c.in-Ok.ensures.wanted.1 in
    let unsealed : sealed_of s.counts hash ≡ None = sym c.sealed.ensures ∙ none_there c.sealed.result (sym c.if-is_some.ensures) in
    let new = c.salvage.new.disk in
    let same = c.salvage.ensures.same in
    let silent = λ (none : d.reads s.disk ≡ None). same ∙ none in
    let others = λ (q : List ℕ) (left : File) (ne : q ≢ file_place hash.0) (l : d.may_leave new q left). c.salvage.ensures.stop q left l in
    let fewer = subst (λ (r : Option Files). AreStarted r s.contents.state (λ h. sealed_of s.counts h) None (without_own job hash s.started.items)) (sym same)
    (files_fewer (d.reads s.disk) s.contents.state (λ h. sealed_of s.counts h) (λ (file : ℕ × Writing). not (file.0 == job && bytes_eq (hash_of file.1).0 hash.0)) s.started.items files) in
    worked d.reads d.may_leave d.moment d.left_since g.met.D.Disk.as_it_reads s.start.value s.disk s.log s.contents s.counts s.pending s.started.items (vec_capacity s.started) was c.self.view_is c.requires.settled c.self.invariant new hash others silent c.show_bytes.ensures.bytes unsealed c.leave_own.new.started.items (vec_capacity c.leave_own.new.started)
    (subst (λ (n : ℕ). 256 ≤ n) (sym c.leave_own.ensures.capacity) c.self.invariant.enough)
    (subst (λ (xs : List (ℕ × Writing)). AreStarted (d.reads new) s.contents.state (λ h. sealed_of s.counts h) None xs) (sym c.leave_own.ensures.rest) fewer)

pub returns-in-Err-clause-was_sealed : goal.returns-in-Err-clause-was_sealed
returns-in-Err-clause-was_sealed g c free_of some = absurd (none-some c.in-Err.fault (sym free_of ∙ c.in-Err.ensures.refused))

pub returns-in-Err-salvage-clause-was_sealed : goal.returns-in-Err-salvage-clause-was_sealed
returns-in-Err-salvage-clause-was_sealed g c free_of some =
    let d = g.D.Disk in
    let s = c.self.inside in
    let was = c.args.self.now in
    let unsealed : sealed_of s.counts c.args.hash ≡ None = sym c.sealed.ensures ∙ none_there c.sealed.result (sym c.if-is_some.ensures) in
    absurd (some (unsealed_out d.reads d.may_leave d.moment d.left_since g.met.D.Disk.as_it_reads s.start.value s.disk s.log s.contents s.counts s.pending s.started.items (vec_capacity s.started) was c.self.view_is c.requires.settled c.self.invariant c.args.hash unsealed))

pub returns-in-Ok-true-clause-was_sealed : goal.returns-in-Ok-true-clause-was_sealed
returns-in-Ok-true-clause-was_sealed g c free_of some =
    let d = g.D.Disk in
    let s = c.self.inside in
    let was = c.args.self.now in
    let job = c.args.job in
    let hash = c.args.hash in
    let files = files_idle d.reads d.may_leave d.moment d.left_since g.met.D.Disk.as_it_reads s.start.value s.disk s.log s.contents s.counts s.pending s.started.items (vec_capacity s.started) was c.self.view_is c.requires.settled c.self.invariant in
    let free : holder_of job hash s.started.items ≡ None = ap (λ (v : Seen g.row.D.Denot). holder_of job hash v.started) c.self.view_is ∙ may_salvage was.state was.started job hash c.in-Ok.ensures.wanted.0 in
    let wanted : size_in hash (job_manifest job s.contents.state) ≡ Some c.in-Ok.size = ap (λ (v : Seen g.row.D.Denot). size_in hash (job_manifest job v.state)) c.self.view_is ∙ c.in-Ok.ensures.wanted.1 in
    let unsealed : sealed_of s.counts hash ≡ None = sym c.sealed.ensures ∙ none_there c.sealed.result (sym c.if-is_some.ensures) in
    absurd (some (unsealed_out d.reads d.may_leave d.moment d.left_since g.met.D.Disk.as_it_reads s.start.value s.disk s.log s.contents s.counts s.pending s.started.items (vec_capacity s.started) was c.self.view_is c.requires.settled c.self.invariant hash unsealed))

pub returns-in-Ok-false-clause-was_sealed : goal.returns-in-Ok-false-clause-was_sealed
returns-in-Ok-false-clause-was_sealed g c free_of some =
    let d = g.D.Disk in
    let s = c.self.inside in
    let was = c.args.self.now in
    let job = c.args.job in
    let hash = c.args.hash in
    let files = files_idle d.reads d.may_leave d.moment d.left_since g.met.D.Disk.as_it_reads s.start.value s.disk s.log s.contents s.counts s.pending s.started.items (vec_capacity s.started) was c.self.view_is c.requires.settled c.self.invariant in
    let free : holder_of job hash s.started.items ≡ None = ap (λ (v : Seen g.row.D.Denot). holder_of job hash v.started) c.self.view_is ∙ may_salvage was.state was.started job hash c.in-Ok.ensures.wanted.0 in
    let wanted : size_in hash (job_manifest job s.contents.state) ≡ Some c.in-Ok.size = ap (λ (v : Seen g.row.D.Denot). size_in hash (job_manifest job v.state)) c.self.view_is ∙ c.in-Ok.ensures.wanted.1 in
    let unsealed : sealed_of s.counts hash ≡ None = sym c.sealed.ensures ∙ none_there c.sealed.result (sym c.if-is_some.ensures) in
    absurd (some (unsealed_out d.reads d.may_leave d.moment d.left_since g.met.D.Disk.as_it_reads s.start.value s.disk s.log s.contents s.counts s.pending s.started.items (vec_capacity s.started) was c.self.view_is c.requires.settled c.self.invariant hash unsealed))

pub returns-in-Ok-true-clause-sealed : goal.returns-in-Ok-true-clause-sealed
returns-in-Ok-true-clause-sealed g c right none size is other =
    let d = g.D.Disk in
    let s = c.self.inside in
    let was = c.args.self.now in
    let hash = c.args.hash in
    let seal : Seal = record { size = c.in-Ok.size; since = true } in
    subst (λ (n : ℕ). seal_at (seals_in c.seal.new.counts) other ≡ cond (bytes_eq hash.0 other.0) (Some (let x : Seal = record { size = n; since = true } in x)) (seal_at was.seals other)) (same_Some c.in-Ok.size size (sym c.in-Ok.ensures.wanted.1 ∙ is))
    (ap (λ (f : Hash → Option Seal). f other) (sym (seals_are c.seal.new.counts))
    ∙ c.seal.ensures.seals other
    ∙ ap (λ (o : Option Seal). cond (bytes_eq hash.0 other.0) (Some seal) o) (ap (λ (f : Hash → Option Seal). f other) (seals_are s.counts) ∙ ap (λ (v : Seen g.row.D.Denot). seal_at v.seals other) c.self.view_is))

pub returns-in-Ok-true-clause-stands : goal.returns-in-Ok-true-clause-stands
returns-in-Ok-true-clause-stands g c =
    let d = g.D.Disk in
    let s = c.self.inside in
    let was = c.args.self.now in
    let hash = c.args.hash in
    work_stands d.reads d.may_leave d.moment d.left_since g.met.D.Disk.as_it_reads s.start.value s.disk s.log s.contents s.counts s.pending s.started.items (vec_capacity s.started) was c.self.view_is c.requires.settled c.self.invariant c.salvage.new.disk hash (run_alone d.moment d.left_since s.disk c.salvage.new.disk (d.may_leave s.disk) (file_place hash.0) c.salvage.ensures.run)

pub returns-in-Ok-true-clause-opens : goal.returns-in-Ok-true-clause-opens
returns-in-Ok-true-clause-opens g c =
    let d = g.D.Disk in
    let s = c.self.inside in
    let was = c.args.self.now in
    let job = c.args.job in
    let hash = c.args.hash in
    let files = files_idle d.reads d.may_leave d.moment d.left_since g.met.D.Disk.as_it_reads s.start.value s.disk s.log s.contents s.counts s.pending s.started.items (vec_capacity s.started) was c.self.view_is c.requires.settled c.self.invariant in
    let free : holder_of job hash s.started.items ≡ None = ap (λ (v : Seen g.row.D.Denot). holder_of job hash v.started) c.self.view_is ∙ may_salvage was.state was.started job hash c.in-Ok.ensures.wanted.0 in
    let wanted : size_in hash (job_manifest job s.contents.state) ≡ Some c.in-Ok.size = ap (λ (v : Seen g.row.D.Denot). size_in hash (job_manifest job v.state)) c.self.view_is ∙ c.in-Ok.ensures.wanted.1 in
    let unsealed : sealed_of s.counts hash ≡ None = sym c.sealed.ensures ∙ none_there c.sealed.result (sym c.if-is_some.ensures) in
    work_opens d.reads d.may_leave d.moment d.left_since g.met.D.Disk.as_it_reads s.start.value s.disk s.log s.contents s.counts s.pending s.started.items (vec_capacity s.started) was c.self.view_is c.requires.settled c.self.invariant c.salvage.new.disk hash (run_alone d.moment d.left_since s.disk c.salvage.new.disk (d.may_leave s.disk) (file_place hash.0) c.salvage.ensures.run) c.show_bytes.ensures.bytes unsealed

pub returns-in-Ok-false-clause-stands : goal.returns-in-Ok-false-clause-stands
returns-in-Ok-false-clause-stands g c =
    let d = g.D.Disk in
    let s = c.self.inside in
    let was = c.args.self.now in
    let hash = c.args.hash in
    work_stands d.reads d.may_leave d.moment d.left_since g.met.D.Disk.as_it_reads s.start.value s.disk s.log s.contents s.counts s.pending s.started.items (vec_capacity s.started) was c.self.view_is c.requires.settled c.self.invariant c.salvage.new.disk hash (run_alone d.moment d.left_since s.disk c.salvage.new.disk (d.may_leave s.disk) (file_place hash.0) c.salvage.ensures.run)

pub returns-in-Ok-false-clause-opens : goal.returns-in-Ok-false-clause-opens
returns-in-Ok-false-clause-opens g c =
    let d = g.D.Disk in
    let s = c.self.inside in
    let was = c.args.self.now in
    let job = c.args.job in
    let hash = c.args.hash in
    let files = files_idle d.reads d.may_leave d.moment d.left_since g.met.D.Disk.as_it_reads s.start.value s.disk s.log s.contents s.counts s.pending s.started.items (vec_capacity s.started) was c.self.view_is c.requires.settled c.self.invariant in
    let free : holder_of job hash s.started.items ≡ None = ap (λ (v : Seen g.row.D.Denot). holder_of job hash v.started) c.self.view_is ∙ may_salvage was.state was.started job hash c.in-Ok.ensures.wanted.0 in
    let wanted : size_in hash (job_manifest job s.contents.state) ≡ Some c.in-Ok.size = ap (λ (v : Seen g.row.D.Denot). size_in hash (job_manifest job v.state)) c.self.view_is ∙ c.in-Ok.ensures.wanted.1 in
    let unsealed : sealed_of s.counts hash ≡ None = sym c.sealed.ensures ∙ none_there c.sealed.result (sym c.if-is_some.ensures) in
    work_opens d.reads d.may_leave d.moment d.left_since g.met.D.Disk.as_it_reads s.start.value s.disk s.log s.contents s.counts s.pending s.started.items (vec_capacity s.started) was c.self.view_is c.requires.settled c.self.invariant c.salvage.new.disk hash (run_alone d.moment d.left_since s.disk c.salvage.new.disk (d.may_leave s.disk) (file_place hash.0) c.salvage.ensures.run) c.show_bytes.ensures.bytes unsealed

pub returns-in-Err-salvage-clause-stands : goal.returns-in-Err-salvage-clause-stands
returns-in-Err-salvage-clause-stands g c =
    let d = g.D.Disk in
    let s = c.self.inside in
    let was = c.args.self.now in
    let hash = c.args.hash in
    work_stands d.reads d.may_leave d.moment d.left_since g.met.D.Disk.as_it_reads s.start.value s.disk s.log s.contents s.counts s.pending s.started.items (vec_capacity s.started) was c.self.view_is c.requires.settled c.self.invariant c.salvage.new.disk hash (run_alone d.moment d.left_since s.disk c.salvage.new.disk (d.may_leave s.disk) (file_place hash.0) c.salvage.ensures.run)

pub returns-in-Err-salvage-clause-opens : goal.returns-in-Err-salvage-clause-opens
returns-in-Err-salvage-clause-opens g c =
    let d = g.D.Disk in
    let s = c.self.inside in
    let was = c.args.self.now in
    let job = c.args.job in
    let hash = c.args.hash in
    let files = files_idle d.reads d.may_leave d.moment d.left_since g.met.D.Disk.as_it_reads s.start.value s.disk s.log s.contents s.counts s.pending s.started.items (vec_capacity s.started) was c.self.view_is c.requires.settled c.self.invariant in
    let free : holder_of job hash s.started.items ≡ None = ap (λ (v : Seen g.row.D.Denot). holder_of job hash v.started) c.self.view_is ∙ may_salvage was.state was.started job hash c.in-Ok.ensures.wanted.0 in
    let wanted : size_in hash (job_manifest job s.contents.state) ≡ Some c.in-Ok.size = ap (λ (v : Seen g.row.D.Denot). size_in hash (job_manifest job v.state)) c.self.view_is ∙ c.in-Ok.ensures.wanted.1 in
    let unsealed : sealed_of s.counts hash ≡ None = sym c.sealed.ensures ∙ none_there c.sealed.result (sym c.if-is_some.ensures) in
    work_opens d.reads d.may_leave d.moment d.left_since g.met.D.Disk.as_it_reads s.start.value s.disk s.log s.contents s.counts s.pending s.started.items (vec_capacity s.started) was c.self.view_is c.requires.settled c.self.invariant c.salvage.new.disk hash (run_alone d.moment d.left_since s.disk c.salvage.new.disk (d.may_leave s.disk) (file_place hash.0) c.salvage.ensures.run) c.show_bytes.ensures.bytes unsealed
