use Rattle.std.proofs.Common.{◌≡◌, length, sym, subst}
use Rattle.std.specs.Prelude.{Ok, Err, IfOk, IsErrOf}
use Rattle.cm_base.specs.declared.job_id.JobId.{JobId}
use Rattle.cm_state.specs.Changes.{Begun, if_allowed}
use Rattle.cm_state.specs.Faults.{begin_fault, Refuses}
use Rattle.cm_intake.specs.Ending.{EndsRefused}
use Rattle.cm_intake.specs.declared.fault.IntakeFault.{IntakeFault}
use Rattle.cm_intake.specs.declared.fault.IntakeFault.TheVariants.{Disk}
use Rattle.cm_intake.proofs.Began.{limit_no_disk, memory_no_disk, has_begun, began_held, began_free, refused_disk, refused_memory, refused_limit, its_fault, is_limit}
use Rattle.cm_intake.proofs.Going.{ended, settled_opens}
use Rattle.cm_intake.proofs.beginning.begin.Goals as goal

pub of_limit-requires : goal.of_limit-requires
of_limit-requires g c =
    let d = g.D.Disk in
    let old = c.args.library.now in
    let new = c.begin.new.self in
    let done = ended d.reads d.may_leave d.moment d.left_since (λ s. Begun s.next c.args.«package» c.args.version c.args.manifest) (λ mid answer. Refuses (begin_fault mid.state mid.end c.args.«package» c.args.version (length c.args.manifest)) answer × IfOk answer (λ job. job ≡ mid.state.next)) old new (Err c.in-Err.fault) c.requires.settled c.in-Err.ensures.call in
    is_limit d.reads d.may_leave d.moment d.left_since c.args.«package» c.args.version c.args.manifest old new c.requires.settled c.tells.ensures.sound c.requires.fresh c.in-Err.fault (its_fault d.reads d.may_leave d.moment d.left_since c.args.«package» c.args.version c.args.manifest old new c.requires.settled c.tells.ensures.sound c.requires.fresh c.in-Err.fault c.in_default.not-Disk c.in_default.not-Memory done)

pub returns-in-Ok-clause-begun : goal.returns-in-Ok-clause-begun
returns-in-Ok-clause-begun g c =
    let d = g.D.Disk in
    let old = c.args.library.now in
    let new = c.begin.new.self in
    let done = ended d.reads d.may_leave d.moment d.left_since (λ s. Begun s.next c.args.«package» c.args.version c.args.manifest) (λ mid answer. Refuses (begin_fault mid.state mid.end c.args.«package» c.args.version (length c.args.manifest)) answer × IfOk answer (λ job. job ≡ mid.state.next)) old new (Ok c.in-Ok.job) c.requires.settled c.in-Ok.ensures.call in
    has_begun d.reads d.may_leave d.moment d.left_since c.args.«package» c.args.version c.args.manifest old new c.requires.settled c.tells.ensures.sound c.requires.fresh c.in-Ok.job done c.requires.sealed c.begin.ensures.places (settled_opens d.reads d.may_leave d.moment d.left_since (λ s. if_allowed (Begun s.next c.args.«package» c.args.version c.args.manifest) s) old new c.requires.settled c.tells.ensures.files c.begin.ensures.opens)

pub returns-in-Ok-clause-held : goal.returns-in-Ok-clause-held
returns-in-Ok-clause-held g c =
    let d = g.D.Disk in
    let old = c.args.library.now in
    let new = c.begin.new.self in
    let done = ended d.reads d.may_leave d.moment d.left_since (λ s. Begun s.next c.args.«package» c.args.version c.args.manifest) (λ mid answer. Refuses (begin_fault mid.state mid.end c.args.«package» c.args.version (length c.args.manifest)) answer × IfOk answer (λ job. job ≡ mid.state.next)) old new (Ok c.in-Ok.job) c.requires.settled c.in-Ok.ensures.call in
    began_held d.reads d.may_leave d.moment d.left_since c.args.«package» c.args.version c.args.manifest old new c.requires.settled c.tells.ensures.sound c.requires.fresh c.in-Ok.job done

pub returns-in-Ok-clause-free : goal.returns-in-Ok-clause-free
returns-in-Ok-clause-free g c =
    let d = g.D.Disk in
    let old = c.args.library.now in
    let new = c.begin.new.self in
    let done = ended d.reads d.may_leave d.moment d.left_since (λ s. Begun s.next c.args.«package» c.args.version c.args.manifest) (λ mid answer. Refuses (begin_fault mid.state mid.end c.args.«package» c.args.version (length c.args.manifest)) answer × IfOk answer (λ job. job ≡ mid.state.next)) old new (Ok c.in-Ok.job) c.requires.settled c.in-Ok.ensures.call in
    began_free d.reads d.may_leave d.moment d.left_since c.args.«package» c.args.version c.args.manifest old new c.requires.settled c.tells.ensures.sound c.requires.fresh c.in-Ok.job done

pub returns-in-Disk-clause-refused : goal.returns-in-Disk-clause-refused
returns-in-Disk-clause-refused g c =
    let d = g.D.Disk in
    let old = c.args.library.now in
    let new = c.begin.new.self in
    let done = ended d.reads d.may_leave d.moment d.left_since (λ s. Begun s.next c.args.«package» c.args.version c.args.manifest) (λ mid answer. Refuses (begin_fault mid.state mid.end c.args.«package» c.args.version (length c.args.manifest)) answer × IfOk answer (λ job. job ≡ mid.state.next)) old new (Err c.in-Err.fault) c.requires.settled c.in-Err.ensures.call in
    refused_disk d.reads d.may_leave d.moment d.left_since c.args.«package» c.args.version c.args.manifest old new c.requires.settled c.tells.ensures.sound c.requires.fresh c.in-Err.fault c.in-Disk.is done (settled_opens d.reads d.may_leave d.moment d.left_since (λ s. if_allowed (Begun s.next c.args.«package» c.args.version c.args.manifest) s) old new c.requires.settled c.tells.ensures.files c.begin.ensures.opens)

pub returns-in-Memory-clause-refused : goal.returns-in-Memory-clause-refused
returns-in-Memory-clause-refused g c =
    let d = g.D.Disk in
    let old = c.args.library.now in
    let new = c.begin.new.self in
    refused_memory d.reads d.may_leave d.moment d.left_since c.args.«package» c.args.version c.args.manifest old new c.requires.settled c.tells.ensures.sound c.requires.fresh g.met.D.Disk.only_now c.tells.ensures.opens (c.in-Err.ensures.unchanged c.requires.settled (λ disk. memory_no_disk c.in-Err.fault c.in-Memory.is disk))

pub returns-in_default : goal.returns-in_default
returns-in_default g c =
    let d = g.D.Disk in
    let old = c.args.library.now in
    let new = c.begin.new.self in
    let fault = c.in-Err.fault in
    let done = ended d.reads d.may_leave d.moment d.left_since (λ s. Begun s.next c.args.«package» c.args.version c.args.manifest) (λ mid answer. Refuses (begin_fault mid.state mid.end c.args.«package» c.args.version (length c.args.manifest)) answer × IfOk answer (λ job. job ≡ mid.state.next)) old new (Err fault) c.requires.settled c.in-Err.ensures.call in
    let limit = its_fault d.reads d.may_leave d.moment d.left_since c.args.«package» c.args.version c.args.manifest old new c.requires.settled c.tells.ensures.sound c.requires.fresh fault c.in_default.not-Disk c.in_default.not-Memory done in
    let same = c.in-Err.ensures.unchanged c.requires.settled c.in_default.not-Disk in
    record {
      begun = tt;
      held = tt;
      settled = tt;
      free = tt;
      refused = subst (λ (told : IntakeFault). EndsRefused d.reads d.may_leave d.moment d.left_since c.args.«package» c.args.version c.args.manifest old new told) (sym c.of_limit.ensures)
          (refused_limit d.reads d.may_leave d.moment d.left_since c.args.«package» c.args.version c.args.manifest old new c.requires.settled c.tells.ensures.sound c.requires.fresh g.met.D.Disk.only_now c.tells.ensures.opens same fault limit);
      places = c.begin.ensures.places;
      later = c.begin.ensures.later;
      cause = λ is. absurd (limit_no_disk _ fault (is_limit d.reads d.may_leave d.moment d.left_since c.args.«package» c.args.version c.args.manifest old new c.requires.settled c.tells.ensures.sound c.requires.fresh fault limit) (subst (λ (told : IntakeFault). IsErrOf {T = JobId} (Err told) Disk) c.of_limit.ensures is));
    }
