use Rattle.std.proofs.Common.{ℕ, List, ap}
use Rattle.std.specs.Prelude.{Option, Ok, Err, Result}
use Rattle.cm_library.specs.Purging.{TellsLoose}
use Rattle.cm_state.specs.declared.fault.LibFault.{LibFault}
use Rattle.cm_check.proofs.Resting.{call_opens}
use Rattle.cm_check.proofs.Told.{worked}
use Rattle.cm_check.proofs.listing.next_loose.Goals as goal

pub returns-in-Ok : goal.returns-in-Ok
returns-in-Ok g c =
    let d = g.D.Disk in
    let old = c.args.library.now in
    let new = c.next_loose.new.self in
    let does = worked d.reads (λ started. started) (λ mid then. TellsLoose d.reads c.args.after mid then (Ok c.in-Ok.next)) old new (Ok c.in-Ok.next) c.requires.settled c.in-Ok.ensures.call in
    record {
      next = does.next;
      above = does.above;
      nearer = does.nearer;
      looks = record { rows = does.rows; seals = does.seals; started = does.started; same = does.same };
      opens = call_opens d.reads d.may_leave d.moment d.left_since old new c.requires.settled c.tells.ensures.files c.next_loose.ensures.opens;
      cause = record { later = c.next_loose.ensures.later; failed = tt };
    }

pub returns-in-Err : goal.returns-in-Err
returns-in-Err g c =
    let d = g.D.Disk in
    let old = c.args.library.now in
    let new = c.next_loose.new.self in
    let does = worked d.reads (λ started. started) (λ mid then. TellsLoose d.reads c.args.after mid then (Err c.in-Err.field-0)) old new (Err c.in-Err.field-0) c.requires.settled c.in-Err.ensures.call in
    record {
      next = tt;
      above = tt;
      nearer = tt;
      looks = record { rows = does.rows; seals = does.seals; started = does.started; same = does.same };
      opens = call_opens d.reads d.may_leave d.moment d.left_since old new c.requires.settled c.tells.ensures.files c.next_loose.ensures.opens;
      cause = record { later = c.next_loose.ensures.later; failed = c.in-Err.ensures.cause (ap (λ (f : LibFault). let r : Result (Option (List ℕ)) LibFault = Err f in r) does.refused) };
    }
