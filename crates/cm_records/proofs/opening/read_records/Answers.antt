use Rattle.std.proofs.Common.{◌≡◌, ℕ, List, Err, sym, ◌∙◌, ap, subst}
use Rattle.std.specs.Prelude.{Result, IsErrOf}
use Rattle.cm_log.specs.declared.faults.LogFault.{LogFault}
use Rattle.cm_log.specs.declared.position.LogReader.{LogReader}
use Rattle.cm_log.specs.declared.state.Log.{Log}
use Rattle.cm_log.proofs.Done.{settled_when_done}
use Rattle.cm_log.proofs.Frames.{only_then}
use Rattle.cm_register.specs.Look.{Unreadable as UnreadableRecords}
use Rattle.cm_register.specs.Records.{Records}
use Rattle.cm_state.specs.declared.fault.OpenFault.{OpenFault}
use Rattle.cm_state.specs.declared.fault.OpenFault.TheVariants.{Unreadable}
use Rattle.cm_register.specs.declared.kept.Kept.{Kept}
use Rattle.cm_records.proofs.Naming.{err_is, log_named}
use Rattle.cm_records.proofs.Steps.{look_closed, look_live, look_unread, texts_none, texts_all}
use Rattle.cm_records.proofs.opening.read_records.Goals as goal

pub returns-in-Err-clause-unreadable : goal.returns-in-Err-clause-unreadable
returns-in-Err-clause-unreadable g c place at is x told =
    let fault = log_named {T = Log × Records} c.in-Err.fault place at (subst (λ (e : OpenFault). IsErrOf {T = Log × Records} (Err e) (Unreadable place at)) c.of_log.ensures is) in
    look_unread x place at (c.in-Err.ensures.unreadable place at (ap (λ (f : LogFault). let r : Result LogReader LogFault = Err f in r) fault) x told)

pub returns-in-Err-read_kept-clause-unreadable : goal.returns-in-Err-read_kept-clause-unreadable
returns-in-Err-read_kept-clause-unreadable g c place at is x told =
    let fault = err_is {T = Log × Records} c.in-Err-read_kept.fault (Unreadable place at) is in
    look_live x c.in-Ok.reader (UnreadableRecords place at) (c.in-Ok.ensures.live x told)
    (c.in-Err-read_kept.ensures.unreadable place at (ap (λ (f : OpenFault). let r : Result Records OpenFault = Err f in r) fault) x (c.open.ensures.only.same ∙ told))

pub returns-in-Ok-read_kept-clause-stands : goal.returns-in-Ok-read_kept-clause-stands
returns-in-Ok-read_kept-clause-stands g c x told =
    let d = g.D.Disk in
    let first = c.in-Ok.reader in
    let last = c.read_kept.new.reader in
    let may_leave = d.may_leave c.read_kept.new.disk in
    let t1 = sym c.read_kept.ensures.only.same ∙ told in
    let t0 = sym c.open.ensures.only.same ∙ t1 in
    let reading = c.read_kept.ensures.reading x told in
    let live = c.in-Ok.ensures.live x t0 in
    record {
      stands = look_closed x may_leave first last c.in-Ok-read_kept.kept live (c.in-Ok-read_kept.ensures.kept x t1) reading c.in-Ok-read_kept.ensures.ended;
      settled = settled_when_done x may_leave last c.done.result c.done.ensures.shelf c.done.ensures.idle (c.done.ensures.ends x) reading;
      texts = texts_all x may_leave last (reading.at.ended c.in-Ok-read_kept.ensures.ended) (c.in-Ok-read_kept.ensures.texts x t1 (texts_none x (d.may_leave c.open.new.disk) first live));
    }

pub returns-in-Err-read_kept-clause-only : goal.returns-in-Err-read_kept-clause-only
returns-in-Err-read_kept-clause-only g c = only_then c.open.ensures.only c.read_kept.ensures.only

pub returns-in-Ok-read_kept-clause-only : goal.returns-in-Ok-read_kept-clause-only
returns-in-Ok-read_kept-clause-only g c = only_then c.open.ensures.only c.read_kept.ensures.only
