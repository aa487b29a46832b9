use Rattle.std.proofs.Common.{◌≡◌, Bool, List, ℕ, Ok, Err, Result, ◌∙◌, ap, subst}
use Rattle.cm_log.specs.Settled.{reader_place, rest_of}
use Rattle.cm_register.specs.Look.{Unreadable, register_from}
use Rattle.cm_register.specs.declared.kept.Kept.{Kept}
use Rattle.cm_state.specs.declared.fault.OpenFault.{OpenFault}
use Rattle.cm_state.specs.declared.fault.OpenFault.TheVariants.{Unreadable as OpenUnreadable}
use Rattle.cm_records.proofs.Naming.{err_is}
use Rattle.cm_records.proofs.reading.read_kept.Goals as goal

pub returns-in-Err-clause-unreadable : goal.returns-in-Err-clause-unreadable
returns-in-Err-clause-unreadable g c q n is x told =
    let so_far = c.loop-record.invariant in
    let fault = err_is {T = Kept} c.in-Err.fault (OpenUnreadable q n) is in
    let why = c.in-Err.ensures.unreadable q n (ap (λ (f : OpenFault). let r : Result Bool OpenFault = Err f in r) fault) x (so_far.only.same ∙ told) in
    so_far.goes_on x told ∙ subst (λ (p : List ℕ). register_from x p (Ok c.loop-record.kept) (rest_of x c.loop-record.reader) ≡ Unreadable q n) so_far.place why
