-- What is answered for files that are no records is what is named of them.
use Rattle.std.proofs.Common.{◌≡◌, ℕ, List, sym, ◌∙◌, ap}
use Rattle.std.specs.Prelude.{Err, IsErrOf}
use Rattle.cm_log.specs.declared.faults.LogFault.{LogFault}
use Rattle.cm_log.specs.declared.faults.LogFault.TheVariants.{Disk as LogDisk, NoLibrary as LogMissing, Unreadable as LogUnreadable}
use Rattle.cm_state.specs.declared.fault.OpenFault.{OpenFault}
use Rattle.cm_state.specs.declared.fault.OpenFault.TheVariants.{Unreadable as OpenUnreadable}
use Rattle.cm_state.specs.Faults.{of_log_fault}

pub err_is : {T : Type 0} (a b : OpenFault) → IsErrOf {T = T} (Err a) b → a ≡ b
err_is a b is = cc

-- the log is unreadable there
pub log_named : {T : Type 0} (fault : LogFault) (place : List ℕ) (at : ℕ) → IsErrOf {T = T} (Err (of_log_fault fault)) (OpenUnreadable place at) → fault ≡ LogUnreadable place at
log_named LogDisk place at is = absurd (cc)
log_named LogMissing place at is = absurd (cc)
log_named (LogUnreadable p n) place at is =
    let e : p ≡ place = cc in
    let f : n ≡ at = cc in
    ap (λ (q : List ℕ). LogUnreadable q n) e ∙ ap (λ (k : ℕ). LogUnreadable place k) f
