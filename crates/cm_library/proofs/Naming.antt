-- What is answered for files that are no library is what is named of them.
use Rattle.std.proofs.Common.{◌≡◌, ◌⊎◌, ⊎_elim, ℕ, List, sym, ◌∙◌, ap}
use Rattle.std.specs.Prelude.{Err, IsErrOf}
use Rattle.cm_state.specs.declared.fault.OpenFault.{OpenFault}
use Rattle.cm_state.specs.declared.fault.OpenFault.TheVariants.{Unreadable as OpenUnreadable, Memory as OpenMemory, Disk as OpenDisk, NoLibrary as OpenMissing}
use Rattle.cm_log.specs.declared.faults.LogFault.{LogFault}
use Rattle.cm_log.specs.declared.faults.LogFault.TheVariants.{Disk as LogDisk, NoLibrary as LogMissing, Unreadable as LogUnreadable}
use Rattle.cm_state.specs.Faults.{of_log_fault}
use Rattle.cm_state.specs.Look.{Library, Unreadable}

pub err_is : {T : Type 0} (a b : OpenFault) → IsErrOf {T = T} (Err a) b → a ≡ b
err_is a b is = cc

same_named : (p q : List ℕ) (m n : ℕ) (library : Library) → OpenUnreadable p m ≡ OpenUnreadable q n → library ≡ Unreadable p m → library ≡ Unreadable q n
same_named p q m n library same is =
    let e : p ≡ q = cc in
    let f : m ≡ n = cc in
    is ∙ ap (λ (r : List ℕ). Unreadable r m) e ∙ ap (λ (k : ℕ). Unreadable q k) f

-- the log is unreadable there
pub log_named : {T : Type 0} (fault : LogFault) (place : List ℕ) (at : ℕ) → IsErrOf {T = T} (Err (of_log_fault fault)) (OpenUnreadable place at) → fault ≡ LogUnreadable place at
log_named LogDisk place at is = absurd (cc)
log_named LogMissing place at is = absurd (cc)
log_named (LogUnreadable p n) place at is =
    let e : p ≡ place = cc in
    let f : n ≡ at = cc in
    ap (λ (q : List ℕ). LogUnreadable q n) e ∙ ap (λ (k : ℕ). LogUnreadable place k) f

-- what is named of files is answered
pub named : {T : Type 0} (p q : List ℕ) (m n : ℕ) (library : Library) → IsErrOf {T = T} (Err (OpenUnreadable p m)) (OpenUnreadable q n) → library ≡ Unreadable p m → library ≡ Unreadable q n
named {T} p q m n library is l = same_named p q m n library (err_is {T = T} (OpenUnreadable p m) (OpenUnreadable q n) is) l

-- other faults name nothing
pub not_named : {T : Type 0} (fault : OpenFault) (place : List ℕ) (at : ℕ) → (fault ≡ OpenMemory) ⊎ (fault ≡ OpenDisk) → IsErrOf {T = T} (Err fault) (OpenUnreadable place at) → ⊥
not_named {T} fault place at is e = ⊎_elim (λ (m : fault ≡ OpenMemory). clash_memory (sym m ∙ err_is {T = T} fault (OpenUnreadable place at) e)) (λ (d : fault ≡ OpenDisk). clash_disk (sym d ∙ err_is {T = T} fault (OpenUnreadable place at) e)) is
  where
    clash_memory : OpenMemory ≡ OpenUnreadable place at → ⊥
    clash_memory x = cc

    clash_disk : OpenDisk ≡ OpenUnreadable place at → ⊥
    clash_disk x = cc

pub not_missing : {T : Type 0} (fault : OpenFault) → (fault ≡ OpenMemory) ⊎ (fault ≡ OpenDisk) → IsErrOf {T = T} (Err fault) OpenMissing → ⊥
not_missing {T} fault is e = ⊎_elim (λ (m : fault ≡ OpenMemory). clash_memory (sym m ∙ err_is {T = T} fault OpenMissing e)) (λ (d : fault ≡ OpenDisk). clash_disk (sym d ∙ err_is {T = T} fault OpenMissing e)) is
  where
    clash_memory : OpenMemory ≡ OpenMissing → ⊥
    clash_memory x = cc

    clash_disk : OpenDisk ≡ OpenMissing → ⊥
    clash_disk x = cc
