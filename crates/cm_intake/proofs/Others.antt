-- What the calls of a settled library leave to the other jobs.
use Rattle.std.proofs.Common.{◌≡◌, inl, inr, ℕ, Bool, true, false, List, length, refl, sym, ◌∙◌, ap, subst}
use Rattle.std.specs.Prelude.{◌⊎◌, is_some, if◌then◌else◌, Option, None, Some, Result, Ok, Err}
use Rattle.sha2.specs.Sha256.{sha256}
use Rattle.cm_base.specs.declared.hash.Hash.{Hash}
use Rattle.cm_disk.specs.Disk.{Files}
use Rattle.cm_pkglib.specs.Counts.{seal_at}
use Rattle.cm_filelib.specs.declared.writing.Writing.{Writing}
use Rattle.cm_filelib.specs.Stored.{is_named as is_file_named}
use Rattle.cm_filelib.specs.Writings.{hash_of, size_of, WasPut}
use Rattle.cm_state.specs.Faults.{RefusesOr}
use Rattle.cm_state.specs.State.{State, held_by_job}
use Rattle.cm_state.specs.declared.fault.LibFault.{LibFault}
use Rattle.cm_state.specs.declared.fault.LibFault.TheVariants.{Disk, NoJob, WrongBytes}
use Rattle.cm_library.specs.Filing.{Starts, Puts, Seals, AreRight, AreWrong}
use Rattle.cm_library.specs.Kept.{Seen}
use Rattle.cm_library.specs.Started.{started_by, no_job, unstarted, start_fault, put_fault, file_fault, misplaced_in}
use Rattle.cm_library.proofs.SettledCalls.{first_none, unstarted_none}
use Rattle.cm_intake.specs.Filling.{HoldsSame}
use Rattle.cm_intake.proofs.Held.{held_without, held_with, held_as}

module _ {D : Type 0} (reads : D → Option Files) where
  pub start_held : {T : Type 0} (job : ℕ) (hash : Hash) (old new : Seen D) (result : Result T LibFault) → start_fault (seal_at old.seals) old.state old.started job hash ≡ None → Starts reads job hash old new result → HoldsSame job old.started new.started
  start_held job hash old new (Ok x) may does = held_as job old.started new.started _ does.started.started (held_with job does.started.writing old.started)
  start_held {T} job hash old new (Err fault) may does =
      let disk : fault ≡ Disk = subst (λ (o : Option LibFault). RefusesOr {T = T} o (Err fault)) may does.refused in
      held_as job old.started new.started _ (does.failed disk) (held_without job old.started)

  -- a job that may go on has started a file
  pub its_file : (s : State) (started : List (ℕ × Writing)) (job : ℕ) → file_fault s started job ≡ None → (was : Writing) × (started_by job started ≡ Some was)
  its_file s started job may = by (started_by job started) refl (unstarted_none (started_by job started) (first_none (no_job job s) (unstarted (started_by job started)) may).1)
    where
      by : (o : Option Writing) → started_by job started ≡ o → is_some o ≡ true → (was : Writing) × (started_by job started ≡ Some was)
      by None is there = let e : false ≡ true = there in cc
      by (Some was) is there = (was, is)

  pub put_held : {T : Type 0} (job offset : ℕ) (bytes : List ℕ) (old new : Seen D) (result : Result T LibFault) → put_fault old.state old.started job offset (length bytes) ≡ None → Puts reads job offset bytes old new result → HoldsSame job old.started new.started
  put_held job offset bytes old new (Ok x) may does =
      let file = its_file old.state old.started job (first_none (file_fault old.state old.started job) (misplaced_in (started_by job old.started) offset (length bytes)) may).0 in
      let goes = does.goes_on file.0 file.1 in
      held_as job old.started new.started _ goes.started (held_with job goes.writing old.started)
  put_held {T} job offset bytes old new (Err fault) may does =
      let disk : fault ≡ Disk = subst (λ (o : Option LibFault). RefusesOr {T = T} o (Err fault)) may does.refused in
      held_as job old.started new.started _ (does.failed disk) (held_without job old.started)

  pub seal_held : {T : Type 0} (job : ℕ) (old new : Seen D) (result : Result T LibFault) → file_fault old.state old.started job ≡ None → Seals reads job old new result → HoldsSame job old.started new.started
  seal_held job old new result may does = held_as job old.started new.started _ (does.started may) (held_without job old.started)

-- other bytes were put, of this hash and so many
pub is_wrong : (was : Writing) (fault : LibFault) (named : Hash) (size : ℕ) (got : Hash) (many : ℕ) → fault ≡ WrongBytes named size got many → ((fault ≡ Disk) × AreRight was) ⊎ AreWrong was fault
    → (bytes : List ℕ) → WasPut was bytes → (is_file_named (hash_of was).0 (size_of was) bytes ≡ false) × (got.0 ≡ sha256 bytes) × (many ≡ length bytes)
is_wrong was fault named size got many is (inl disk) bytes put = let e : Disk ≡ WrongBytes named size got many = sym disk.0 ∙ is in cc
is_wrong was fault named size got many is (inr wrong) bytes put =
    let same : WrongBytes named size got many ≡ WrongBytes (hash_of was) (size_of was) wrong.got wrong.many = sym is ∙ wrong.named in
    let hash : got ≡ wrong.got = cc in
    let count : many ≡ wrong.many = cc in
    let told = wrong.bytes bytes put in
    (told.0, ap (λ (h : Hash). h.0) hash ∙ told.1, count ∙ told.2)

-- else the disk has failed
module _ {D : Type 0} (reads : D → Option Files) where
  pub only_failed : {T : Type 0} (job : ℕ) (old new : Seen D) (fault : LibFault) → file_fault old.state old.started job ≡ None → Seals {T = T} reads job old new (Err fault)
      → ((named : Hash) (size : ℕ) (got : Hash) (many : ℕ) → fault ≡ WrongBytes named size got many → ⊥) → fault ≡ Disk
  only_failed job old new fault may does right =
      let file = its_file reads old.state old.started job may in
      elim (does.failed.1 may file.0 file.1) [ inl disk ↦ disk.0 | inr wrong ↦ absurd (right (hash_of file.0) (size_of file.0) wrong.got wrong.many wrong.named) ]

-- an unfinished job
pub is_unfinished : (s : State) (job : ℕ) → is_some (held_by_job job s.jobs) ≡ true → no_job job s ≡ None
is_unfinished s job unfinished = ap (λ (b : Bool). if b then None else Some NoJob) unfinished
