-- A change other than that a job begins needs no memory and brings no manifest.
use Rattle.std.proofs.Common.{Bool, cond, [], ◌∷◌, ap, ◌∙◌, ◌≡◌, ℕ, true, false, true≢false, List, refl, sym, subst}
use Rattle.std.specs.Prelude.{Option, None, Some, option_map, find, not}
use Rattle.std.specs.List.{AllByRecursion}
use Rattle.std.proofs.lemmas.Option.{none-some}
use Rattle.cm_base.specs.declared.hash.Hash.{Hash}
use Rattle.cm_disk.specs.Disk.{File}
use Rattle.cm_pkglib.specs.declared.change.Change.{Change}
use Rattle.cm_pkglib.specs.declared.change.Change.TheVariants.{Opened, Done, Dropped, Removed}
use Rattle.cm_pkglib.specs.declared.counts.Seal.{Seal}
use Rattle.cm_pkglib.specs.declared.fault.RowFault.{RowFault}
use Rattle.cm_pkglib.specs.Changes.{IsChange}
use Rattle.cm_pkglib.specs.Rows.{is_opened, fault_of}
use Rattle.cm_state.specs.State.{Held, State, rows_of}
use Rattle.cm_tree.specs.declared.entry.Entry.{Entry}
use Rattle.cm_state.specs.declared.fault.LibFault.{LibFault}
use Rattle.cm_state.specs.declared.fault.LibFault.TheVariants.{NotStored}
use Rattle.cm_state.specs.Faults.{of_row_fault, change_fault}
use Rattle.cm_state.specs.Changes.{StateChange, Begun, Finished, Dropped as DroppedJob, Removed as RemovedVersion, record_of, is_in_range}
use Rattle.cm_state.specs.Commits.{MayCommit, BringsManifest}
use Rattle.cm_state.specs.Look.{has_room}
use Rattle.cm_state.proofs.Rooms.{ended_room}
use Rattle.cm_state.proofs.Lists.{no_some}
use Rattle.cm_contents.specs.Contents.{change_in, IsTakenFor}
use Rattle.cm_contents.specs.Seals.{is_stored, not_stored, job_manifest, brought, AreStored, unstored, first_fault, end_fault}

pub ending_in : (taken : Option Held) (change : Change) → is_opened change ≡ false → change_in taken change ≡ change_in None change
ending_in taken (Opened job id version entries size hash) ends = absurd (true≢false ends)
ending_in taken (Done job) ends = refl
ending_in taken (Dropped job) ends = refl
ending_in taken (Removed id version) ends = refl

pub ending_taken : (taken : Option Held) (change : Change) → is_opened change ≡ false → IsTakenFor taken change
ending_taken taken (Opened job id version entries size hash) ends = absurd (true≢false ends)
ending_taken taken (Done job) ends = record { says = refl; names = tt }
ending_taken taken (Dropped job) ends = record { says = refl; names = tt }
ending_taken taken (Removed id version) ends = record { says = refl; names = tt }

pub ending_brings : (may_leave : List ℕ → File → Type 0) (taken : Option Held) (change : Change) → is_opened change ≡ false → BringsManifest may_leave (change_in taken change)
ending_brings may_leave taken (Opened job id version entries size hash) ends = absurd (true≢false ends)
ending_brings may_leave taken (Done job) ends = tt
ending_brings may_leave taken (Dropped job) ends = tt
ending_brings may_leave taken (Removed id version) ends = tt

pub ending_range : (change : Change) → is_opened change ≡ false → is_in_range (change_in None change) ≡ true
ending_range (Opened job id version entries size hash) ends = absurd (true≢false ends)
ending_range (Done job) ends = refl
ending_range (Dropped job) ends = refl
ending_range (Removed id version) ends = refl

pub ending_may : (end : ℕ) (s : State) (taken : Option Held) (change : Change) → is_opened change ≡ false → IsChange change → fault_of (rows_of s) change ≡ None → has_room end (rows_of s) ≡ true → MayCommit end s (change_in taken change)
ending_may end s taken change ends form free room =
    let says = sym (ending_taken taken change ends).says in
    let form' = subst IsChange says form in
    let free' = subst (λ (c : Change). fault_of (rows_of s) c ≡ None) says free in
    record { allowed = free'; form = form'; room = ended_room s end (change_in taken change) (subst (λ (c : Change). is_opened c ≡ false) says ends) form' free' room }

pub ending_brought : (taken : Option Held) (change : Change) → is_opened change ≡ false → brought (Some (change_in taken change)) ≡ []
ending_brought taken (Opened job id version entries size hash) ends = absurd (true≢false ends)
ending_brought taken (Done job) ends = refl
ending_brought taken (Dropped job) ends = refl
ending_brought taken (Removed id version) ends = refl

-- why it is refused
pub fault_is : (seals : Hash → Option Seal) (s : State) (job : ℕ) (o : Option Hash) → fault_of (rows_of s) (Done job) ≡ None → not_stored seals (job_manifest job s) ≡ o → end_fault seals s (Finished job) ≡ option_map NotStored o
fault_is seals s job o free is = ap (λ (f : Option RowFault). first_fault (option_map of_row_fault f) (unstored seals s (Finished job))) free ∙ ap (λ (x : Option Hash). option_map NotStored x) is

both_none : (a b : Option LibFault) → first_fault a b ≡ None → (a ≡ None) × (b ≡ None)
both_none None b is = (refl, is)
both_none (Some fault) b is = absurd (none-some fault (sym is))

all_stored : (p : Entry → Bool) (es : List Entry) → find (λ (e : Entry). not (p e)) es ≡ None → AllByRecursion (λ (e : Entry). p e ≡ true) es
all_stored p [] none = tt
all_stored p (e ∷ es) none = by (p e) refl none (all_stored p es)
  where
    by : (b : Bool) → p e ≡ b → cond (not b) (Some e) (find (λ (e : Entry). not (p e)) es) ≡ None → (find (λ (e : Entry). not (p e)) es ≡ None → AllByRecursion (λ (e : Entry). p e ≡ true) es) → (p e ≡ true) × AllByRecursion (λ (e : Entry). p e ≡ true) es
    by true is rest_none rest = (is, rest rest_none)
    by false is some rest = absurd (none-some e (sym some))

pub end_free : (seals : Hash → Option Seal) (s : State) (change : StateChange) → end_fault seals s change ≡ None → fault_of (rows_of s) (record_of change) ≡ None
end_free seals s change none = no_some of_row_fault (fault_of (rows_of s) (record_of change)) (both_none (change_fault s change) (unstored seals s change) none).0

pub end_stored : (seals : Hash → Option Seal) (s : State) (change : StateChange) → end_fault seals s change ≡ None → AreStored seals change s
end_stored seals s (Begun job id version manifest) none = tt
end_stored seals s (Finished job) none =
    let stored = no_some NotStored (not_stored seals (job_manifest job s)) (both_none (change_fault s (Finished job)) (unstored seals s (Finished job)) none).1 in
    all_stored (is_stored seals) (job_manifest job s) (no_some (λ (e : Entry). e.hash) (find (λ (e : Entry). not (is_stored seals e)) (job_manifest job s)) stored)
end_stored seals s (DroppedJob job) none = tt
end_stored seals s (RemovedVersion id version) none = tt
