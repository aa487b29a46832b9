-- The ends of `add` and `update` on an opened library, into which the folder is taken.
use Rattle.std.proofs.Common.{◌≡◌, ℕ, false, List, [], length, Option, Some, Result, Ok, Err, refl, sym, ◌∙◌, ap, subst}
use Rattle.std.specs.Prelude.{IsErrOf}
use Rattle.std.proofs.lemmas.Bool.{false≢true}
use Rattle.cm_base.specs.Causes.{Rose}
use Rattle.cm_disk.specs.Disk.{File, Files, IsImage}
use Rattle.cm_intake.specs.Intake.{Intake, Rests, EndsAs, TakesIn, intake}
use Rattle.cm_intake.specs.declared.taken.Taken.{Taken}
use Rattle.cm_intake.specs.declared.fault.IntakeFault.{IntakeFault}
use Rattle.cm_intake.specs.declared.fault.IntakeFault.TheVariants.{Folder, TooManyFiles, BadPath, SamePath, FileTooLong, TooManyVersions, TooManyEntries, TooManyJobs, Spent, Changed, Disk as DiskFails, Memory as NoMemory}
use Rattle.cm_library.specs.Kept.{Seen}
use Rattle.cm_library.specs.Placing.{KeepsPlaces}
use Rattle.cm_state.specs.Adding.{Told}
use Rattle.cm_state.specs.State.{State}
use Rattle.cm_site.specs.Contents.{site}
use Rattle.cm_site.specs.OneEnds.{StartsOne, OneEndsOn}
use Rattle.cm_site.specs.OneLibrary.{Given, Step, commits, reply_to, taken_in}
use Rattle.cm_site.specs.Opened.{IsOpened}
use Rattle.cm_site.specs.Runs.{Sourced}
use Rattle.cm_site.specs.declared.reply.Reply.{Reply}
use Rattle.cm_site.proofs.Closing.{Leaves, IsTold, ends_told, steps_asked, gives_up_closed, ends_disk}
use Rattle.cm_site.proofs.SomeFiles.{amiss_or, amiss_told}

module _ {D : Type 0} (reads : D → Option Files) (may_leave : D → List ℕ → File → Type 0) (moment : D → ℕ) (left_since : D → ℕ → Files → Type 0) (faults : D → ℕ) (was now : Seen D)
    (open_is : IsOpened reads may_leave moment left_since faults was) (id : List ℕ) (version : ℕ) (from to : Sourced) (outcome : Result Taken IntakeFault)
    (takes : TakesIn reads may_leave moment left_since id version from.shown from.faults to.faults was now outcome)
    (places : Told KeepsPlaces (reads was.disk) (reads now.disk)) (leaves : Leaves reads may_leave now)
    (as_it_reads : (files : Files) → reads now.disk ≡ Some files → IsImage (may_leave now.disk) files)
    (step : Given → State → Step) (gives : (given : Given) → step given was.state ≡ taken_in id version given was.state) where
  abbrev given : Given
  given = record { readings = takes.readings; gate = was.end; amiss = amiss_or (reads was.start); loose = [] }

  abbrev taken : Intake
  taken = intake id version was.end takes.readings was.state

  starts : StartsOne from to (reads was.start) given
  starts = record { readings = takes.are; amiss = amiss_told (reads was.start) }

  abbrev EndsSo : Reply → Type 0
  EndsSo reply = OneEndsOn reads may_leave moment left_since faults site was.state was.end step from to reply was.start now.disk

  -- it was taken in whole, or refused
  whole : (result : Result Taken IntakeFault) → IsTold (reply_to id version result) → (result ≡ taken.answer) × Rests reads may_leave moment left_since (length taken.changes) taken.changes was now
      → EndsSo (reply_to id version result)
  whole result is_told ends =
      ends_told reads may_leave moment left_since faults site was now open_is places leaves step from to given starts refl (reply_to id version result) is_told
      (steps_asked reads may_leave moment left_since faults site was now open_is places leaves step from to given starts refl (reply_to id version result) false taken.changes (λ asks. absurd (false≢true asks))
      (gives given ∙ ap (λ (r : Result Taken IntakeFault). commits (reply_to id version r) taken.changes) (sym ends.0)) ends.1)

  by : (result : Result Taken IntakeFault) → EndsAs reads may_leave moment left_since takes.readings taken was now result → (IsErrOf result DiskFails → Rose (faults was.disk) (faults now.disk))
      → EndsSo (reply_to id version result)
  by (Ok done) ends cause = whole (Ok done) tt ends
  by (Err Folder) ends cause = whole (Err Folder) tt ends
  by (Err TooManyFiles) ends cause = whole (Err TooManyFiles) tt ends
  by (Err (BadPath entry)) ends cause = whole (Err (BadPath entry)) tt ends
  by (Err (SamePath entry)) ends cause = whole (Err (SamePath entry)) tt ends
  by (Err (FileTooLong entry)) ends cause = whole (Err (FileTooLong entry)) tt ends
  by (Err TooManyVersions) ends cause = whole (Err TooManyVersions) tt ends
  by (Err TooManyEntries) ends cause = whole (Err TooManyEntries) tt ends
  by (Err TooManyJobs) ends cause = whole (Err TooManyJobs) tt ends
  by (Err Spent) ends cause = whole (Err Spent) tt ends
  by (Err (Changed path first first_size second second_size)) ends cause = whole (Err (Changed path first first_size second second_size)) tt ends
  by (Err DiskFails) ends cause =
      ends_disk reads may_leave moment left_since faults site was now open_is places leaves step from to given starts refl as_it_reads (taken_in id version given was.state) (gives given) refl ends.0 ends.1 (cause refl)
  by (Err NoMemory) ends cause =
      gives_up_closed reads may_leave moment left_since faults site was now open_is places leaves step from to given starts refl (taken_in id version given was.state) (gives given) refl ends.0 ends.1

  pub ends_taken : (reply : Reply) → reply ≡ reply_to id version outcome → (IsErrOf outcome DiskFails → Rose (faults was.disk) (faults now.disk))
      → EndsSo reply
  ends_taken reply is cause = subst (λ (r : Reply). EndsSo r) (sym is) (by outcome takes.ends cause)
