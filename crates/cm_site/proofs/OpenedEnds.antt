-- The ends of a step on an opened library of which nothing is done.
use Rattle.std.proofs.Common.{◌≡◌, ◌⊎◌, ℕ, false, List, [], Option, inl, inr, refl, sym, subst}
use Rattle.std.proofs.lemmas.Bool.{false≢true}
use Rattle.cm_disk.specs.Disk.{File, Files, IsImage}
use Rattle.cm_library.specs.Kept.{Seen}
use Rattle.cm_state.specs.State.{State, version_rows, job_rows}
use Rattle.cm_site.specs.OneEnds.{OneEndsOn}
use Rattle.cm_site.specs.OneLibrary.{Given, Step, told, list}
use Rattle.cm_site.specs.Opened.{IsOpened}
use Rattle.cm_site.specs.Runs.{Sourced}
use Rattle.cm_site.specs.declared.reply.Reply.{Reply}
use Rattle.cm_site.specs.declared.reply.Reply.TheVariants.{Versions, Memory}
use Rattle.cm_site.proofs.Closing.{Leaves, IsTold, ends_told, places_stay, rests_none, steps_asked, gives_up_closed}
use Rattle.cm_site.proofs.SomeFiles.{some_given, starts}

module _ {D : Type 0} (reads : D → Option Files) (may_leave : D → List ℕ → File → Type 0) (moment : D → ℕ) (left_since : D → ℕ → Files → Type 0) (faults : D → ℕ) (bay : List ℕ) (was : Seen D)
    (open_is : IsOpened reads may_leave moment left_since faults was) (leaves : Leaves reads may_leave was) (only_now : (files : Files) → left_since was.disk (moment was.disk) files → IsImage (may_leave was.disk) files)
    (from to : Sourced) where
  -- the step is a reply on it
  pub ends_stay : (step : Given → State → Step) (reply : Reply) → ((given : Given) → step given was.state ≡ told reply) → IsTold reply
      → OneEndsOn reads may_leave moment left_since faults bay was.state was.end step from to reply was.start was.disk
  ends_stay step reply gives is_told =
      let given = some_given from.shown (reads was.start) was.end in
      let begins = starts from to (reads was.start) was.end in
      ends_told reads may_leave moment left_since faults bay was was open_is (places_stay (reads was.disk)) leaves step from to given begins refl reply is_told
      (steps_asked reads may_leave moment left_since faults bay was was open_is (places_stay (reads was.disk)) leaves step from to given begins refl reply false [] (λ asks. absurd (false≢true asks)) (gives given)
      (rests_none reads may_leave moment left_since faults bay was [] open_is.settled leaves only_now))

  -- it is listed, or there was no memory
  pub ends_listed : (reply : Reply) → (reply ≡ Versions (version_rows was.state) (job_rows was.state)) ⊎ (reply ≡ Memory)
      → OneEndsOn reads may_leave moment left_since faults bay was.state was.end (λ given. list) from to reply was.start was.disk
  ends_listed reply (inl is) =
      subst (λ (r : Reply). OneEndsOn reads may_leave moment left_since faults bay was.state was.end (λ given. list) from to r was.start was.disk) (sym is)
      (ends_stay (λ given. list) (Versions (version_rows was.state) (job_rows was.state)) (λ given. refl) tt)
  ends_listed reply (inr is) =
      let given = some_given from.shown (reads was.start) was.end in
      subst (λ (r : Reply). OneEndsOn reads may_leave moment left_since faults bay was.state was.end (λ given. list) from to r was.start was.disk) (sym is)
      (gives_up_closed reads may_leave moment left_since faults bay was was open_is (places_stay (reads was.disk)) leaves (λ given. list) from to given (starts from to (reads was.start) was.end) refl (list was.state) refl refl 0
      (rests_none reads may_leave moment left_since faults bay was [] open_is.settled leaves only_now))
