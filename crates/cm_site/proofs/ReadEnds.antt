-- The ends of a step on an opened library whose disk is read and not written.
use Rattle.std.proofs.Common.{◌≡◌, ℕ, Bool, true, List, [], Option, None, Some, inl, refl, sym, ◌∙◌, subst, arith}
use Rattle.std.specs.Option.{ForSome}
use Rattle.cm_base.specs.Causes.{Rose}
use Rattle.cm_disk.specs.Disk.{File, Files, IsImage, LeavesOnly}
use Rattle.cm_disk.specs.Walks.{AreListed}
use Rattle.cm_disk.proofs.Moments.{weaker}
use Rattle.cm_intake.specs.Intake.{Goes, Rests, OpensAmong as RunOpens}
use Rattle.cm_library.specs.Kept.{Seen}
use Rattle.cm_library.specs.Placing.{KeepsPlaces}
use Rattle.cm_state.specs.Adding.{Told}
use Rattle.cm_state.specs.Opens.{Opens, EachOpensSome}
use Rattle.cm_state.specs.Purged.{loose}
use Rattle.cm_state.specs.State.{State}
use Rattle.cm_site.specs.OneEnds.{StartsOne, OneEndsOn}
use Rattle.cm_site.specs.OneLibrary.{Given, Step}
use Rattle.cm_site.specs.Opened.{IsOpened}
use Rattle.cm_site.specs.Runs.{Sourced}
use Rattle.cm_site.specs.declared.reply.Reply.{Reply}
use Rattle.cm_site.specs.declared.reply.Reply.TheVariants.{Disk, Memory}
use Rattle.cm_site.proofs.Closing.{Leaves, IsTold, asking, ends_told, places_stay, steps_asked, gives_up_closed, ends_disk}

-- The library is as it was, and the disk was read alone.
pub record OnlyRead {D : Type 0} (reads : D → Option Files) (may_leave : D → List ℕ → File → Type 0) (moment : D → ℕ) (left_since : D → ℕ → Files → Type 0) (was now : Seen D) : Type 0 where
  pub same : reads now.disk ≡ reads was.disk
  pub state : now.state ≡ was.state
  pub start : now.start ≡ was.start
  pub pending : now.pending ≡ was.pending
  pub moments : EachOpensSome (may_leave was.start) → ForSome (reads was.disk) (λ _. LeavesOnly moment left_since was.disk now.disk (λ image. Opens image was.state))

module _ {D : Type 0} (reads : D → Option Files) (may_leave : D → List ℕ → File → Type 0) (moment : D → ℕ) (left_since : D → ℕ → Files → Type 0) (faults : D → ℕ) (bay : List ℕ) (was now : Seen D)
    (open_is : IsOpened reads may_leave moment left_since faults was) (read : OnlyRead reads may_leave moment left_since was now) (leaves : Leaves reads may_leave now) where
  goes : Goes reads may_leave moment left_since 0 [] was now
  goes = record {
    within = omega arith;
    state = read.state;
    start = read.start;
    moments = λ whole files told. weaker moment left_since was.disk now.disk (λ image. Opens image was.state) (RunOpens [] was.state) (read.moments whole files told) (λ image opened. (0, omega arith, opened));
  }

  idle : now.pending ≡ None
  idle = read.pending ∙ open_is.settled

  rests : Rests reads may_leave moment left_since 0 [] was now
  rests = record { goes = goes; idle = idle; same = λ none. read.same }

  places : Told KeepsPlaces (reads was.disk) (reads now.disk)
  places = subst (λ (o : Option Files). Told KeepsPlaces (reads was.disk) o) (sym read.same) (places_stay (reads was.disk))

  module _ (step : Given → State → Step) (from to : Sourced) (given : Given) (starts : StartsOne from to (reads was.start) given) (gate : given.gate ≡ was.end) where
    -- the reply was found
    pub ends_read : (reply : Reply) (asks : Bool) → IsTold reply → (asks ≡ true → ForSome (reads was.start) (λ files. AreListed (loose was.state files) given.loose))
        → step given was.state ≡ asking asks reply [] → OneEndsOn reads may_leave moment left_since faults bay was.state was.end step from to reply was.start now.disk
    ends_read reply asks is_told listed gives =
        ends_told reads may_leave moment left_since faults bay was now open_is places leaves step from to given starts gate reply is_told
        (steps_asked reads may_leave moment left_since faults bay was now open_is places leaves step from to given starts gate reply asks [] listed gives rests)

    module _ (reply : Reply) (asks : Bool) (is : step given was.state ≡ asking asks reply []) where
      -- there was no memory
      pub ends_memory : OneEndsOn reads may_leave moment left_since faults bay was.state was.end step from to Memory was.start now.disk
      ends_memory = gives_up_closed reads may_leave moment left_since faults bay was now open_is places leaves step from to given starts gate (asking asks reply []) is refl 0 rests

      -- the disk failed
      pub ends_unread : ((files : Files) → reads now.disk ≡ Some files → IsImage (may_leave now.disk) files) → Rose (faults was.disk) (faults now.disk)
          → OneEndsOn reads may_leave moment left_since faults bay was.state was.end step from to (Disk bay) was.start now.disk
      ends_unread as_it_reads rose =
          ends_disk reads may_leave moment left_since faults bay was now open_is places leaves step from to given starts gate as_it_reads (asking asks reply []) is refl 0 (record { goes = goes; flight = inl idle; same = λ none. read.same }) rose
