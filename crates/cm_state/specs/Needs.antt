-- What a state needs is enough.
use Rattle.std.specs.Prelude.{◌≡◌, ℕ, List}
use Rattle.std.specs.List.{AllByRecursion}
use Rattle.cm_disk.specs.Disk.{Files}
use Rattle.cm_log.specs.declared.shelf.Shelf.TheVariants.{PkgLib}
use Rattle.cm_log.specs.declared.shelf.Side.{Side}
use Rattle.cm_log.specs.Shelves.{ready_place, log_place}
use Rattle.cm_state.specs.State.{State}
use Rattle.cm_state.specs.Needed.{needed}
use Rattle.cm_state.specs.Opens.{Opens}

-- files agree at the log's three places and at those that a state needs
pub record AgreeOn (state : State) (files now : Files) : Type 0 where
  pub ready : now (ready_place PkgLib) ≡ files (ready_place PkgLib)
  pub logs : (side : Side) → now (log_place PkgLib side) ≡ files (log_place PkgLib side)
  pub needed_places : AllByRecursion (λ (place : List ℕ). now place ≡ files place) (needed state)

-- The law of needs: files that agree there with files that open to a state open to it as well.
abbrev pub NeedsAreEnough : Type 0
NeedsAreEnough = (files now : Files) (state : State) → Opens files state → AgreeOn state files now → Opens now state
