-- A library's log in its files.
use Rattle.std.specs.Prelude.{◌≡◌, ℕ, true, List}
use Rattle.cm_disk.specs.Disk.{File, Files}
use Rattle.cm_log.specs.declared.state.Log.{Log}
use Rattle.cm_log.specs.declared.shelf.Shelf.TheVariants.{PkgLib}
use Rattle.cm_log.specs.Settled.{shelf_of, end_of, is_settled, IsSettled}
use Rattle.cm_state.specs.State.{State, rows_of}
use Rattle.cm_state.specs.Look.{Opened, look, has_room}
use Rattle.cm_state.specs.Sound.{IsSound, AreNamed}

-- what reads give is a library in this state, whose log is durable
pub record StandsIn (files : Files) (may_leave : List ℕ → File → Type 0) (log : Log) (state : State) : Type 0 where
  pub stands : look files ≡ Opened state
  pub settled : IsSettled files may_leave log

-- The rows of a state, whose log ends there: behind the closed gate there is room for the ends of all that it has.
pub record IsFitAt (end : ℕ) (state : State) : Type 0 where
  pub room : has_room end (rows_of state) ≡ true
  pub sound : IsSound state
  pub named : AreNamed (rows_of state)

-- a log on which no append has failed, with that room
pub record IsReady (log : Log) (state : State) : Type 0 where
  pub idle : is_settled log ≡ true
  pub shelf : shelf_of log ≡ PkgLib
  pub fit : IsFitAt (end_of log) state
