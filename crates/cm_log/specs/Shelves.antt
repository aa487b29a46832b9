-- The three places of a log.
use Rattle.std.specs.Prelude.{◌≢◌, ℕ, List, codes}
use Rattle.cm_log.specs.declared.shelf.Shelf.{Shelf}
use Rattle.cm_log.specs.declared.shelf.Shelf.TheVariants.{PkgLib, Site}
use Rattle.cm_log.specs.declared.shelf.Side.{Side}
use Rattle.cm_log.specs.declared.shelf.Side.TheVariants.{First, Second}

-- its presence says that both logs were made; its bytes mean nothing
abbrev pub ready_place : Shelf → List ℕ
ready_place PkgLib = codes "PkgLib/ready"
ready_place Site = codes "Site/ready"

-- the two logs, of which one is live
abbrev pub log_place : Shelf → Side → List ℕ
log_place PkgLib First = codes "PkgLib/log.0"
log_place PkgLib Second = codes "PkgLib/log.1"
log_place Site First = codes "Site/log.0"
log_place Site Second = codes "Site/log.1"

-- a place that is none of the three
pub record IsElsewhere (shelf : Shelf) (q : List ℕ) : Type 0 where
  pub ready : q ≢ ready_place shelf
  pub logs : (side : Side) → q ≢ log_place shelf side

-- a place that is neither of the logs
abbrev pub IsNoLog : Shelf → List ℕ → Type 0
IsNoLog shelf q = (side : Side) → q ≢ log_place shelf side
