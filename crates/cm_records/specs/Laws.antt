-- What is known of records and of their places, in one.
use Rattle.std.specs.Prelude.{◌≡◌, ℕ, ◌<◌, ◌^◌}
use Rattle.cm_log.specs.declared.shelf.Shelf.{Shelf}
use Rattle.cm_log.specs.declared.shelf.Side.{Side}
use Rattle.cm_log.specs.Shelves.{ready_place, log_place}
use Rattle.cm_register.specs.Laws.{LooksSame, LookGoesOn, NamedAreNumbered}
use Rattle.cm_textlib.specs.Places.{topology_place}

pub record LawsBelow : Type 0 where
  pub looks_same : LooksSame
  pub goes_on : LookGoesOn
  pub numbered : NamedAreNumbered
  pub own : (a b : ℕ) → b < 2 ^ 32 → topology_place a ≡ topology_place b → a ≡ b
  pub no_ready : (number : ℕ) (shelf : Shelf) → topology_place number ≡ ready_place shelf → ⊥
  pub no_log : (number : ℕ) (shelf : Shelf) (side : Side) → topology_place number ≡ log_place shelf side → ⊥
