-- Which groups are current for a client.
use Rattle.std.specs.Prelude.{ℕ, ◌<◌, ◌↔◌, Bool, false, IsTrue, List, Option, Contains, length}
use Rattle.std.specs.List.{list_any, slice_get}
use Rattle.std.specs.List.Sorted.{IsStrictlyIncreasing}
use Rattle.std.specs.Option.{option_map_or}
use Rattle.cm_net.specs.declared.address.Address.{Address}
use Rattle.cm_net.specs.Boundaries.{is_inside}
use Rattle.cm_groups.specs.declared.group.Group.{Group}

-- the group of that number is there and passes the test
abbrev pub passes : (Group → Bool) → List Group → ℕ → Bool
passes test groups number = option_map_or test (slice_get groups number) false

-- a boundary of the group holds the client with this address, of this site
abbrev pub holds_client : Address → Option (List ℕ) → Group → Bool
holds_client address site group = list_any (λ boundary. is_inside boundary address site) group.boundaries

-- the group of that number is current for the client
abbrev pub is_current : List Group → Address → Option (List ℕ) → ℕ → Bool
is_current groups address site number = passes (holds_client address site) groups number

-- exactly the numbers that pass the test, rising, each once
pub record AreThose (test : ℕ → Bool) (numbers : List ℕ) : Type 0 where
  pub rising : IsStrictlyIncreasing numbers
  pub same : (number : ℕ) → Contains numbers number ↔ IsTrue (test number)

-- the group of that number is there, and is not the default one
abbrev pub IsThere : List Group → ℕ → Type 0
IsThere groups number = (0 < number) × (number < length groups)
