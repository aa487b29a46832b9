-- Calls that are to fail, by their numbers.
use Rattle.std.specs.Prelude.{ℕ, Bool, List, ◌==◌}
use Rattle.std.specs.List.{list_any}

-- the call of this number, from 0, is listed
abbrev pub is_listed : List ℕ → ℕ → Bool
is_listed fail number = list_any (λ listed. listed == number) fail
