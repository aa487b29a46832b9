-- The numbers of the groups that hold a client.
use Rattle.std.specs.Prelude.{ℕ, ◌↔◌, Bool, List, map, filter, Contains}
use Rattle.std.specs.List.{flat_map}
use Rattle.std.specs.List.Sorted.{IsStrictlyIncreasing}
use Rattle.cm_net.specs.declared.boundary.Boundary.{Boundary}

-- the numbers of the rows whose boundary passes the test
abbrev pub numbers_of : (Boundary → Bool) → List (Boundary × ℕ) → List ℕ
numbers_of holds rows = map (λ row. row.1) (filter (λ row. holds row.0) rows)

-- each boundary of the lists, with the number of its list
abbrev pub rows_in : List (List Boundary × ℕ) → List (Boundary × ℕ)
rows_in lists = flat_map (λ list. map (λ boundary. (boundary, list.1)) list.0) lists

-- each number of the one list is in the other and there are no others; in the second they rise, each once
pub record IsRisingOf (numbers groups : List ℕ) : Type 0 where
  pub rising : IsStrictlyIncreasing groups
  pub same : (number : ℕ) → Contains groups number ↔ Contains numbers number
