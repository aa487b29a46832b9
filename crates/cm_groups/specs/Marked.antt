-- Marked numbers of groups.
use Rattle.std.specs.Prelude.{ℕ, Bool, false, IsTrue, List}
use Rattle.std.specs.List.{slice_get}
use Rattle.std.specs.Option.{unwrap_or}

-- there is a mark for the number, and it is true
abbrev pub is_marked : List Bool → ℕ → Bool
is_marked marks number = unwrap_or (slice_get marks number) false

-- a marked number passes the test
pub record SomeMarked (marks : List Bool) (test : ℕ → Bool) : Type 0 where
  pub number : ℕ
  pub marked : IsTrue (is_marked marks number)
  pub passes : IsTrue (test number)
