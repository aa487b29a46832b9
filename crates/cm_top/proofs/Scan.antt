-- The words so far, and those that are left.
use Rattle.std.proofs.Common.{ℕ, Bool, if◌then◌else◌, List, ◌++◌, Result, Ok, Err}
use Rattle.cm_top.specs.declared.fault.WordsFault.{WordsFault}
use Rattle.cm_top.specs.Words.{values_of}

-- these names, and then those of the rest
abbrev pub after : List (List ℕ) → Result (List (List ℕ)) WordsFault → Result (List (List ℕ)) WordsFault
after names (Ok rest) = Ok (names ++ rest)
after names (Err fault) = Err fault

-- the values among the words that are left
abbrev pub left : Bool → List (List ℕ) → List (List ℕ)
left ended words = if ended then words else values_of words
