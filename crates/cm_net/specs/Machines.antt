-- Reading byte by byte.
use Rattle.std.specs.Prelude.{ℕ, List, [], ◌∷◌, Option}
use Rattle.std.specs.Option.{option_and_then}

-- the state behind a text, where each of its bytes has a step
abbrev pub run : {S : Type 0} → (S → ℕ → Option S) → Option S → List ℕ → Option S
run step o [] = o
run step o (b ∷ text) = run step (option_and_then (λ s. step s b) o) text
