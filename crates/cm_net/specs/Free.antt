-- Texts without a byte.
use Rattle.std.specs.Prelude.{◌≡◌, ℕ, List, [], ◌∷◌}

-- the text has no such byte
abbrev pub IsFree : ℕ → List ℕ → Type 0
IsFree b [] = Unit {0}
IsFree b (x ∷ xs) = (x ≡ b → ⊥) × IsFree b xs
