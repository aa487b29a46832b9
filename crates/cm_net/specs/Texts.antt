-- Texts of a grammar, and where a text leaves it.
use Rattle.std.specs.Prelude.{ℕ, ◌+◌, ◌<◌, ◌≤◌, List, ◌++◌, length, take}

-- a grammar relates its texts to what they stand for. Some text of the grammar begins so
abbrev pub IsFront : {X : Type 0} → (List ℕ → X → Type 0) → List ℕ → Type 0
IsFront {X} Means front = (rest : List ℕ) × (x : X) × Means (front ++ rest) x

-- the text is none of the grammar. Some text of the grammar begins with its first bytes, up to this place, and none with
-- one byte more
pub record LeavesAt {X : Type 0} (Means : List ℕ → X → Type 0) (text : List ℕ) (place : ℕ) : Type 0 where
  pub within : place ≤ length text
  pub front : IsFront Means (take place text)
  pub longest : place < length text → IsFront Means (take (place + 1) text) → ⊥
  pub none : (x : X) → Means text x → ⊥
