-- Which images a stop may leave of one place, by what reads give, what is durable and what was touched.
use Rattle.std.specs.Prelude.{◌≡◌, ◌⊎◌, ℕ, Bool, true, false, ◌&&◌, ◌||◌, nat_le, nat_lt, List, [], ◌∷◌, Option, None, Some, is_some}
use Rattle.cm_disk.specs.declared.calls.Span.{Span}
use Rattle.cm_disk.specs.Disk.{File, byte_at}

-- a place: what reads give, what is durable, what was touched since its last successful sync, and whether it was removed since
pub record Stand : Type 0 where
  pub now : Option (List ℕ)
  pub durable : Option (List ℕ)
  pub touched : List Span
  pub removed : Bool

-- a place that is wholly durable, as after a successful sync
abbrev pub at_rest : Option (List ℕ) → Stand
at_rest file = record { now = file; durable = file; touched = []; removed = false }

-- byte i is before the end, if there is one
abbrev pub is_before : ℕ → Option ℕ → Bool
is_before i None = true
is_before i (Some to) = nat_lt i to

-- byte i is in one of the ranges
abbrev pub is_touched : List Span → ℕ → Bool
is_touched [] i = false
is_touched (span ∷ spans) i = (nat_le span.from i && is_before i span.to) || is_touched spans i

-- A stop may leave this file: the durable one where nothing is touched. Else it may be absent where it is durably absent or was
-- removed, and has otherwise each durable byte outside the touched ranges; all else is free in value and length.
pub record IsLeft (s : Stand) (file : File) : Type 0 where
  pub clean : s.touched ≡ [] → s.removed ≡ false → file ≡ s.durable
  pub absent : file ≡ None → (s.durable ≡ None) ⊎ (s.removed ≡ true)
  pub bytes : is_some file ≡ true → (i byte : ℕ) → is_touched s.touched i ≡ false → byte_at s.durable i ≡ Some byte → byte_at file i ≡ Some byte
