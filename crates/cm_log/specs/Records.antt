-- The bytes of a live log as a spelling of its records.
use Rattle.std.specs.Prelude.{◌≡◌, ◌≢◌, ℕ, ◌+◌, ◌≤◌, List, [], ◌∷◌, ◌++◌, length, Some}
use Rattle.std.specs.Int.{to_le_bytes, w32}
use Rattle.cm_disk.specs.Disk.{File}
use Rattle.cm_log.specs.Logs.{Entry}

-- a body behind its length
abbrev pub measured : List ℕ → List ℕ
measured body = to_le_bytes w32 (length body) ++ body

-- open gates, each with a body
abbrev pub spelled : List (List ℕ) → List ℕ
spelled [] = []
spelled (body ∷ bodies) = 1 ∷ measured body ++ spelled bodies

-- each body is short
abbrev pub AreShort : List (List ℕ) → Type 0
AreShort [] = Unit {0}
AreShort (body ∷ bodies) = (length body ≤ 65536) × AreShort bodies

-- the place of the closed gate behind these bodies
abbrev pub end_behind : List (List ℕ) → ℕ
end_behind bodies = 10 + length (spelled bodies)

-- a file has these bodies behind the head of a live log of form 1, and then a closed gate
pub record HasRecords (file : File) (bodies : List (List ℕ)) : Type 0 where
  pub generation : List ℕ
  pub gate : ℕ
  pub rest : List ℕ
  pub spells : file ≡ Some (((1 ∷ 1 ∷ generation) ++ spelled bodies) ++ gate ∷ rest)
  pub long : length generation ≡ 8
  pub short : AreShort bodies
  pub shut : gate ≢ 1

-- the records of these bodies, the first of which has its gate there
abbrev pub entries_from : ℕ → List (List ℕ) → List Entry
entries_from at [] = []
entries_from at (body ∷ bodies) = record { gate = at; body = body } ∷ entries_from (at + 5 + length body) bodies
