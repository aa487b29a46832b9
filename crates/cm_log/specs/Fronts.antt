-- A file by what stands before its closed gate.
use Rattle.std.specs.Prelude.{◌≡◌, ◌≢◌, ◌⊎◌, ℕ, List, ◌∷◌, ◌++◌, Some, Result, OnOk}
use Rattle.cm_disk.specs.Disk.{File, Files}
use Rattle.cm_log.specs.Records.{measured}

-- these bytes, and then a gate that is not open
pub record IsShut (front : List ℕ) (file : File) : Type 0 where
  pub gate : ℕ
  pub rest : List ℕ
  pub spells : file ≡ Some (front ++ gate ∷ rest)
  pub shut : gate ≢ 1

-- these bytes with a record more
abbrev pub one_more : List ℕ → List ℕ → List ℕ
one_more front body = front ++ 1 ∷ measured body

-- the gate is closed, or open before the record
abbrev pub IsEither : List ℕ → List ℕ → File → Type 0
IsEither front body file = IsShut front file ⊎ IsShut (one_more front body) file

-- so it is in files that a stop left; at each other place is what it might have left before
pub record IsGated (place : List ℕ) (may_leave : List ℕ → File → Type 0) (front body : List ℕ) (left : Files) : Type 0 where
  pub others : (q : List ℕ) → q ≢ place → may_leave q (left q)
  pub log : IsEither front body (left place)

-- the record is added at one place, or after a failure it may be
pub record Commits {T E : Type 0} (place front body : List ℕ) (files now : Files) (result : Result T E) : Type 0 where
  pub ok : OnOk result (IsShut (one_more front body) (now place))
  pub either : IsEither front body (now place)
  pub others : (q : List ℕ) → q ≢ place → now q ≡ files q
