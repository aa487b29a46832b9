-- What stands on a disk, what its calls do, and what a stop may leave.
use Rattle.std.specs.Prelude.{◌≡◌, ◌≢◌, ◌⊎◌, ℕ, ◌+◌, ◌-◌, ◌≤◌, min, Bool, true, if◌then◌else◌, List, [], ◌++◌, length, take, drop, Option, None, Some, is_some, slice_get, Result, OnOk, OnErr}
use Rattle.std.specs.Option.{ForSome}
use Rattle.std.specs.Str.{bytes_eq}
use Rattle.std.specs.Ordering.{nat_cmp, is_lt}
use Rattle.std.specs.Cmp.Lexicographic.{slice_cmp}
use Rattle.std.specs.declared.cmp.Ordering.TheVariants.{Less}

-- a file by its bytes, or none
abbrev pub File : Type 0
File = Option (List ℕ)

-- what stands at each place
abbrev pub Files : Type 0
Files = List ℕ → Option (List ℕ)

-- the bytes of a file, none where it is absent
abbrev pub bytes_of : Option (List ℕ) → List ℕ
bytes_of None = []
bytes_of (Some bytes) = bytes

-- byte i, where there is one
abbrev pub byte_at : Option (List ℕ) → ℕ → Option ℕ
byte_at file i = slice_get (bytes_of file) i

-- the same files, but this one at that place
abbrev pub put : Files → List ℕ → File → Files
put files place file q = if bytes_eq place q then file else files q

-- these bytes over the old ones, from an offset on
abbrev pub overwritten : List ℕ → ℕ → List ℕ → List ℕ
overwritten old at bytes = take at old ++ bytes ++ drop (at + length bytes) old

-- a file after a write, a cut and a removal
abbrev pub written : ℕ → List ℕ → File → File
written at bytes file = Some (overwritten (bytes_of file) at bytes)

abbrev pub shortened : ℕ → File → File
shortened size file = Some (take size (bytes_of file))

abbrev pub removed : File → File
removed file = None

-- any part of the work is done: what stands now is at each byte as before or as afterwards
pub record IsPartly (before after now : File) : Type 0 where
  pub bytes : (i : ℕ) → (byte_at now i ≡ byte_at before i) ⊎ (byte_at now i ≡ byte_at after i)
  pub there : (is_some now ≡ is_some before) ⊎ (is_some now ≡ is_some after)

-- the work is done at one place, or after a failure any part of it
pub record Does {T E : Type 0} (old new : Option Files) (place : List ℕ) (work : File → File) (result : Result T E) : Type 0 where
  pub ok : OnOk result (ForSome old (λ files. new ≡ Some (put files place (work (files place)))))
  pub err : OnErr result (ForSome old (λ files. (file : File) × (new ≡ Some (put files place file)) × IsPartly (files place) (work (files place)) file))
  pub silent : old ≡ None → new ≡ None

-- what a read of a file from an offset gives in a buffer
pub record Reads (file : File) (offset : ℕ) (buffer : List ℕ) (count : ℕ) : Type 0 where
  pub number : count ≡ min (length buffer) (length (bytes_of file) - offset)
  pub bytes : take count buffer ≡ take count (drop offset (bytes_of file))

-- what a stop may leave, place by place
abbrev pub IsImage : (List ℕ → File → Type 0) → Files → Type 0
IsImage may_leave files = (q : List ℕ) → may_leave q (files q)

-- a stop may leave no more than before
abbrev pub LeavesNoMore : (List ℕ → File → Type 0) → (List ℕ → File → Type 0) → Type 0
LeavesNoMore old new = (q : List ℕ) (file : File) → new q file → old q file

-- byte i is this one whatever a stop leaves
abbrev pub IsSure : (File → Type 0) → ℕ → ℕ → Type 0
IsSure may_leave i byte = (file : File) → may_leave file → byte_at file i ≡ Some byte

-- a file is there whatever a stop leaves
abbrev pub IsThere : (File → Type 0) → Type 0
IsThere may_leave = (file : File) → may_leave file → is_some file ≡ true

-- a stop may leave no more than before at each other place, and at this one what was sure of the kept bytes is so
pub record Touches (place : List ℕ) (kept : ℕ → Type 0) (old new : List ℕ → File → Type 0) : Type 0 where
  pub others : (q : List ℕ) (file : File) → q ≢ place → new q file → old q file
  pub bytes : (i byte : ℕ) → kept i → IsSure (old place) i byte → IsSure (new place) i byte

-- a stop leaves this and nothing else
abbrev pub Only : File → (File → Type 0) → Type 0
Only file may_leave = (left : File) → may_leave left → left ≡ file

-- Time goes on: a stop since t might have left what it might have left before, or what it may leave now.
pub record Elapses (before now : ℕ) (past since : ℕ → Files → Type 0) (may_leave : List ℕ → File → Type 0) : Type 0 where
  pub later : before ≤ now
  pub nothing_else : (t : ℕ) (files : Files) → t ≤ before → since t files → past t files ⊎ IsImage may_leave files
  pub keeps : (t : ℕ) (files : Files) → t ≤ before → past t files → since t files

-- A stop at any moment since old leaves files that have P.
pub record LeavesOnly {D : Type 0} (moment : D → ℕ) (left_since : D → ℕ → Files → Type 0) (old new : D) (P : Files → Type 0) : Type 0 where
  pub later : moment old ≤ moment new
  pub each : (files : Files) → left_since new (moment old) files → P files
  -- for a run that began earlier
  pub before : (t : ℕ) (files : Files) → t ≤ moment old → left_since new t files → left_since old t files ⊎ P files

-- a place is above another in byte order, or there is no other
abbrev pub is_above : Option (List ℕ) → List ℕ → Bool
is_above None q = true
is_above (Some after) q = is_lt (slice_cmp nat_cmp after q)

-- the least place above, of those that are there
pub record IsNext (files : Files) (after next : Option (List ℕ)) : Type 0 where
  pub there : (q : List ℕ) → next ≡ Some q → is_some (files q) ≡ true
  pub least : (q : List ℕ) → is_above after q ≡ true → is_some (files q) ≡ true → (n : List ℕ) × (next ≡ Some n) × ((n ≡ q) ⊎ (slice_cmp nat_cmp n q ≡ Less))
