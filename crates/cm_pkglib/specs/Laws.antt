-- The laws of rows and of records.
use Rattle.std.specs.Prelude.{◌≡◌, ◌↔◌, ℕ, List, [], ◌++◌, None, Some}
use Rattle.cm_base.specs.declared.hash.Hash.{Hash}
use Rattle.cm_pkglib.specs.declared.counts.Counts.{Counts}
use Rattle.cm_pkglib.specs.declared.change.Change.{Change}
use Rattle.cm_pkglib.specs.Changes.{AreBytes, IsChange, IsRecord, spelled, read_change}
use Rattle.cm_pkglib.specs.Counts.{count_of, sealed_of}
use Rattle.cm_pkglib.specs.Rows.{Rows, no_rows, then_replay, replay}
use Rattle.cm_pkglib.specs.Valid.{AreValid}

-- The rows of an empty library are valid, and what changes make of valid rows is valid.
pub record ReplayStaysValid : Type 0 where
  pub empty : AreValid no_rows
  pub replayed : (changes : List Change) (rows last : Rows) → AreValid rows → replay changes rows ≡ Some last → AreValid last

-- Changes may be replayed in two parts.
abbrev pub ReplayInParts : Type 0
ReplayInParts = (first second : List Change) (rows : Rows) → replay (first ++ second) rows ≡ then_replay second (replay first rows)

-- Bytes are read as a change exactly where they are its record, and what was written is read again.
pub record RecordsAreRead : Type 0 where
  pub read : (bytes : List ℕ) (change : Change) → AreBytes bytes → (read_change bytes ≡ Some change) ↔ IsRecord change bytes
  pub again : (change : Change) → IsChange change → read_change (spelled change) ≡ Some change

-- A change has one spelling, no other change has it, and none is a proper prefix of another.
pub record SpellingsAreOwn : Type 0 where
  pub one_spelling : (change : Change) (a b : List ℕ) → IsRecord change a → IsRecord change b → a ≡ b
  pub one_change : (a b : Change) (bytes : List ℕ) → IsRecord a bytes → IsRecord b bytes → a ≡ b
  pub no_prefix : (a b : Change) (bytes more : List ℕ) → IsRecord a bytes → IsRecord b (bytes ++ more) → more ≡ []

-- What is sealed is named.
abbrev pub SealedAreNamed : Type 0
SealedAreNamed = (counts : Counts) (hash : Hash) → count_of counts hash ≡ 0 → sealed_of counts hash ≡ None
