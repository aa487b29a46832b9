-- The laws of the records of a site's log.
use Rattle.std.specs.Prelude.{◌≡◌, ◌↔◌, ℕ, List, [], ◌++◌, Some}
use Rattle.cm_pkglib.specs.Changes.{AreBytes}
use Rattle.cm_notes.specs.declared.note.Note.{Note}
use Rattle.cm_notes.specs.Notes.{IsNote, IsRecord, spelled}
use Rattle.cm_notes.specs.Reading.{read_note}

-- Bytes are read as a note exactly where they are its record, and what was written is read again.
pub record NotesAreRead : Type 0 where
  pub read : (bytes : List ℕ) (note : Note) → AreBytes bytes → (read_note bytes ≡ Some note) ↔ IsRecord note bytes
  pub again : (note : Note) → IsNote note → read_note (spelled note) ≡ Some note

-- A note has one spelling, no other note has it, and none is a proper prefix of another.
pub record SpellingsAreOwn : Type 0 where
  pub one_spelling : (note : Note) (a b : List ℕ) → IsRecord note a → IsRecord note b → a ≡ b
  pub one_note : (a b : Note) (bytes : List ℕ) → IsRecord a bytes → IsRecord b bytes → a ≡ b
  pub no_prefix : (a b : Note) (bytes more : List ℕ) → IsRecord a bytes → IsRecord b (bytes ++ more) → more ≡ []
