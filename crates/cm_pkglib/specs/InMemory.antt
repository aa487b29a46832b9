-- The rows as they are kept in memory.
use Rattle.std.specs.Prelude.{ℕ, ◌-◌, max, cond}
use Rattle.cm_pkglib.specs.declared.change.Change.{Change}
use Rattle.cm_pkglib.specs.Rows.{Rows, is_opened, after}

-- The rows, and for how many further jobs memory is taken: each of them begins and ends without any.
pub record RowsInMemory : Type 0 where
  pub rows : Rows
  pub room : ℕ

-- for how many further jobs a change needs room
abbrev pub needed_room : Change → ℕ
needed_room change = cond (is_opened change) 1 0

-- there is room for so many further jobs at least
abbrev pub with_room : ℕ → RowsInMemory → RowsInMemory
with_room room rows = record { rows = rows.rows; room = max room rows.room }

-- the rows after a change, which takes the room that it needs
abbrev pub applied : Change → RowsInMemory → RowsInMemory
applied change rows = record { rows = after change rows.rows; room = rows.room - needed_room change }
