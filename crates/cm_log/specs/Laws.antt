-- The laws of a live log's bytes, and of a log at rest.
use Rattle.std.specs.Prelude.{◌≡◌, ℕ, ◌<◌, ◌^◌, List, ◌∷◌, length, take, slice_index, Some}
use Rattle.cm_disk.specs.Disk.{File, Files, bytes_of, IsImage}
use Rattle.cm_log.specs.declared.shelf.Shelf.{Shelf}
use Rattle.cm_log.specs.Logs.{Entry, bodies_of, closed, reading_at, shelved}
use Rattle.cm_log.specs.Records.{HasRecords, end_behind, entries_from}
use Rattle.cm_log.specs.Settled.{Rests}

-- A file that spells records is read as these and no others, with the closed gate behind them; and a file of bytes that begins as
-- a live log of form 1, and is read as records up to a closed gate, spells these.
pub record RecordsAreRead : Type 0 where
  pub read : (file : File) (bodies : List (List ℕ)) → HasRecords file bodies → reading_at (bytes_of file) 10 ≡ closed (entries_from 10 bodies) (end_behind bodies)
  pub spells : (bytes generation : List ℕ) (entries : List Entry) (end : ℕ) → ((i : ℕ) → slice_index bytes i < 2 ^ 8) → take 10 bytes ≡ 1 ∷ 1 ∷ generation → length generation ≡ 8
      → reading_at bytes 10 ≡ closed entries end → HasRecords (Some bytes) (bodies_of entries)
  pub one_list : (file : File) (a b : List (List ℕ)) → HasRecords file a → HasRecords file b → a ≡ b

-- where a log is at rest in these files, each image has the same log
abbrev pub IsSameInEachImage : Shelf → (List ℕ → File → Type 0) → Type 0
IsSameInEachImage shelf may_leave = (files left : Files) → Rests shelf files may_leave → IsImage may_leave left → shelved shelf left ≡ shelved shelf files
