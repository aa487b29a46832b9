-- What the files of a shelf are: no log, one that is unreadable at a place, or a live one with its records.
use Rattle.std.specs.Prelude.{◌≡◌, ℕ, zero, suc, ◌+◌, ◌==◌, not, nat_lt, if◌then◌else◌, List, [], ◌∷◌, ◌++◌, length, map, take, drop, Option, None, Some}
use Rattle.std.specs.Int.{from_le_bytes, w32}
use Rattle.cm_disk.specs.Disk.{File, Files, bytes_of}
use Rattle.cm_log.specs.declared.shelf.Shelf.{Shelf}
use Rattle.cm_log.specs.declared.shelf.Side.TheVariants.{First, Second}
use Rattle.cm_log.specs.declared.head.Head.{Head}
use Rattle.cm_log.specs.declared.head.Choice.{Choice}
use Rattle.cm_log.specs.declared.head.Choice.TheVariants.{Chosen, Refused}
use Rattle.cm_log.specs.declared.prefix.Prefix.{Prefix}
use Rattle.cm_log.specs.declared.prefix.Prefix.TheVariants.{Shut, Cut, TooLong, Body}
use Rattle.cm_log.specs.Shelves.{ready_place, log_place}
use Rattle.cm_log.specs.Heads.{head_of, choice}

-- a record: the place of its gate in the file, and its body
pub record Entry : Type 0 where
  pub gate : ℕ
  pub body : List ℕ

-- how the records end: at a gate that is not open, or at a place that is unreadable
pub data Ending : Type 0 where
  Closed : ℕ → Ending
  Broken : ℕ → Ending

-- the records of a file, as far as they go, and how they end
pub record Reading : Type 0 where
  pub entries : List Entry
  pub ending : Ending

-- what the three places of a shelf are
pub data Shelved : Type 0 where
  NoLog : Shelved
  Unread : List ℕ → ℕ → Shelved
  Live : List ℕ → Reading → Shelved

abbrev pub bodies_of : List Entry → List (List ℕ)
bodies_of entries = map (λ (entry : Entry). entry.body) entries

-- no record any more
abbrev pub ended : Ending → Reading
ended ending = record { entries = []; ending = ending }

-- these records, and behind them what is read there
abbrev pub following : List Entry → Reading → Reading
following entries reading = record { entries = entries ++ reading.entries; ending = reading.ending }

-- the bytes from a place on, at most so many
abbrev pub piece : List ℕ → ℕ → ℕ → List ℕ
piece bytes at count = take count (drop at bytes)

-- the gate and the length before a body, of the five bytes there
abbrev pub prefix_of : List ℕ → Prefix
prefix_of [] = Cut
prefix_of (gate ∷ rest) = if not (gate == 1) then Shut else (if nat_lt (length rest) 4 then Cut else (if nat_lt 65536 (from_le_bytes w32 rest) then TooLong else Body (from_le_bytes w32 rest)))

-- a body of so many bytes, unless the file ends inside it, and what is read behind it
abbrev pub with_body : List ℕ → ℕ → ℕ → Reading → Reading
with_body bytes at len rest = if nat_lt (length (piece bytes (at + 5) len)) len then ended (Broken (length bytes)) else following (record { gate = at; body = piece bytes (at + 5) len } ∷ []) rest

-- by the prefix that stands there: unreadable is the file's length where it ends, the length's place where that is above 65,536
abbrev pub read_by : Prefix → List ℕ → ℕ → (ℕ → Reading) → Reading
read_by Shut bytes at rest = ended (Closed at)
read_by Cut bytes at rest = ended (Broken (length bytes))
read_by TooLong bytes at rest = ended (Broken (at + 1))
read_by (Body len) bytes at rest = with_body bytes at len (rest (at + 5 + len))

-- the records from a gate on, at most so many
abbrev pub reading_within : ℕ → List ℕ → ℕ → Reading
reading_within zero bytes at = ended (Broken (length bytes))
reading_within (suc most) bytes at = read_by (prefix_of (piece bytes at 5)) bytes at (reading_within most bytes)

-- the records from a gate on; each takes a byte at least, so the file's length is enough
abbrev pub reading_at : List ℕ → ℕ → Reading
reading_at bytes at = reading_within (length bytes) bytes at

-- the head of the file at a place
abbrev pub head_at : Files → List ℕ → Head
head_at files place = head_of (take 10 (bytes_of (files place)))

-- the records from a gate on, of the file at a place
abbrev pub rest_at : Files → List ℕ → ℕ → Reading
rest_at files place at = reading_at (bytes_of (files place)) at

abbrev pub told_by : Choice → Shelf → Files → Shelved
told_by (Refused side at) shelf files = Unread (log_place shelf side) at
told_by (Chosen side) shelf files = Live (log_place shelf side) (rest_at files (log_place shelf side) 10)

abbrev pub shelved_by : File → Shelf → Files → Shelved
shelved_by None shelf files = NoLog
shelved_by (Some ready) shelf files = told_by (choice (head_at files (log_place shelf First)) (head_at files (log_place shelf Second))) shelf files

-- what the files of a shelf are
abbrev pub shelved : Shelf → Files → Shelved
shelved shelf files = shelved_by (files (ready_place shelf)) shelf files

-- what was found of a shelf: no log, or which log is live or refused
abbrev pub IsLook : Option Choice → Shelf → Files → Type 0
IsLook None shelf files = shelved shelf files ≡ NoLog
IsLook (Some found) shelf files = shelved shelf files ≡ told_by found shelf files

-- these records, and a closed gate behind them
abbrev pub closed : List Entry → ℕ → Reading
closed entries end = record { entries = entries; ending = Closed end }

-- a new log
abbrev pub fresh : Shelf → Shelved
fresh shelf = Live (log_place shelf First) (closed [] 10)

-- a record more, at the closed gate
abbrev pub extended : List ℕ → List Entry → Ending → Reading
extended body entries (Closed end) = closed (entries ++ record { gate = end; body = body } ∷ []) (end + 5 + length body)
extended body entries (Broken at) = record { entries = entries; ending = Broken at }

abbrev pub added : List ℕ → Shelved → Shelved
added body NoLog = NoLog
added body (Unread place at) = Unread place at
added body (Live place reading) = Live place (extended body reading.entries reading.ending)
