-- A log and its reader on a disk.
use Rattle.std.specs.Prelude.{◌≡◌, ◌≢◌, ◌⊎◌, ℕ, ◌+◌, ◌-◌, ◌≤◌, ◌==◌, Bool, true, List, [], ◌∷◌, ◌++◌, length, take, drop, Option, Some}
use Rattle.std.specs.Option.{ForSome}
use Rattle.cm_disk.specs.Disk.{File, Files, bytes_of, IsImage, Only}
use Rattle.cm_log.specs.declared.shelf.Shelf.{Shelf}
use Rattle.cm_log.specs.declared.shelf.Side.{Side}
use Rattle.cm_log.specs.declared.shelf.Side.TheVariants.{First, Second}
use Rattle.cm_log.specs.declared.position.Block.{Block}
use Rattle.cm_log.specs.declared.state.Log.{Log}
use Rattle.cm_log.specs.declared.position.LogReader.{LogReader}
use Rattle.cm_log.specs.Shelves.{ready_place, log_place, IsElsewhere, IsNoLog}
use Rattle.cm_log.specs.Logs.{Entry, Reading, Closed, Shelved, NoLog, Live, ended, following, closed, fresh, rest_at, shelved, added}
use Rattle.cm_log.specs.Records.{HasRecords}

-- a log's shelf, the place of its file, the place of its closed gate, and how many records it has
abbrev pub shelf_of : Log → Shelf
shelf_of log = log.shelf

abbrev pub place_of : Log → List ℕ
place_of log = log.place

abbrev pub end_of : Log → ℕ
end_of log = log.end

-- where it is if the record of a failed append is there
abbrev pub end_with_of : Log → ℕ
end_with_of log = log.end_with

abbrev pub number_of : Log → ℕ
number_of log = log.number

-- no append has failed, or settling told what became of it
abbrev pub is_settled : Log → Bool
is_settled log = log.end_with == log.end

-- a reader's shelf, the place of its file, the gate of the record that comes next, and how many records stand before it
abbrev pub reader_shelf : LogReader → Shelf
reader_shelf reader = reader.shelf

abbrev pub reader_place : LogReader → List ℕ
reader_place reader = reader.place

abbrev pub reader_at : LogReader → ℕ
reader_at reader = reader.at

abbrev pub reader_number : LogReader → ℕ
reader_number reader = reader.number

-- the closed gate was met
abbrev pub has_ended : LogReader → Bool
has_ended reader = reader.ended

-- what is to come in these files
abbrev pub rest_of : Files → LogReader → Reading
rest_of files reader = rest_at files reader.place reader.at

-- at the three places a stop leaves what a read gives
pub record Rests (shelf : Shelf) (files : Files) (may_leave : List ℕ → File → Type 0) : Type 0 where
  pub ready : Only (files (ready_place shelf)) (may_leave (ready_place shelf))
  pub logs : (side : Side) → Only (files (log_place shelf side)) (may_leave (log_place shelf side))

-- the files of the log's shelf are a live log that ends where the log says
pub record EndsIn (files : Files) (log : Log) : Type 0 where
  pub entries : List Entry
  pub live : shelved log.shelf files ≡ Live log.place (closed entries log.end)
  pub number : log.number ≡ length entries

-- so it is, and all of it is durable
pub record IsSettled (files : Files) (may_leave : List ℕ → File → Type 0) (log : Log) : Type 0 where
  pub ends : EndsIn files log
  pub rests : Rests log.shelf files may_leave
  pub idle : log.end_with ≡ log.end

-- an append of this body to that log has failed: the record is there or not, in what reads give and in what a stop leaves
pub record IsUnsettled (files : Files) (may_leave : List ℕ → File → Type 0) (log : Log) (old : Shelved) (body : List ℕ) : Type 0 where
  pub entries : List Entry
  pub live : old ≡ Live log.place (closed entries log.end)
  pub number : log.number ≡ length entries
  pub end_with : log.end_with ≡ log.end + 5 + length body
  pub reads : (shelved log.shelf files ≡ old) ⊎ (shelved log.shelf files ≡ added body old)
  pub leaves : (left : Files) → IsImage may_leave left → (shelved log.shelf left ≡ old) ⊎ (shelved log.shelf left ≡ added body old)
  pub ready : Only (files (ready_place log.shelf)) (may_leave (ready_place log.shelf))
  pub other : (side : Side) → log_place log.shelf side ≢ log.place → Only (files (log_place log.shelf side)) (may_leave (log_place log.shelf side))

-- a log on its disk, settled or not
abbrev pub Stands : Files → (List ℕ → File → Type 0) → Log → Type 0
Stands files may_leave log = IsSettled files may_leave log ⊎ ((old : Shelved) × (body : List ℕ) × IsUnsettled files may_leave log old body)

-- the bytes that were read ahead are the file's
pub record IsAhead (file : File) (block : Block) : Type 0 where
  pub within : block.count ≤ length (bytes_of file) - block.start
  pub bytes : take block.count block.bytes ≡ take block.count (drop block.start (bytes_of file))

-- the live log in these files has the records that the reader passed, and then what is to come
pub record IsAt (files : Files) (reader : LogReader) : Type 0 where
  pub passed : List Entry
  pub live : shelved reader.shelf files ≡ Live reader.place (following passed (rest_of files reader))
  pub number : reader.number ≡ length passed
  pub within : reader.at ≤ length (bytes_of (files reader.place))
  pub ended : reader.ended ≡ true → rest_of files reader ≡ ended (Closed reader.at)
  pub ahead : IsAhead (files reader.place) reader.block

-- so it is, and all of it is durable
pub record IsReading (files : Files) (may_leave : List ℕ → File → Type 0) (reader : LogReader) : Type 0 where
  pub at : IsAt files reader
  pub rests : Rests reader.shelf files may_leave

-- At each other place is what a stop might have left before; the shelf has the log from before, with the record or without.
pub record IsBeforeOrAfter (shelf : Shelf) (place : List ℕ) (may_leave : List ℕ → File → Type 0) (old : Shelved) (body : List ℕ) (left : Files) : Type 0 where
  pub others : (q : List ℕ) → q ≢ place → may_leave q (left q)
  pub log : (shelved shelf left ≡ old) ⊎ (shelved shelf left ≡ added body old)

-- At each other place is what a crash might have left before. The shelf is as a crash might have left it before; or, only if reads gave
-- no log when the making began, it has none or a whole new one.
pub record IsMaking (shelf : Shelf) (files : Files) (may_leave : List ℕ → File → Type 0) (left : Files) : Type 0 where
  pub others : (q : List ℕ) → IsElsewhere shelf q → may_leave q (left q)
  pub log : IsImage may_leave left ⊎ ((shelved shelf files ≡ NoLog) × ((shelved shelf left ≡ NoLog) ⊎ (shelved shelf left ≡ fresh shelf)))

-- the bytes of a new log that is live, of generation 1, and of one that is not, each with its closed gate
abbrev pub live_log : List ℕ
live_log = 1 ∷ 1 ∷ 1 ∷ 0 ∷ 0 ∷ 0 ∷ 0 ∷ 0 ∷ 0 ∷ 0 ∷ 0 ∷ []

abbrev pub idle_log : List ℕ
idle_log = 0 ∷ 1 ∷ 0 ∷ 0 ∷ 0 ∷ 0 ∷ 0 ∷ 0 ∷ 0 ∷ 0 ∷ 0 ∷ []

-- both logs are there and durable, as they are in a new log, and nothing else has changed
pub record HasLogs (shelf : Shelf) (files now : Files) (may_leave : List ℕ → File → Type 0) : Type 0 where
  pub first : now (log_place shelf First) ≡ Some live_log
  pub second : now (log_place shelf Second) ≡ Some idle_log
  pub durable : (side : Side) → Only (now (log_place shelf side)) (may_leave (log_place shelf side))
  pub others : (q : List ℕ) → IsNoLog shelf q → now q ≡ files q

-- the three places hold the bytes of a new log
pub record HasNewLog (shelf : Shelf) (files : Files) : Type 0 where
  pub ready : files (ready_place shelf) ≡ Some []
  pub first : files (log_place shelf First) ≡ Some live_log
  pub second : files (log_place shelf Second) ≡ Some idle_log

-- where there was no log there is a new one, and nothing else has changed
pub record Makes (shelf : Shelf) (files now : Files) : Type 0 where
  pub none : shelved shelf files ≡ NoLog
  pub made : shelved shelf now ≡ fresh shelf
  pub bytes : HasNewLog shelf now
  pub others : (q : List ℕ) → IsElsewhere shelf q → now q ≡ files q

-- The making of a log failed: reads give what they gave; or, only if they gave no log, they give none or a whole new one.
abbrev pub MakesOrNot : Shelf → Option Files → Option Files → Type 0
MakesOrNot shelf old new = ForSome old (λ files. (now : Files) × (new ≡ Some now) × ((new ≡ old) ⊎ ((shelved shelf files ≡ NoLog) × ((shelved shelf now ≡ NoLog) ⊎ (shelved shelf now ≡ fresh shelf)))))

-- a record more, and nothing else has changed
pub record Adds (shelf : Shelf) (place : List ℕ) (files now : Files) (body : List ℕ) : Type 0 where
  pub log : shelved shelf now ≡ added body (shelved shelf files)
  -- the same in the bytes of the file
  pub spelled : (bodies : List (List ℕ)) → HasRecords (files place) bodies → HasRecords (now place) (bodies ++ body ∷ [])
  pub others : (q : List ℕ) → q ≢ place → now q ≡ files q
