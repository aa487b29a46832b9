-- How the calls on a log end, one record an outcome.
use Rattle.std.specs.Prelude.{◌≡◌, ℕ, ◌+◌, ◌^◌, ◌<◌, ◌≤◌, Bool, true, false, if◌then◌else◌, List, length, Result, IsErrOf, OnOk}
use Rattle.cm_disk.specs.Disk.{File, Files}
use Rattle.cm_log.specs.declared.faults.AppendFault.{AppendFault}
use Rattle.cm_log.specs.declared.faults.AppendFault.TheVariants.{TooLong, Full}
use Rattle.cm_log.specs.declared.state.Log.{Log}
use Rattle.cm_log.specs.declared.position.LogReader.{LogReader}
use Rattle.cm_log.specs.Settled.{shelf_of, place_of, end_of, end_with_of, number_of, is_settled, reader_at, reader_number, has_ended, IsSettled, Stands}

-- it is the log of the same file
pub record IsSameLog (old new : Log) : Type 0 where
  pub shelf : shelf_of new ≡ shelf_of old
  pub place : place_of new ≡ place_of old

-- A record more: the log is settled, and ends behind it. It is numbered by the records before it.
pub record IsExtended (old new : Log) (body : List ℕ) (answer : ℕ) : Type 0 where
  pub number : answer ≡ number_of old
  pub count : number_of new ≡ number_of old + 1
  pub end : end_of new ≡ end_of old + 5 + length body
  pub idle : is_settled new ≡ true

-- A failed append: the log ends where it ended, and is unsettled. If the record is there it ends behind that.
pub record IsPending (old new : Log) (body : List ℕ) : Type 0 where
  pub count : number_of new ≡ number_of old
  pub end : end_of new ≡ end_of old
  pub end_with : end_with_of new ≡ end_of old + 5 + length body
  pub idle : is_settled new ≡ false

-- `TooLong` if and only if the body has more than 65,536 bytes; `Full` if and only if it has not and the log would pass 2^40 bytes.
-- Then nothing has changed.
pub record IsRefusal {T D : Type 0} (body : List ℕ) (disk disk' : D) (log log' : Log) (result : Result T AppendFault) : Type 0 where
  pub too_long : (len : ℕ) → IsErrOf result (TooLong len) → (65536 < length body) × (len ≡ length body) × (disk' ≡ disk) × (log' ≡ log)
  pub full : IsErrOf result Full → (length body ≤ 65536) × (2 ^ 40 < end_of log + length body + 6) × (disk' ≡ disk) × (log' ≡ log)
  pub is_too_long : 65536 < length body → IsErrOf result (TooLong (length body))
  pub is_full : length body ≤ 65536 → 2 ^ 40 < end_of log + length body + 6 → IsErrOf result Full

-- Settling has told whether the record of the failed append is there: the log is settled, and ends behind the record or where it ended.
pub record IsFound (old new : Log) (there : Bool) : Type 0 where
  pub count : number_of new ≡ (if there then number_of old + 1 else number_of old)
  pub end : end_of new ≡ (if there then end_with_of old else end_of old)
  pub idle : is_settled new ≡ true

-- the log still stands on its disk, and is settled after Ok
pub record StandsAfter {T E : Type 0} (result : Result T E) (files : Files) (may_leave : List ℕ → File → Type 0) (log : Log) : Type 0 where
  pub settled : OnOk result (IsSettled files may_leave log)
  pub stands : Stands files may_leave log

-- the reader is where it was; it may have read ahead
pub record IsWhere (old new : LogReader) : Type 0 where
  pub at : reader_at new ≡ reader_at old
  pub number : reader_number new ≡ reader_number old
  pub ended : has_ended new ≡ has_ended old
