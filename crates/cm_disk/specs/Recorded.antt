-- What clauses see of a disk in memory.
use Rattle.std.specs.Prelude.{◌≡◌, ◌⊎◌, ℕ, ◌+◌, ◌-◌, ◌^◌, min, Bool, true, false, List, [], ◌∷◌, ◌++◌, length, Option, Some, Result, OnOk, OnErr, Vec}
use Rattle.std.specs.declared.alloc.Global.{Global}
use Rattle.cm_disk.specs.declared.memory.MemDisk.{MemDisk}
use Rattle.cm_disk.specs.declared.calls.Call.{Call}
use Rattle.cm_disk.specs.declared.calls.Work.{Work}
use Rattle.cm_disk.specs.declared.calls.Work.TheVariants.{Write}
use Rattle.cm_disk.specs.Disk.{File, Files}
use Rattle.cm_disk.specs.Images.{Stand}
use Rattle.cm_disk.specs.Stands.{stand_after, files_after, left_after, LeftSince}
use Rattle.cm_disk.specs.Slots.{is_listed}

-- the calls that changed something, or might have
abbrev pub calls_of : MemDisk → List Call
calls_of disk = disk.calls.items

-- how a place stands
abbrev pub stand_at : MemDisk → List ℕ → Stand
stand_at disk = stand_after disk.calls.items

-- what reads give
abbrev pub files_of : MemDisk → Files
files_of disk = files_after disk.calls.items

-- the same, as a disk that tells it
abbrev pub reads_of : MemDisk → Option Files
reads_of disk = Some (files_after disk.calls.items)

-- what a stop now may leave
abbrev pub leaves_of : MemDisk → List ℕ → File → Type 0
leaves_of disk = left_after disk.calls.items

-- the moment
abbrev pub moment_of : MemDisk → ℕ
moment_of disk = length disk.calls.items

-- what a stop since a moment might have left
abbrev pub since_of : MemDisk → ℕ → Files → Type 0
since_of disk t files = LeftSince disk.calls.items t files

-- how many device calls there were
abbrev pub number_of : MemDisk → ℕ
number_of disk = disk.number

-- the device call with this number is to fail
abbrev pub is_failing : MemDisk → ℕ → Bool
is_failing disk number = is_listed disk.fail.items disk.stop number

-- how often the disk has failed
abbrev pub faults_of : MemDisk → ℕ
faults_of disk = disk.faults

-- how often it has failed for want of memory
abbrev pub short_of : MemDisk → ℕ
short_of disk = disk.short

-- one more, up to the last value of a count
abbrev pub raised : ℕ → ℕ
raised count = min (count + 1) (2 ^ 64 - 1)

-- A device call takes one number. It fails exactly where that number is a listed one, or where there was no memory.
pub record FailsExactly {T E : Type 0} (old new : MemDisk) (result : Result T E) : Type 0 where
  pub number : number_of new ≡ raised (number_of old)
  pub listed : (number : ℕ) → is_failing new number ≡ is_failing old number
  pub ok : OnOk result ((is_failing old (number_of old) ≡ false) × (short_of new ≡ short_of old) × (faults_of new ≡ faults_of old))
  pub err : OnErr result (((is_failing old (number_of old) ≡ true) × (short_of new ≡ short_of old)) ⊎ (short_of new ≡ raised (short_of old)))
  pub counted : OnErr result (faults_of new ≡ raised (faults_of old))

-- a write of these bytes from this offset on
pub record IsWrite (offset : ℕ) (bytes : List ℕ) (work : Work) : Type 0 where
  pub piece : Vec ℕ Global
  pub write : work ≡ Write offset piece
  pub same : piece.items ≡ bytes

-- one call joins the record
pub record Joins (old new : MemDisk) (place : List ℕ) (asked : Work → Type 0) (done : Bool) : Type 0 where
  pub work : Work
  pub fits : asked work
  pub joins : calls_of new ≡ calls_of old ++ record { place = place; work = work; done = done } ∷ []

-- A device call that may change something joins the record as it was asked for, done or failed. Only where there was no memory
-- is it left out, and then it changed nothing.
pub record IsRecorded {T E : Type 0} (old new : MemDisk) (place : List ℕ) (asked : Work → Type 0) (result : Result T E) : Type 0 where
  pub ok : OnOk result (Joins old new place asked true)
  pub err : OnErr result (Joins old new place asked false ⊎ ((short_of new ≡ raised (short_of old)) × (calls_of new ≡ calls_of old)))
