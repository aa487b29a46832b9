-- Why the calls of a library refuse.
use Rattle.std.specs.Prelude.{◌≡◌, ◌⊎◌, ℕ, ◌+◌, ◌-◌, ◌^◌, nat_le, nat_lt, List, length, Option, None, Some, option_map, Result, Err, IfErr, if◌then◌else◌}
use Rattle.cm_pkglib.specs.declared.fault.RowFault.{RowFault}
use Rattle.cm_pkglib.specs.declared.fault.RowFault.TheVariants.{NoJob as RowNoJob, NoVersion as RowNoVersion, VersionThere as RowVersionThere, JobThere as RowJobThere, TooManyVersions as RowTooManyVersions, TooManyEntries as RowTooManyEntries, TooManyJobs as RowTooManyJobs, WrongJob}
use Rattle.cm_pkglib.specs.Rows.{fault_of, opened_fault}
use Rattle.cm_log.specs.declared.faults.LogFault.{LogFault}
use Rattle.cm_log.specs.declared.faults.LogFault.TheVariants.{Disk as LogDisk, NoLibrary as LogMissing, Unreadable as LogUnreadable}
use Rattle.cm_state.specs.declared.fault.OpenFault.{OpenFault}
use Rattle.cm_state.specs.declared.fault.OpenFault.TheVariants.{Disk as OpenDisk, NoLibrary, Unreadable as OpenUnreadable}
use Rattle.cm_state.specs.declared.fault.LibFault.{LibFault}
use Rattle.cm_state.specs.declared.fault.LibFault.TheVariants.{NoJob, NoVersion, VersionThere, JobThere, TooManyVersions, TooManyEntries, TooManyJobs, Spent, Memory, Disk}
use Rattle.cm_state.specs.State.{State, rows_of, count_in, entries_in}
use Rattle.cm_state.specs.Changes.{StateChange, record_of}

-- why the log is not read
abbrev pub of_log_fault : LogFault → OpenFault
of_log_fault LogDisk = OpenDisk
of_log_fault LogMissing = NoLibrary
of_log_fault (LogUnreadable place at) = OpenUnreadable place at

-- the log's end is past its place: only ends of jobs are added then
abbrev pub most_end : ℕ
most_end = 2 ^ 40 - 1048576

-- why the rows refuse a change, in the order of the causes
abbrev pub of_row_fault : RowFault → LibFault
of_row_fault RowNoJob = NoJob
of_row_fault RowNoVersion = NoVersion
of_row_fault RowVersionThere = VersionThere
of_row_fault (RowJobThere job) = JobThere job
of_row_fault RowTooManyVersions = TooManyVersions
of_row_fault RowTooManyEntries = TooManyEntries
of_row_fault RowTooManyJobs = TooManyJobs
of_row_fault WrongJob = Spent

abbrev pub spent_or : ℕ → Option RowFault → Option LibFault
spent_or end (Some fault) = Some (of_row_fault fault)
spent_or end None = if nat_lt most_end end then Some Spent else None

-- why a library in this state, whose log ends there, refuses to begin a version with so many entries: the first cause that holds
abbrev pub begin_fault : State → ℕ → List ℕ → ℕ → ℕ → Option LibFault
begin_fault state end id version entries = spent_or end (opened_fault (rows_of state) state.next id version entries)

-- why it refuses to begin a first version with so many entries: the first limit that is reached
abbrev pub limit_fault : State → ℕ → ℕ → Option LibFault
limit_fault state end entries =
    if nat_le 8192 (count_in state) then Some TooManyVersions
    else (if nat_lt 400000 (entries_in state + entries) then Some TooManyEntries
    else (if nat_le 256 (length state.jobs) then Some TooManyJobs
    else (if nat_le (2 ^ 64 - 1) state.next then Some Spent
    else spent_or end None)))

-- why it refuses a change other than that a job begins
abbrev pub change_fault : State → StateChange → Option LibFault
change_fault state change = option_map of_row_fault (fault_of (rows_of state) (record_of change))

-- a call refuses for this cause; where there is none, only memory or the disk keeps it from its work
abbrev pub Refuses : {T : Type 0} → Option LibFault → Result T LibFault → Type 0
Refuses (Some fault) result = result ≡ Err fault
Refuses None result = IfErr result (λ fault. (fault ≡ Memory) ⊎ (fault ≡ Disk))

-- the same of a call that takes no memory
abbrev pub RefusesOr : {T : Type 0} → Option LibFault → Result T LibFault → Type 0
RefusesOr (Some fault) result = result ≡ Err fault
RefusesOr None result = IfErr result (λ fault. fault ≡ Disk)
