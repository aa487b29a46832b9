-- The step of each command on one opened library: the reply, and what is done to the library.
use Rattle.std.specs.Prelude.{ℕ, ◌+◌, ◌==◌, Bool, true, false, if◌then◌else◌, is_some, List, [], ◌∷◌, length, find, Option, None, Some, Result, Ok, Err}
use Rattle.cm_check.specs.declared.finding.Finding.{Finding}
use Rattle.cm_datalib.specs.Places.{is_manifest_place}
use Rattle.cm_filelib.specs.Places.{is_file_place}
use Rattle.cm_pkglib.specs.Rows.{last_of, is_of}
use Rattle.cm_intake.specs.Readings.{Readings}
use Rattle.cm_intake.specs.Intake.{Intake, intake}
use Rattle.cm_intake.specs.declared.taken.Taken.{Taken}
use Rattle.cm_intake.specs.declared.fault.IntakeFault.{IntakeFault}
use Rattle.cm_intake.specs.declared.fault.IntakeFault.TheVariants.{Folder, TooManyFiles as ManyFiles, BadPath as PathOff, SamePath as PathTwice, FileTooLong as LongFile, TooManyVersions as ManyVersions, TooManyEntries as ManyEntries, TooManyJobs as ManyJobs, Spent as NoneLeft, Changed as OtherBytes, Disk as DiskFails, Memory as NoMemory}
use Rattle.cm_state.specs.Purged.{counted}
use Rattle.cm_state.specs.State.{Held, State, held_by_job, version_rows, job_rows}
use Rattle.cm_state.specs.Changes.{StateChange, Dropped as JobDropped}
use Rattle.cm_tree.specs.declared.entry.Entry.{Entry}
use Rattle.cm_site.specs.Contents.{site}
use Rattle.cm_site.specs.declared.reply.Refusal.TheVariants.{NoVersion, PackageThere, NoPackage, NoJob, TooManyVersions, TooManyEntries, TooManyJobs, BadPath, SamePath, TooManyFiles, FileTooLong, VersionsSpent, Spent}
use Rattle.cm_site.specs.declared.reply.Reply.{Reply}
use Rattle.cm_site.specs.declared.reply.Reply.TheVariants.{Added, Dropped, Changed, Versions, Findings, Loose, Purged, Refused, Source, Disk, Memory}

-- what a step is given beside the library: the folder's readings, the place of the closed gate of the library's log, what is amiss with the
-- stored files of a manifest, and the places that the library does not need
pub record Given : Type 0 where
  pub readings : Readings
  pub gate : ℕ
  pub amiss : List Entry → List Finding
  pub loose : List (List ℕ)

-- a reply; the changes of the library in their order; whether the places that it does not need are removed; whether these are asked for
pub record Step : Type 0 where
  pub reply : Reply
  pub changes : List StateChange
  pub purges : Bool
  pub asks : Bool

-- a reply of the opened library, and changes that are committed
abbrev pub commits : Reply → List StateChange → Step
commits reply changes = record { reply = reply; changes = changes; purges = false; asks = false }

-- a reply of the opened library, of which nothing changes
abbrev pub told : Reply → Step
told reply = commits reply []

-- add and update

abbrev pub reply_to : List ℕ → ℕ → Result Taken IntakeFault → Reply
reply_to id version (Ok taken) = Added id version taken.files taken.bytes
reply_to id version (Err Folder) = Source
reply_to id version (Err ManyFiles) = Refused TooManyFiles
reply_to id version (Err (PathOff entry)) = Refused (BadPath entry)
reply_to id version (Err (PathTwice entry)) = Refused (SamePath entry)
reply_to id version (Err (LongFile entry)) = Refused (FileTooLong entry)
reply_to id version (Err ManyVersions) = Refused TooManyVersions
reply_to id version (Err ManyEntries) = Refused TooManyEntries
reply_to id version (Err ManyJobs) = Refused TooManyJobs
reply_to id version (Err NoneLeft) = Refused Spent
reply_to id version (Err (OtherBytes path first first_size second second_size)) = Changed path first first_size second second_size
reply_to id version (Err DiskFails) = Disk site
reply_to id version (Err NoMemory) = Memory

abbrev pub as_step : List ℕ → ℕ → Intake → Step
as_step id version taken = commits (reply_to id version taken.answer) taken.changes

-- the folder is taken in as a version
abbrev pub taken_in : List ℕ → ℕ → Given → State → Step
taken_in id version given state = as_step id version (intake id version given.gate given.readings state)

-- as version 1 of a package that was never opened
abbrev pub add_behind : List ℕ → Given → State → Option ℕ → Step
add_behind id given state None = taken_in id 1 given state
add_behind id given state (Some last) = told (Refused (PackageThere last))

abbrev pub add : List ℕ → Given → State → Step
add id given state = add_behind id given state (last_of id state.lasts)

-- as the version behind the greatest one that was opened
abbrev pub update_behind : List ℕ → Given → State → Option ℕ → Step
update_behind id given state None = told (Refused NoPackage)
update_behind id given state (Some last) = if last == 4294967295 then told (Refused VersionsSpent) else taken_in id (last + 1) given state

abbrev pub update : List ℕ → Given → State → Step
update id given state = update_behind id given state (last_of id state.lasts)

-- drop

abbrev pub drop : ℕ → State → Step
drop job state = if is_some (held_by_job job state.jobs) then commits Dropped (JobDropped job ∷ []) else told (Refused NoJob)

-- list

abbrev pub list : State → Step
list state = told (Versions (version_rows state) (job_rows state))

-- validate

-- what is amiss with the stored files of a version
abbrev pub validated : Given → Option Held → Step
validated given None = told (Refused NoVersion)
validated given (Some held) = told (Findings (length held.manifest) (given.amiss held.manifest))

abbrev pub validate : List ℕ → ℕ → Given → State → Step
validate id version given state = validated given (find (λ (held : Held). is_of id version held.row) state.versions)

-- what-if

-- what a purge would remove
abbrev pub what_if : Given → Step
what_if given = record { reply = Loose given.loose; changes = []; purges = false; asks = true }

-- purge

-- what is not needed is removed, and counted
abbrev pub purge : Given → Step
purge given = record {
  reply = Purged (counted is_file_place given.loose) (counted is_manifest_place given.loose);
  changes = [];
  purges = true;
  asks = true;
}
