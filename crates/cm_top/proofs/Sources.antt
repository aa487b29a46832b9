-- The reply `source` comes only where a reading of the folder, or the input, failed.
use Rattle.std.proofs.Common.{◌≡◌, ◌⊎◌, ◌==◌, ◌+◌, ℕ, Bool, true, false, if◌then◌else◌, not, List, [], ◌∷◌, ◌++◌, length, map, Option, None, Some, Result, Ok, Err, inl, inr, refl, subst}
use Rattle.std.specs.Prelude.{is_some, find, nat_lt, option_map}
use Rattle.std.specs.Option.{option_and_then}
use Rattle.std.specs.Str.{bytes_eq}
use Rattle.cm_base.specs.Causes.{Rose}
use Rattle.cm_base.specs.declared.hash.Hash.{Hash}
use Rattle.cm_pkglib.specs.Rows.{last_of, is_of}
use Rattle.cm_intake.specs.Readings.{Readings, AreReadings, change_of, first_with, is_changed, least_hash, first_change}
use Rattle.cm_intake.specs.Intake.{intake, first_read, scanned, within_limits, read_again, finished_or, of_scan, of_limit}
use Rattle.cm_intake.specs.declared.taken.Taken.{Taken}
use Rattle.cm_intake.specs.declared.fault.IntakeFault.{IntakeFault}
use Rattle.cm_intake.specs.declared.fault.IntakeFault.TheVariants.{Folder, TooManyFiles as ManyFiles, BadPath as PathOff, SamePath as PathTwice, FileTooLong as LongFile, TooManyVersions as ManyVersions, TooManyEntries as ManyEntries, TooManyJobs as ManyJobs, Spent as NoneLeft, Changed as OtherBytes, Disk as DiskFails, Memory as NoMemory}
use Rattle.cm_state.specs.Faults.{limit_fault}
use Rattle.cm_state.specs.Changes.{Dropped as JobDropped}
use Rattle.cm_register.specs.Records.{Records}
use Rattle.cm_state.specs.State.{Held, State, held_by_job}
use Rattle.cm_state.specs.declared.fault.LibFault.{LibFault}
use Rattle.cm_state.specs.declared.fault.LibFault.TheVariants.{NoJob}
use Rattle.cm_topo.specs.Outcomes.{topology_in}
use Rattle.cm_topo.specs.declared.fault.TopoFault.{TopoFault}
use Rattle.cm_topo.specs.declared.topology.Topology.{Topology}
use Rattle.cm_tree.specs.Paths.{is_file_path, has_path, folded_path}
use Rattle.cm_tree.specs.Scans.{path_fault, first_of, length_fault, file_fault, files_fault, first_fault}
use Rattle.cm_tree.specs.Trees.{File, manifest_of}
use Rattle.cm_tree.specs.declared.entry.Entry.{Entry}
use Rattle.cm_tree.specs.declared.scan_fault.ScanFault.{ScanFault}
use Rattle.cm_tree.specs.declared.scan_fault.ScanFault.TheVariants.{Folder as FolderFails, TooManyFiles, BadPath, SamePath, FileTooLong, Memory as ScanMemory}
use Rattle.cm_site.specs.Contents.{site}
use Rattle.cm_site.specs.Machine.{Given, Step, init_or, no_bay, opened, opened_or, given_for, with_state, with_part, on_library, unless, said_step, input_step, topology_in_records}
use Rattle.cm_site.specs.OneLibrary as one
use Rattle.cm_site.specs.OneLibrary.{reply_to}
use Rattle.cm_site.specs.Opening.{Closed, NoLibrary, NotReadable, NoBayFor, closed_in}
use Rattle.cm_site.specs.Refusals.{topology_refusals}
use Rattle.cm_site.specs.Runs.{Outside, IsInput}
use Rattle.cm_site.specs.Worlds.{World, Part, Kept, part_at, state_in, records_of}
use Rattle.cm_site.specs.declared.reply.Refusal.{Refusal}
use Rattle.cm_site.specs.declared.reply.Refusal.TheVariants.{NoJob as NoSuchJob, VersionsSpent}
use Rattle.cm_site.specs.declared.reply.Reply.{Reply}
use Rattle.cm_site.specs.declared.reply.Reply.TheVariants.{Dropped, Refused, Source}
use Rattle.cm_top.specs.Runs.{step}
use Rattle.cm_top.specs.declared.line.Line.{Line}
use Rattle.cm_top.specs.declared.line.Line.TheVariants.{Init, Add, Update, Drop, List as ListBay, Validate, WhatIf, Purge, Topology as ReplaceTopology}

-- the files of a reading have no fault of the folder

abbrev NotFolder : Option ScanFault → Type 0
NotFolder fault = fault ≡ Some FolderFails → ⊥

neither : (b : Bool) (x y : Option ScanFault) → NotFolder x → NotFolder y → NotFolder (if b then x else y)
neither true x y a b e = a e
neither false x y a b e = b e

neither_of : (x y : Option ScanFault) → NotFolder x → NotFolder y → NotFolder (first_of x y)
neither_of None y a b e = b e
neither_of (Some fault) y a b e = a e

none_of : NotFolder None
none_of e = cc

path_faults : (before : List (List ℕ)) (path : List ℕ) → NotFolder (path_fault before path)
path_faults before path =
    neither (not (is_file_path path)) (Some (BadPath (length before))) (if has_path (map folded_path before) (folded_path path) then Some (SamePath (length before)) else None) (λ e. cc)
    (neither (has_path (map folded_path before) (folded_path path)) (Some (SamePath (length before))) None (λ e. cc) none_of)

files_faults : (most : ℕ) (before : List (List ℕ)) (files : List File) → NotFolder (files_fault most before files)
files_faults most before [] = none_of
files_faults most before (file ∷ rest) =
    neither_of (file_fault most before file) (files_fault most (before ++ file.path ∷ []) rest)
    (neither_of (path_fault before file.path) (length_fault most (length before) file.bytes) (path_faults before file.path)
    (neither (nat_lt most (length file.bytes)) (Some (FileTooLong (length before))) None (λ e. cc) none_of))
    (files_faults most (before ++ file.path ∷ []) rest)

first_faults : (most_files most_bytes : ℕ) (files : List File) → NotFolder (first_fault most_files most_bytes files)
first_faults most_files most_bytes files =
    neither (nat_lt most_files (length files)) (Some TooManyFiles) (files_fault most_bytes [] files) (λ e. cc) (files_faults most_bytes [] files)

-- an intake answers that the folder failed only where a reading failed

module _ (id : List ℕ) (version end : ℕ) (state : State) where
  finished_not : (manifest : List Entry) (change : Option IntakeFault) → (change ≡ Some Folder → ⊥) → (finished_or id version manifest state change).answer ≡ Err Folder → ⊥
  finished_not manifest None a e = cc
  finished_not manifest (Some fault) a e = a (cc)

  change_not : (manifest : List Entry) (second : ℕ → List ℕ) (least : Option Hash) (with : Hash → Option (ℕ × Entry)) → option_and_then (λ (hash : Hash). option_map (change_of second) (with hash)) least ≡ Some Folder → ⊥
  change_not manifest second None with e = cc
  change_not manifest second (Some hash) with e = by (with hash) e
    where
      by : (o : Option (ℕ × Entry)) → option_map (change_of second) o ≡ Some Folder → ⊥
      by None e = cc
      by (Some numbered) e = cc

  again_not : (manifest : List Entry) (second : Option (ℕ → List ℕ)) → (read_again id version manifest state second).answer ≡ Err Folder → second ≡ None
  again_not manifest None e = refl
  again_not manifest (Some second) e =
      absurd (finished_not manifest (first_change state manifest second) (change_not manifest second (least_hash (is_changed state manifest second) manifest) (λ (hash : Hash). first_with hash 0 manifest)) e)

  limit_not : (fault : LibFault) → of_limit fault ≡ Folder → ⊥
  limit_not NoJob e = cc
  limit_not fault e = cc

  limits_not : (manifest : List Entry) (second : Option (ℕ → List ℕ)) (fault : Option LibFault) → (within_limits id version manifest state second fault).answer ≡ Err Folder → second ≡ None
  limits_not manifest second None e = again_not manifest second e
  limits_not manifest second (Some fault) e = absurd (limit_not fault (cc))

  scan_not : (fault : ScanFault) → (fault ≡ FolderFails → ⊥) → of_scan fault ≡ Folder → ⊥
  scan_not FolderFails a e = a refl
  scan_not TooManyFiles a e = cc
  scan_not (BadPath entry) a e = cc
  scan_not (SamePath entry) a e = cc
  scan_not (FileTooLong entry) a e = cc
  scan_not ScanMemory a e = cc

  scanned_not : (files : List File) (second : Option (ℕ → List ℕ)) (fault : Option ScanFault) → NotFolder fault → (scanned id version end files state second fault).answer ≡ Err Folder → second ≡ None
  scanned_not files second None a e = limits_not (manifest_of files) second (limit_fault state end (length files)) e
  scanned_not files second (Some fault) a e = absurd (scan_not fault (λ is. a (cc)) (cc))

  failed_in : (second : Option (ℕ → List ℕ)) (first : Option (List File)) → (first_read id version end state second first).answer ≡ Err Folder → (first ≡ None) ⊎ (second ≡ None)
  failed_in second None e = inl refl
  failed_in second (Some files) e = inr (scanned_not files second (first_fault 20000 4294967295 files) (first_faults 20000 4294967295 files) e)

  reply_failed : (answer : Result Taken IntakeFault) → Source ≡ reply_to id version answer → answer ≡ Err Folder
  reply_failed (Ok taken) e = cc
  reply_failed (Err Folder) e = refl
  reply_failed (Err ManyFiles) e = cc
  reply_failed (Err (PathOff entry)) e = cc
  reply_failed (Err (PathTwice entry)) e = cc
  reply_failed (Err (LongFile entry)) e = cc
  reply_failed (Err ManyVersions) e = cc
  reply_failed (Err ManyEntries) e = cc
  reply_failed (Err ManyJobs) e = cc
  reply_failed (Err NoneLeft) e = cc
  reply_failed (Err (OtherBytes path first first_size second second_size)) e = cc
  reply_failed (Err DiskFails) e = cc
  reply_failed (Err NoMemory) e = cc

abbrev Failed : Readings → Type 0
Failed readings = (readings.first ≡ None) ⊎ (readings.second ≡ None)

-- a step of one library

taken_failed : (id : List ℕ) (version : ℕ) (given : one.Given) (state : State) → Source ≡ (one.taken_in id version given state).reply → Failed given.readings
taken_failed id version given state e =
    failed_in id version given.gate state given.readings.second given.readings.first
    (reply_failed id version given.gate state (intake id version given.gate given.readings state).answer e)

add_failed : (id : List ℕ) (given : one.Given) (state : State) (last : Option ℕ) → Source ≡ (one.add_behind id given state last).reply → Failed given.readings
add_failed id given state None e = taken_failed id 1 given state e
add_failed id given state (Some last) e = cc

update_failed : (id : List ℕ) (given : one.Given) (state : State) (last : Option ℕ) → Source ≡ (one.update_behind id given state last).reply → Failed given.readings
update_failed id given state None e = cc
update_failed id given state (Some last) e = by (last == 4294967295) e
  where
    by : (b : Bool) → Source ≡ (if b then one.told (Refused VersionsSpent) else one.taken_in id (last + 1) given state).reply → Failed given.readings
    by true e = cc
    by false e = taken_failed id (last + 1) given state e

drop_not : (job : ℕ) (state : State) → Source ≡ (one.drop job state).reply → ⊥
drop_not job state e = by (is_some (held_by_job job state.jobs)) e
  where
    by : (b : Bool) → Source ≡ (if b then one.commits Dropped (JobDropped job ∷ []) else one.told (Refused NoSuchJob)).reply → ⊥
    by true e = cc
    by false e = cc

validated_not : (given : one.Given) (found : Option Held) → Source ≡ (one.validated given found).reply → ⊥
validated_not given None e = cc
validated_not given (Some held) e = cc

-- a step of a site

opened_only : (needs : World → Step) (world : World) → Source ≡ (opened needs world).reply → Source ≡ (needs world).reply
opened_only needs world e = by (closed_in world) e
  where
    by : (closed : Option Closed) → Source ≡ (opened_or closed (needs world)).reply → Source ≡ (needs world).reply
    by None e = e
    by (Some (NoLibrary bay)) e = cc
    by (Some (NotReadable bay place at)) e = cc
    by (Some (NoBayFor name)) e = cc

-- of a library's step it is the step's own reply
of_library : (P : Type 0) (bay : List ℕ) (does : one.Given → State → one.Step) (given : Given) (world : World)
    → ((part : Part) (state : State) → Source ≡ (does (given_for given part) state).reply → P) → Source ≡ (on_library bay does given world).reply → P
of_library P bay does given world so e =
    in_part (part_at bay world) (opened_only (λ (w : World). with_part bay does given (part_at bay w)) world e)
  where
    in_state : (part : Part) (state : Option State) → Source ≡ (with_state bay (does (given_for given part)) state).reply → P
    in_state part None e = cc
    in_state part (Some state) e = so part state e

    in_part : (part : Option Part) → Source ≡ (with_part bay does given part).reply → P
    in_part None e = cc
    in_part (Some part) e = in_state part (state_in part.content) e

init_not : (names : List (List ℕ)) (world : World) (name : Option (List ℕ)) → Source ≡ (init_or name names world).reply → ⊥
init_not names world None e = cc
init_not names world (Some name) e = cc

said_not : (text : List ℕ) (said : Result Topology TopoFault) (minute : ℕ) (records : Records) (refusal : Option Refusal) → Source ≡ (unless refusal (said_step text said minute records)).reply → ⊥
said_not text said minute records (Some refusal) e = cc
said_not text (Ok topology) minute records None e = cc
said_not text (Err fault) minute records None e = cc

input_none : (text : Option (List ℕ)) (minute : ℕ) (kept : Kept) (world : World) → Source ≡ (input_step text minute kept world).reply → text ≡ None
input_none None minute kept world e = refl
input_none (Some text) minute kept world e =
    absurd (said_not text (topology_in text) minute kept.records (topology_refusals (length text) (topology_in text) kept world) e)

topology_none : (given : Given) (kept : Option Kept) (world : World) → Source ≡ (topology_in_records given kept world).reply → given.text ≡ None
topology_none given None world e = cc
topology_none given (Some kept) world e = input_none given.text given.minute kept world e

-- a step replies so only where a reading of the folder or the input failed
pub step_failed : (line : Line) (given : Given) (world : World) → Source ≡ (step line given world).reply → Failed given.readings ⊎ (given.text ≡ None)
step_failed (Init names) given world e = absurd (init_not names world (no_bay names world) e)
step_failed (Add id) given world e =
    of_library (Failed given.readings ⊎ (given.text ≡ None)) site (one.add id) given world (λ part state is. inl (add_failed id (given_for given part) state (last_of id state.lasts) is)) e
step_failed (Update id) given world e =
    of_library (Failed given.readings ⊎ (given.text ≡ None)) site (one.update id) given world (λ part state is. inl (update_failed id (given_for given part) state (last_of id state.lasts) is)) e
step_failed (Drop bay job) given world e =
    of_library (Failed given.readings ⊎ (given.text ≡ None)) bay (λ g. one.drop job) given world (λ part state is. absurd (drop_not job state is)) e
step_failed (ListBay bay) given world e =
    of_library (Failed given.readings ⊎ (given.text ≡ None)) bay (λ g. one.list) given world (λ part state is. cc) e
step_failed (Validate bay id version) given world e =
    of_library (Failed given.readings ⊎ (given.text ≡ None)) bay (one.validate id version) given world
    (λ part state is. absurd (validated_not (given_for given part) (find (λ (held : Held). is_of id version held.row) state.versions) is)) e
step_failed (WhatIf bay) given world e =
    of_library (Failed given.readings ⊎ (given.text ≡ None)) bay (λ g state. one.what_if g) given world (λ part state is. cc) e
step_failed (Purge bay) given world e =
    of_library (Failed given.readings ⊎ (given.text ≡ None)) bay (λ g state. one.purge g) given world (λ part state is. cc) e
step_failed ReplaceTopology given world e =
    inr (topology_none given (records_of world) world (opened_only (λ (w : World). topology_in_records given (records_of w) w) world e))

-- then the count of the one that failed rose
pub rose : (from to : Outside) (given : Given) → AreReadings from.folder.shown from.folder.faults to.folder.faults given.readings → IsInput from.input to.input given.text
    → Failed given.readings ⊎ (given.text ≡ None) → Rose from.folder.faults to.folder.faults ⊎ Rose from.input.faults to.input.faults
rose from to given readings text (inl (inl first)) = inl (readings.first_failed first)
rose from to given readings text (inl (inr second)) = inl (readings.second_failed second)
rose from to given readings text (inr none) = inr (subst (IsInput from.input to.input) none text)
