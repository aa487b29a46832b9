-- What is printed, and the status.
use Rattle.std.specs.Prelude.{ℕ, List, [], ◌∷◌, ◌++◌, length, codes}
use Rattle.std.specs.List.{flat_map}
use Rattle.std.specs.Fmt.{decimal}
use Rattle.hex.specs.Hex.{encode_lower}
use Rattle.cm_check.specs.declared.finding.Finding.{Finding}
use Rattle.cm_check.specs.declared.finding.FindingKind.{FindingKind}
use Rattle.cm_check.specs.declared.finding.FindingKind.TheVariants.{Missing, Differs}
use Rattle.cm_state.specs.declared.row.VersionRow.{VersionRow}
use Rattle.cm_state.specs.declared.row.JobRow.{JobRow}
use Rattle.cm_site.specs.declared.reply.Refusal.{Refusal}
use Rattle.cm_site.specs.declared.reply.Refusal.TheVariants.{NoVersion, PackageThere, NoPackage, NoJob, TooManyVersions, TooManyEntries, TooManyJobs, NoBay, TooManyTargets, BadPath, SamePath, TooManyFiles, FileTooLong, NotToml, WrongShape, TopologyRule, PointInUse, InputTooLong, VersionsSpent, Spent}
use Rattle.cm_site.specs.declared.reply.Reply.{Reply}
use Rattle.cm_site.specs.declared.reply.Reply.TheVariants.{Made, Added, Dropped, Topology, Versions, Findings, Loose, Purged, Refused, Source, Changed, Disk, Memory, NoLibrary, NoBayFor, Unreadable}
use Rattle.cm_top.specs.declared.ended.Ended.{Ended}
use Rattle.cm_top.specs.declared.ended.Ended.TheVariants.{Usage, Replied}
use Rattle.cm_top.specs.declared.fault.WordsFault.{WordsFault}
use Rattle.cm_top.specs.declared.fault.WordsFault.TheVariants.{NoCommand, UnknownCommand, BadValue, MissingWord, ExtraWord, Memory as NoMemory}

-- each further word after one blank, and the line's end
abbrev pub spoken_on : List (List ℕ) → List ℕ
spoken_on [] = 10 ∷ []
spoken_on (word ∷ words) = 32 ∷ (word ++ spoken_on words)

-- a line of words with one blank between them
abbrev pub spoken : List (List ℕ) → List ℕ
spoken [] = 10 ∷ []
spoken (word ∷ words) = word ++ spoken_on words

-- the words of the usage line
abbrev pub usage_words : WordsFault → List (List ℕ)
usage_words NoCommand = codes "usage" ∷ codes "1" ∷ codes "NoCommand" ∷ []
usage_words UnknownCommand = codes "usage" ∷ codes "2" ∷ codes "UnknownCommand" ∷ []
usage_words (BadValue value) = codes "usage" ∷ codes "3" ∷ codes "BadValue" ∷ decimal value ∷ []
usage_words (MissingWord value) = codes "usage" ∷ codes "4" ∷ codes "MissingWord" ∷ decimal value ∷ []
usage_words ExtraWord = codes "usage" ∷ codes "5" ∷ codes "ExtraWord" ∷ []
usage_words NoMemory = codes "memory" ∷ []

-- the number, the name and the kept values of a refusal
abbrev pub refusal_words : Refusal → List (List ℕ)
refusal_words NoVersion = codes "1" ∷ codes "NoVersion" ∷ []
refusal_words (PackageThere last) = codes "2" ∷ codes "PackageThere" ∷ decimal last ∷ []
refusal_words NoPackage = codes "3" ∷ codes "NoPackage" ∷ []
refusal_words NoJob = codes "4" ∷ codes "NoJob" ∷ []
refusal_words TooManyVersions = codes "7" ∷ codes "TooManyVersions" ∷ []
refusal_words TooManyEntries = codes "8" ∷ codes "TooManyEntries" ∷ []
refusal_words TooManyJobs = codes "9" ∷ codes "TooManyJobs" ∷ []
refusal_words (NoBay name) = codes "10" ∷ codes "NoBay" ∷ name ∷ []
refusal_words TooManyTargets = codes "14" ∷ codes "TooManyTargets" ∷ []
refusal_words (BadPath entry) = codes "19" ∷ codes "BadPath" ∷ decimal entry ∷ []
refusal_words (SamePath entry) = codes "20" ∷ codes "SamePath" ∷ decimal entry ∷ []
refusal_words TooManyFiles = codes "21" ∷ codes "TooManyFiles" ∷ []
refusal_words (FileTooLong entry) = codes "22" ∷ codes "FileTooLong" ∷ decimal entry ∷ []
refusal_words NotToml = codes "23" ∷ codes "NotToml" ∷ []
refusal_words (WrongShape part entry) = codes "24" ∷ codes "WrongShape" ∷ decimal part ∷ decimal entry ∷ []
refusal_words (TopologyRule rule part entry) = codes "25" ∷ codes "TopologyRule" ∷ decimal rule ∷ decimal part ∷ decimal entry ∷ []
refusal_words (PointInUse point) = codes "26" ∷ codes "PointInUse" ∷ point ∷ []
refusal_words InputTooLong = codes "27" ∷ codes "InputTooLong" ∷ []
refusal_words VersionsSpent = codes "28" ∷ codes "VersionsSpent" ∷ []
refusal_words Spent = codes "30" ∷ codes "Spent" ∷ []

-- the line of a version: package, version, `done`, files and bytes
abbrev pub version_line : VersionRow → List ℕ
version_line row = spoken (row.package ∷ decimal row.version ∷ codes "done" ∷ decimal row.entries ∷ decimal row.bytes ∷ [])

-- the line of an unfinished job: package, version, `job`, its number, files and bytes
abbrev pub job_line : JobRow → List ℕ
job_line row = spoken (row.package ∷ decimal row.version ∷ codes "job" ∷ decimal row.job ∷ decimal row.entries ∷ decimal row.bytes ∷ [])

-- the line of a finding: `missing` and the path; or `differs`, the path, the hash that is named and the one that was got
abbrev pub kind_line : List ℕ → FindingKind → List ℕ
kind_line path Missing = spoken (codes "missing" ∷ path ∷ [])
kind_line path (Differs named size got bytes) = spoken (codes "differs" ∷ path ∷ encode_lower named.0 ∷ encode_lower got.0 ∷ [])

abbrev pub finding_line : Finding → List ℕ
finding_line finding = kind_line finding.path finding.kind

-- a line for each finding; where there is none, how many files are valid
abbrev pub findings_text : ℕ → List Finding → List ℕ
findings_text files [] = spoken (codes "valid" ∷ decimal files ∷ [])
findings_text files (finding ∷ rest) = finding_line finding ++ flat_map finding_line rest

-- a place on a line of its own
abbrev pub place_line : List ℕ → List ℕ
place_line place = spoken (place ∷ [])

-- what a topology has, and how many targets were made for points that joined a group
abbrev pub topology_words : ℕ → ℕ → ℕ → ℕ → ℕ → List (List ℕ)
topology_words boundaries groups points peers joined =
    codes "topology" ∷ codes "boundaries" ∷ decimal boundaries ∷ codes "groups" ∷ decimal groups ∷ codes "points" ∷ decimal points ∷ codes "peers" ∷ decimal peers ∷ codes "joined" ∷ decimal joined ∷ []

abbrev pub reply_text : Reply → List ℕ
reply_text (Made count) = spoken (codes "made" ∷ decimal count ∷ [])
reply_text (Added id version files bytes) = spoken (codes "added" ∷ id ∷ decimal version ∷ codes "files" ∷ decimal files ∷ codes "bytes" ∷ decimal bytes ∷ [])
reply_text Dropped = spoken (codes "dropped" ∷ [])
reply_text (Topology boundaries groups points peers joined) = spoken (topology_words boundaries groups points peers joined)
reply_text (Versions versions jobs) = flat_map version_line versions ++ flat_map job_line jobs
reply_text (Findings files list) = findings_text files list
reply_text (Loose places) = flat_map place_line places ++ spoken (codes "loose" ∷ decimal (length places) ∷ [])
reply_text (Purged files manifests) = spoken (codes "purged" ∷ codes "files" ∷ decimal files ∷ codes "manifests" ∷ decimal manifests ∷ [])
reply_text (Refused refusal) = spoken (codes "refused" ∷ refusal_words refusal)
reply_text Source = spoken (codes "source" ∷ [])
reply_text (Changed path first first_size second second_size) =
    spoken (codes "changed" ∷ path ∷ encode_lower first.0 ∷ decimal first_size ∷ encode_lower second.0 ∷ decimal second_size ∷ [])
reply_text (Disk bay) = spoken (codes "disk" ∷ bay ∷ [])
reply_text Memory = spoken (codes "memory" ∷ [])
reply_text (NoLibrary bay) = spoken (codes "library" ∷ bay ∷ codes "missing" ∷ [])
reply_text (NoBayFor name) = spoken (codes "library" ∷ name ∷ codes "nobay" ∷ [])
reply_text (Unreadable bay place at) = spoken (codes "library" ∷ bay ∷ codes "unreadable" ∷ place ∷ decimal at ∷ [])

abbrev pub usage_status : WordsFault → ℕ
usage_status NoMemory = 6
usage_status fault = 2

abbrev pub reply_status : Reply → ℕ
reply_status (Made count) = 0
reply_status (Added id version files bytes) = 0
reply_status Dropped = 0
reply_status (Topology boundaries groups points peers joined) = 0
reply_status (Versions versions jobs) = 0
reply_status (Findings files list) = 0
reply_status (Loose places) = 0
reply_status (Purged files manifests) = 0
reply_status (Refused refusal) = 1
reply_status Source = 3
reply_status (Changed path first first_size second second_size) = 3
reply_status (Disk bay) = 5
reply_status Memory = 6
reply_status (NoLibrary bay) = 7
reply_status (NoBayFor name) = 7
reply_status (Unreadable bay place at) = 7

-- the text that a run prints
abbrev pub text : Ended → List ℕ
text (Usage fault) = spoken (usage_words fault)
text (Replied reply) = reply_text reply

-- its status
abbrev pub status : Ended → ℕ
status (Usage fault) = usage_status fault
status (Replied reply) = reply_status reply
