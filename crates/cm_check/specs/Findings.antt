-- What is found of the files of a version.
use Rattle.std.specs.Prelude.{if◌then◌else◌, List, length, Option, None, Some, option_map}
use Rattle.std.specs.List.{filter_map}
use Rattle.sha2.specs.Sha256.{sha256}
use Rattle.cm_disk.specs.Disk.{File, Files}
use Rattle.cm_filelib.specs.Places.{file_place}
use Rattle.cm_filelib.specs.Stored.{is_named}
use Rattle.cm_tree.specs.declared.entry.Entry.{Entry}
use Rattle.cm_check.specs.declared.finding.Finding.{Finding}
use Rattle.cm_check.specs.declared.finding.FindingKind.{FindingKind}
use Rattle.cm_check.specs.declared.finding.FindingKind.TheVariants.{Missing, Differs}

-- what is wrong with an entry's file: it is absent, or its size or its SHA-256 (FIPS 180-4) is not the entry's
abbrev pub kind_in : File → Entry → Option FindingKind
kind_in None entry = Some Missing
kind_in (Some bytes) entry = if is_named entry.hash.0 entry.size bytes then None else Some (Differs entry.hash entry.size (record { 0 = sha256 bytes }) (length bytes))

-- the same with the entry's path
abbrev pub finding_in : File → Entry → Option Finding
finding_in file entry = option_map (λ (kind : FindingKind). record { path = entry.path; kind = kind }) (kind_in file entry)

-- what is found of an entry in files: of the file at the place of its hash
abbrev pub finding_of : Files → Entry → Option Finding
finding_of files entry = finding_in (files (file_place entry.hash.0)) entry

-- what is found of all entries of a manifest, in its order
abbrev pub findings : Files → List Entry → List Finding
findings files manifest = filter_map (finding_of files) manifest
