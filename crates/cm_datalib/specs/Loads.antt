-- What a stored manifest is loaded as.
use Rattle.std.specs.Prelude.{◌≡◌, ℕ, Bool, ◌==◌, ◌&&◌, List, length, None, Some, Result, Ok, Err, cond}
use Rattle.std.specs.Str.{bytes_eq}
use Rattle.sha2.specs.Sha256.{sha256}
use Rattle.cm_base.specs.declared.hash.Hash.{Hash}
use Rattle.cm_disk.specs.Disk.{File}
use Rattle.cm_tree.specs.declared.entry.Entry.{Entry}
use Rattle.cm_tree.specs.declared.tree_fault.TreeFault.{TreeFault}
use Rattle.cm_tree.specs.declared.tree_fault.TreeFault.TheVariants.{BadForm, BadPath, Unsorted, SamePath, TooManyFiles, Memory as TreeMemory}
use Rattle.cm_tree.specs.Reading.{read_manifest}
use Rattle.cm_datalib.specs.declared.faults.DataFault.{DataFault}
use Rattle.cm_datalib.specs.declared.faults.DataFault.TheVariants.{Disk, NotHere, OtherBytes, BadManifest, Memory}

-- the bytes have this SHA-256 and this size
abbrev pub is_named : List ℕ → ℕ → List ℕ → Bool
is_named hash size bytes = length bytes == size && bytes_eq (sha256 bytes) hash

-- a manifest, or why the bytes are none
abbrev pub as_data : Result (List Entry) TreeFault → Result (List Entry) DataFault
as_data (Ok entries) = Ok entries
as_data (Err fault) = Err (BadManifest fault)

-- what the file at a place is as the manifest of this hash and size
abbrev pub loaded : Hash → ℕ → File → Result (List Entry) DataFault
loaded hash size None = Err NotHere
loaded hash size (Some bytes) = cond (is_named hash.0 size bytes) (as_data (read_manifest bytes)) (Err (OtherBytes hash (record { 0 = sha256 bytes }) size (length bytes)))

-- a call answers this, unless the disk failed or memory ran out
abbrev pub Answers : Result (List Entry) DataFault → Result (List Entry) DataFault → Type 0
Answers (Ok entries) right = right ≡ Ok entries
Answers (Err Disk) right = Unit {0}
Answers (Err Memory) right = Unit {0}
Answers (Err NotHere) right = right ≡ Err NotHere
Answers (Err (OtherBytes named got size found)) right = right ≡ Err (OtherBytes named got size found)
Answers (Err (BadManifest fault)) right = right ≡ Err (BadManifest fault)

-- why bytes that were named are no manifest: want of memory, or the fault
abbrev pub bad_manifest : TreeFault → DataFault
bad_manifest TreeMemory = Memory
bad_manifest (BadForm at) = BadManifest (BadForm at)
bad_manifest (BadPath entry) = BadManifest (BadPath entry)
bad_manifest (Unsorted entry) = BadManifest (Unsorted entry)
bad_manifest (SamePath entry) = BadManifest (SamePath entry)
bad_manifest TooManyFiles = BadManifest TooManyFiles
