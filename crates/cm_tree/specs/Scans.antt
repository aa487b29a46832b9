-- What the files of a folder give: a tree and its manifest, or the first fault.
use Rattle.std.specs.Prelude.{◌≡◌, ℕ, nat_lt, not, List, [], ◌∷◌, ◌++◌, length, map, Option, Some, None, Result, Ok, Err, if◌then◌else◌}
use Rattle.cm_tree.specs.declared.entry.Entry.{Entry}
use Rattle.cm_tree.specs.declared.scan_fault.ScanFault.{ScanFault}
use Rattle.cm_tree.specs.declared.scan_fault.ScanFault.TheVariants.{Folder, TooManyFiles, BadPath, SamePath, FileTooLong, Memory}
use Rattle.cm_tree.specs.Paths.{is_file_path, has_path, folded_path}
use Rattle.cm_tree.specs.Trees.{File, IsTree, manifest_of}
use Rattle.cm_tree.specs.Folders.{Shown, Agrees}

-- what is wrong with a path behind those before it: first its form, then that it is the same as one of them after folding
abbrev pub path_fault : List (List ℕ) → List ℕ → Option ScanFault
path_fault before path =
    if not (is_file_path path) then Some (BadPath (length before))
    else if has_path (map folded_path before) (folded_path path) then Some (SamePath (length before))
    else None

-- the earlier of two faults
abbrev pub first_of : Option ScanFault → Option ScanFault → Option ScanFault
first_of None later = later
first_of (Some fault) later = Some fault

-- what is wrong with the bytes of file number n
abbrev pub length_fault : ℕ → ℕ → List ℕ → Option ScanFault
length_fault most_bytes n bytes = if nat_lt most_bytes (length bytes) then Some (FileTooLong n) else None

-- what is wrong with a file behind the paths before it
abbrev pub file_fault : ℕ → List (List ℕ) → File → Option ScanFault
file_fault most_bytes before file = first_of (path_fault before file.path) (length_fault most_bytes (length before) file.bytes)

-- the first fault of files behind the paths before them
abbrev pub files_fault : ℕ → List (List ℕ) → List File → Option ScanFault
files_fault most_bytes before [] = None
files_fault most_bytes before (file ∷ rest) = first_of (file_fault most_bytes before file) (files_fault most_bytes (before ++ file.path ∷ []) rest)

-- the first fault of a folder's files: too many of them, then file by file
abbrev pub first_fault : ℕ → ℕ → List File → Option ScanFault
first_fault most_files most_bytes files = if nat_lt most_files (length files) then Some TooManyFiles else files_fault most_bytes [] files

-- a value, unless there is a fault
abbrev pub unless_fault : {A : Type 0} → Option ScanFault → A → Result A ScanFault
unless_fault None x = Ok x
unless_fault (Some fault) x = Err fault

-- the manifest of a folder's files, or their first fault
abbrev pub scanned : ℕ → ℕ → List File → Result (List Entry) ScanFault
scanned most_files most_bytes files = unless_fault (first_fault most_files most_bytes files) (manifest_of files)

-- a tree of files that agree with all that is shown, and of which none has a fault
pub record Gathers (most_files most_bytes : ℕ) (shown : Shown) (tree : List File) : Type 0 where
  pub tree_is : IsTree tree
  pub agrees : Agrees shown tree
  pub clean : first_fault most_files most_bytes tree ≡ None

-- the manifest of such a tree
pub record Scans (most_files most_bytes : ℕ) (shown : Shown) (entries : List Entry) : Type 0 where
  pub tree : List File
  pub gathers : Gathers most_files most_bytes shown tree
  pub entries_are : entries ≡ manifest_of tree

-- a fault of the files: it is the first fault of some files that agree with all that is shown; a fault of the folder and want
-- of memory have other causes
abbrev pub HasFault : ℕ → ℕ → Shown → ScanFault → Type 0
HasFault most_files most_bytes shown Folder = Unit {0}
HasFault most_files most_bytes shown Memory = Unit {0}
HasFault most_files most_bytes shown TooManyFiles = (files : List File) × Agrees shown files × (first_fault most_files most_bytes files ≡ Some TooManyFiles)
HasFault most_files most_bytes shown (BadPath n) = (files : List File) × Agrees shown files × (first_fault most_files most_bytes files ≡ Some (BadPath n))
HasFault most_files most_bytes shown (SamePath n) = (files : List File) × Agrees shown files × (first_fault most_files most_bytes files ≡ Some (SamePath n))
HasFault most_files most_bytes shown (FileTooLong n) = (files : List File) × Agrees shown files × (first_fault most_files most_bytes files ≡ Some (FileTooLong n))

-- the answer is what the files give, unless the folder failed or there was no memory
abbrev pub Answers : {X Y : Type 0} → (X → Y) → Result X ScanFault → Result Y ScanFault → Type 0
Answers view (Ok x) given = given ≡ Ok (view x)
Answers view (Err Folder) given = Unit {0}
Answers view (Err Memory) given = Unit {0}
Answers view (Err TooManyFiles) given = given ≡ Err TooManyFiles
Answers view (Err (BadPath n)) given = given ≡ Err (BadPath n)
Answers view (Err (SamePath n)) given = given ≡ Err (SamePath n)
Answers view (Err (FileTooLong n)) given = given ≡ Err (FileTooLong n)
