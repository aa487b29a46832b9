-- What stands before the entries in the spelling of a manifest.
use Rattle.std.specs.Prelude.{List, ℕ, [], ◌∷◌, ◌++◌, length, Some}
use Rattle.std.specs.Int.{w32, to_le_bytes}
use Rattle.cm_disk.specs.Disk.{File}
use Rattle.cm_tree.specs.declared.entry.Entry.{Entry}
use Rattle.cm_tree.specs.Manifests.{magic, spelling}

-- `CMDL`, the form 1 and the number of entries in four bytes
abbrev pub header : List Entry → List ℕ
header entries = magic ++ (1 ∷ []) ++ to_le_bytes w32 (length entries)

-- a file that is the spelling of a manifest, whatever stood there
abbrev pub spelled_file : List Entry → File → File
spelled_file entries file = Some (spelling entries)
