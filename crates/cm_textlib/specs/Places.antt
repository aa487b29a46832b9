-- The places of the texts of topologies, and what stands there.
use Rattle.std.specs.Prelude.{ℕ, ◌==◌, ◌&&◌, cond, List, ◌++◌, length, codes, Option, None, Some}
use Rattle.std.specs.Fmt.{decimal}
use Rattle.std.specs.Option.{option_and_then}
use Rattle.std.specs.Str.{bytes_eq}
use Rattle.sha2.specs.Sha256.{sha256}
use Rattle.cm_base.specs.declared.hash.Hash.{Hash}
use Rattle.cm_disk.specs.Disk.{File}

-- the place of the text of the topology of that number: `Site/topology.` and the number in decimal
abbrev pub topology_place : ℕ → List ℕ
topology_place number = codes "Site/topology." ++ decimal number

-- the bytes, where they have this size and this SHA-256
abbrev pub if_named : ℕ → Hash → List ℕ → Option (List ℕ)
if_named size hash text = cond (length text == size && bytes_eq (sha256 text) hash.0) (Some text) None

-- the text in a file, where it has this size and this SHA-256
abbrev pub text_in : ℕ → Hash → File → Option (List ℕ)
text_in size hash file = option_and_then (if_named size hash) file
