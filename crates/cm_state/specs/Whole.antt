-- A library as whole trees: the versions with the bytes of their files.
use Rattle.std.specs.Prelude.{◌≡◌, ℕ, List, ◌++◌, map, Some}
use Rattle.std.specs.List.{AllByRecursion, flat_map}
use Rattle.sha2.specs.Sha256.{sha256}
use Rattle.cm_disk.specs.Disk.{Files, bytes_of}
use Rattle.cm_tree.specs.declared.entry.Entry.{Entry}
use Rattle.cm_tree.specs.Trees.{File, Apart, manifest_of}
use Rattle.cm_filelib.specs.Places.{file_place}
use Rattle.cm_state.specs.State.{Held, State, held_of}
use Rattle.cm_state.specs.Look.{look, Opened}
use Rattle.cm_state.specs.Opens.{Opens}

-- a version with its whole tree
pub record Version : Type 0 where
  pub id : List ℕ
  pub version : ℕ
  pub tree : List File

-- a library whose versions have their trees
pub record Trees : Type 0 where
  pub versions : List Version
  pub jobs : List (ℕ × Held)
  pub next : ℕ
  pub lasts : List (List ℕ × ℕ)

-- a version by its manifest
abbrev pub held_version : Version → Held
held_version v = held_of v.id v.version (manifest_of v.tree)

-- the state by manifests alone
abbrev pub outline : Trees → State
outline trees = record {
  versions = map held_version trees.versions;
  jobs = trees.jobs;
  next = trees.next;
  lasts = trees.lasts;
}

-- the place of each file's hash holds exactly its bytes
abbrev pub HasTree : Files → List File → Type 0
HasTree files tree = AllByRecursion (λ (file : File). files (file_place (sha256 file.bytes)) ≡ Some file.bytes) tree

-- These files are a library in this state: its log's records make the rows, each manifest is stored in its one spelling, and each
-- file of each version stands whole under its hash.
pub record OpensTrees (files : Files) (trees : Trees) : Type 0 where
  pub stands : look files ≡ Opened (outline trees)
  pub whole : AllByRecursion (λ (v : Version). HasTree files v.tree) trees.versions

-- the bytes of all files
abbrev pub bytes_of_tree : List File → List (List ℕ)
bytes_of_tree tree = map (λ (file : File). file.bytes) tree

abbrev pub bytes_of_trees : Trees → List (List ℕ)
bytes_of_trees trees = flat_map (λ (v : Version). bytes_of_tree v.tree) trees.versions

-- the bytes that stand at the places of a manifest's files
abbrev pub bytes_there : Files → Held → List (List ℕ)
bytes_there files held = map (λ (entry : Entry). bytes_of (files (file_place entry.hash.0))) held.manifest

-- The law of whole trees: where files open to the manifests of trees, they open to these trees, unless two byte strings of them and of
-- the stored files have one hash and differ.
abbrev pub TreesAreWhole : Type 0
TreesAreWhole = (files : Files) (trees : Trees)
    → Opens files (outline trees)
    → Apart (bytes_of_trees trees ++ flat_map (bytes_there files) (outline trees).versions)
    → OpensTrees files trees

-- and where they open to trees, they open to their manifests
abbrev pub TreesOpen : Type 0
TreesOpen = (files : Files) (trees : Trees) → OpensTrees files trees → Opens files (outline trees)
