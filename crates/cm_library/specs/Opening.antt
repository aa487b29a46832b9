-- What opening finds.
use Rattle.std.specs.Prelude.{◌≡◌, ℕ, List, [], Option, None}
use Rattle.std.specs.Option.{ForSome}
use Rattle.cm_disk.specs.Disk.{File, Files}
use Rattle.cm_state.specs.Look.{Opened, look, gate_in}
use Rattle.cm_state.specs.Sure.{AreManifestsSure}
use Rattle.cm_base.specs.declared.hash.Hash.{Hash}
use Rattle.cm_pkglib.specs.Counts.{seal_at}
use Rattle.cm_contents.specs.Seals.{found_seal, version_entries, SealsVersions}
use Rattle.cm_library.specs.Kept.{Seen}

-- A library was opened: it is settled, its state is that of the files, and its log ends where it ends in them. The disk reads as before,
-- and a crash preserves the manifests that the state needs. The hashes of the versions are sealed, and no others, each with the size of
-- the first entry that has it. No job has started a file.
pub record HasFound {D : Type 0} (old new : Option Files) (may_leave : List ℕ → File → Type 0) (start : D) (library : Seen D) : Type 0 where
  pub start_is : library.start ≡ start
  pub settled : library.pending ≡ None
  pub stands : ForSome old (λ files. look files ≡ Opened library.state)
  pub gate : ForSome old (λ files. gate_in files ≡ library.end)
  pub same : new ≡ old
  pub manifests : ForSome old (λ _. AreManifestsSure may_leave library.state)
  pub seals : (hash : Hash) → seal_at library.seals hash ≡ found_seal None hash (version_entries library.state)
  pub started : library.started ≡ []
  pub of_versions : SealsVersions (seal_at library.seals) library.state
