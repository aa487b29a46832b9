-- What a look at a library leaves.
use Rattle.std.specs.Prelude.{◌≡◌, ℕ, List, Option, slice_get}
use Rattle.std.specs.Option.{ForSome}
use Rattle.cm_disk.specs.Disk.{File, Files}
use Rattle.cm_filelib.specs.Places.{file_place}
use Rattle.cm_library.specs.Filing.{KeepsRows}
use Rattle.cm_library.specs.Kept.{Seen}
use Rattle.cm_tree.specs.declared.entry.Entry.{Entry}

-- nothing has changed but the disk, and that reads as before
pub record Looks {D : Type 0} (reads : D → Option Files) (old new : Seen D) : Type 0 where
  pub rows : KeepsRows old new
  pub seals : new.seals ≡ old.seals
  pub started : new.started ≡ old.started
  pub same : reads new.disk ≡ reads old.disk

-- the file at the place of an entry's hash has P, where the disk tells what reads give
abbrev pub OfFile : Option Files → List Entry → ℕ → (File → Type 0) → Type 0
OfFile reads manifest n P = ForSome (slice_get manifest n) (λ (entry : Entry). ForSome reads (λ files. P (files (file_place entry.hash.0))))
