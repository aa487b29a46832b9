-- What opening finds.
use Rattle.std.specs.Prelude.{◌≡◌, ◌⊎◌, ℕ, true, List, Option, None}
use Rattle.std.specs.Option.{ForSome}
use Rattle.cm_disk.specs.Disk.{File, Files, Only}
use Rattle.cm_log.specs.declared.shelf.Shelf.TheVariants.{Site}
use Rattle.cm_log.specs.Logs.{Reading, shelved}
use Rattle.cm_register.specs.Texts.{names_among, names_text}
use Rattle.cm_textlib.specs.Places.{topology_place}
use Rattle.cm_records.specs.Seen.{Seen, Reads}

-- Records were opened: they are settled, they are those of the files, and their log ends where it ends in them. The disk reads as before.
pub record HasFound {D : Type 0} (old new : Option Files) (start : D) (records : Seen D) : Type 0 where
  pub start_is : records.start ≡ start
  pub settled : records.pending ≡ None
  pub same : new ≡ old
  pub files : ForSome old (λ files. Reads files records.kept records.end)

-- a crash preserves each text that the log of these files names, but for those that only the records to come name
pub record AreTextsSureOr (files : Files) (may_leave : List ℕ → File → Type 0) (to_come : Reading) : Type 0 where
  pub each : (number : ℕ) → names_text number (shelved Site files) ≡ true
      → Only (files (topology_place number)) (may_leave (topology_place number)) ⊎ (names_among number to_come.entries ≡ true)
