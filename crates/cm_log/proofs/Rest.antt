-- What is durable stays so.
use Rattle.std.proofs.Common.{◌≡◌, ℕ, List, subst}
use Rattle.cm_disk.specs.Disk.{File, Files, LeavesNoMore, Only}
use Rattle.cm_log.specs.declared.shelf.Shelf.{Shelf}
use Rattle.cm_log.specs.declared.shelf.Side.{Side}
use Rattle.cm_log.specs.declared.shelf.Side.TheVariants.{First, Second}
use Rattle.cm_log.specs.Shelves.{ready_place, log_place}
use Rattle.cm_log.specs.declared.position.LogReader.{LogReader}
use Rattle.cm_log.specs.Settled.{Rests, IsReading}
use Rattle.cm_log.specs.Logs.{shelved}
use Rattle.cm_log.proofs.Shelveds.{alike}

pub rests_kept : (shelf : Shelf) (files : Files) (old new : List ℕ → File → Type 0) → LeavesNoMore old new → Rests shelf files old → Rests shelf files new
rests_kept shelf files old new stop r = record {
  ready = λ left l. r.ready left (stop (ready_place shelf) left l);
  logs = λ side left l. r.logs side left (stop (log_place shelf side) left l);
}

-- the two logs by the names that a call gave them
pub logs_at : (shelf : Shelf) (files : Files) (may_leave : List ℕ → File → Type 0) (first second : List ℕ) → first ≡ log_place shelf First → second ≡ log_place shelf Second
    → Only (files first) (may_leave first) → Only (files second) (may_leave second) → (side : Side) → Only (files (log_place shelf side)) (may_leave (log_place shelf side))
logs_at shelf files may_leave first second is is' one two First = subst (λ (q : List ℕ). Only (files q) (may_leave q)) is one
logs_at shelf files may_leave first second is is' one two Second = subst (λ (q : List ℕ). Only (files q) (may_leave q)) is' two

-- each image of a shelf at rest is as reads give it
pub image_shelved : (shelf : Shelf) (files : Files) (may_leave : List ℕ → File → Type 0) → Rests shelf files may_leave → (left : Files) → ((q : List ℕ) → may_leave q (left q)) → shelved shelf left ≡ shelved shelf files
image_shelved shelf files may_leave r left image = alike shelf files left (r.ready (left (ready_place shelf)) (image (ready_place shelf))) (λ side. r.logs side (left (log_place shelf side)) (image (log_place shelf side)))

-- a reader on a disk that a quiet call left
pub reading_kept : (files : Files) (old new : List ℕ → File → Type 0) (reader : LogReader) → LeavesNoMore old new → IsReading files old reader → IsReading files new reader
reading_kept files old new reader stop r = record { at = r.at; rests = rests_kept reader.shelf files old new stop r.rests }
