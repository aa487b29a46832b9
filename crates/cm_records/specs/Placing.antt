-- The places that the records of a site write.
use Rattle.std.specs.Prelude.{◌≡◌, ◌⊎◌, ℕ, true, List, is_some}
use Rattle.cm_disk.specs.Disk.{Files}
use Rattle.cm_log.specs.declared.shelf.Shelf.TheVariants.{Site}
use Rattle.cm_log.specs.declared.shelf.Side.{Side}
use Rattle.cm_log.specs.Shelves.{ready_place, log_place}
use Rattle.cm_textlib.specs.Places.{topology_place}

-- a place of the records: one of the three of their log, or that of a topology's text
abbrev pub IsRecordsPlace : List ℕ → Type 0
IsRecordsPlace q = (q ≡ ready_place Site) ⊎ (((side : Side) × (q ≡ log_place Site side)) ⊎ ((number : ℕ) × (q ≡ topology_place number)))

-- what reads give has changed at places of the records alone, and what was there is there
pub record KeepsPlaces (files now : Files) : Type 0 where
  pub others : (q : List ℕ) → (IsRecordsPlace q → ⊥) → now q ≡ files q
  pub there : (q : List ℕ) → is_some (files q) ≡ true → is_some (now q) ≡ true
