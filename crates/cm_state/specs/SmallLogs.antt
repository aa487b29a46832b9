-- Small logs, to try on them what files are as a library.
use Rattle.std.specs.Prelude.{ℕ, List, [], ◌∷◌, ◌++◌, codes, Some, None, if◌then◌else◌}
use Rattle.std.specs.Str.{bytes_eq}
use Rattle.cm_disk.specs.Disk.{Files}
use Rattle.cm_log.specs.declared.shelf.Shelf.TheVariants.{PkgLib}
use Rattle.cm_log.specs.declared.shelf.Side.TheVariants.{First, Second}
use Rattle.cm_log.specs.Shelves.{ready_place, log_place}
use Rattle.cm_log.specs.Settled.{idle_log}
use Rattle.cm_log.specs.Records.{spelled as spelled_records}
use Rattle.cm_pkglib.specs.declared.change.Change.{Change}
use Rattle.cm_pkglib.specs.declared.change.Change.TheVariants.{Dropped, Removed}
use Rattle.cm_state.specs.State.{State}
use Rattle.cm_state.specs.Worked.{live_head}

-- files with this live log and no manifest
abbrev pub with_log : List ℕ → Files
with_log bytes place =
    if bytes_eq (ready_place PkgLib) place then Some []
    else (if bytes_eq (log_place PkgLib First) place then Some bytes
    else (if bytes_eq (log_place PkgLib Second) place then Some idle_log
    else None))

-- a live log of these records with these bytes behind them
abbrev pub log_of : List (List ℕ) → List ℕ → List ℕ
log_of bodies behind = live_head ++ (spelled_records bodies ++ behind)

-- the job of the worked example is given up; its version is removed
abbrev pub three_dropped : Change
three_dropped = Dropped 1

abbrev pub three_removed : Change
three_removed = Removed (codes "PS100001") 1

-- a library that had a job or a version of PS100001, and has none
abbrev pub once_opened : State
once_opened = record { versions = []; jobs = []; next = 2; lasts = (codes "PS100001", 1) ∷ [] }
