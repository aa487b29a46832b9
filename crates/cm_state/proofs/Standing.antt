-- A library's log in its files, before and after a call.
use Rattle.std.proofs.Common.{◌≡◌, ℕ, List, sym, ◌∙◌, ap}
use Rattle.std.specs.Prelude.{◌≢◌}
use Rattle.cm_disk.specs.Disk.{File, Files, IsImage}
use Rattle.cm_log.specs.declared.shelf.Shelf.{Shelf}
use Rattle.cm_log.specs.declared.shelf.Shelf.TheVariants.{PkgLib}
use Rattle.cm_log.specs.declared.shelf.Side.{Side}
use Rattle.cm_log.specs.declared.state.Log.{Log}
use Rattle.cm_log.specs.Shelves.{ready_place, log_place, IsElsewhere}
use Rattle.cm_log.specs.Logs.{Reading, Live, closed, shelved}
use Rattle.cm_log.specs.Settled.{shelf_of, place_of, end_of, EndsIn, IsSettled}
use Rattle.cm_log.proofs.Shelveds.{alike, lives}
use Rattle.cm_filelib.specs.Places.{file_place}
use Rattle.cm_datalib.specs.Places.{manifest_place}
use Rattle.cm_state.proofs.Elsewhere.{manifest_no_ready, manifest_no_log, file_no_ready, file_no_log}

-- a place that is none of the log's three
pub manifest_elsewhere : (id : List ℕ) (version : ℕ) → IsElsewhere PkgLib (manifest_place id version)
manifest_elsewhere id version = record { ready = manifest_no_ready id version; logs = manifest_no_log id version }

pub file_elsewhere : (hash : List ℕ) → IsElsewhere PkgLib (file_place hash)
file_elsewhere hash = record { ready = file_no_ready hash; logs = file_no_log hash }

-- a settled log, where its three places are left alone
module _ (files now : Files) (old new : List ℕ → File → Type 0) (log : Log) (place : List ℕ) (other : IsElsewhere (shelf_of log) place) (stop : (q : List ℕ) (left : File) → q ≢ place → new q left → old q left) (image : IsImage new now) (s : IsSettled files old log) where
  ready_apart : now (ready_place (shelf_of log)) ≡ files (ready_place (shelf_of log))
  ready_apart = s.rests.ready (now (ready_place (shelf_of log))) (stop (ready_place (shelf_of log)) (now (ready_place (shelf_of log))) (λ e. other.ready (sym e)) (image (ready_place (shelf_of log))))

  logs_apart : (side : Side) → now (log_place (shelf_of log) side) ≡ files (log_place (shelf_of log) side)
  logs_apart side = s.rests.logs side (now (log_place (shelf_of log) side)) (stop (log_place (shelf_of log) side) (now (log_place (shelf_of log) side)) (λ e. other.logs side (sym e)) (image (log_place (shelf_of log) side)))

  pub shelved_apart : shelved (shelf_of log) now ≡ shelved (shelf_of log) files
  shelved_apart = alike (shelf_of log) files now ready_apart logs_apart

  pub settled_apart : IsSettled now new log
  settled_apart = record {
    ends = record { entries = s.ends.entries; live = shelved_apart ∙ s.ends.live; number = s.ends.number };
    rests = record {
      ready = λ left l. s.rests.ready left (stop (ready_place (shelf_of log)) left (λ e. other.ready (sym e)) l) ∙ sym ready_apart;
      logs = λ side left l. s.rests.logs side left (stop (log_place (shelf_of log) side) left (λ e. other.logs side (sym e)) l) ∙ sym (logs_apart side);
    };
    idle = s.idle;
  }

-- a settled log on a disk that leaves no more
pub settled_kept : (files : Files) (old new : List ℕ → File → Type 0) (log : Log) → ((q : List ℕ) (left : File) → new q left → old q left) → IsSettled files old log → IsSettled files new log
settled_kept files old new log stop s = record {
  ends = s.ends;
  rests = record {
    ready = λ left l. s.rests.ready left (stop (ready_place (shelf_of log)) left l);
    logs = λ side left l. s.rests.logs side left (stop (log_place (shelf_of log) side) left l);
  };
  idle = s.idle;
}

-- the place of a live log is one of two
pub log_side : (files : Files) (place : List ℕ) (reading : Reading) → shelved PkgLib files ≡ Live place reading → (side : Side) × (place ≡ log_place PkgLib side)
log_side files place reading live = let l = lives PkgLib files place reading live in (l.side, l.at)

-- the live log by the shelf's name
pub live_at : (files : Files) (log : Log) → shelf_of log ≡ PkgLib → (e : EndsIn files log) → shelved PkgLib files ≡ Live (place_of log) (closed e.entries (end_of log))
live_at files log shelf e = ap (λ (s : Shelf). shelved s files) (sym shelf) ∙ e.live
