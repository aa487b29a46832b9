-- What a purge leaves of files: all but the stored manifests and files that the state does not need.
use Rattle.std.specs.Prelude.{◌≡◌, ℕ, ◌-◌, ◌^◌, ◌&&◌, ◌||◌, not, min, Bool, true, false, if◌then◌else◌, List, length, filter, None}
use Rattle.std.specs.List.{list_any}
use Rattle.std.specs.Str.{bytes_eq}
use Rattle.cm_disk.specs.Disk.{Files, IsPartly}
use Rattle.cm_disk.specs.Walks.{only_at}
use Rattle.cm_datalib.specs.Places.{is_manifest_place}
use Rattle.cm_filelib.specs.Places.{is_file_place}
use Rattle.cm_state.specs.State.{State}
use Rattle.cm_state.specs.Needed.{needed}

-- the place of a stored manifest or file
abbrev pub is_stored_place : List ℕ → Bool
is_stored_place place = is_manifest_place place || is_file_place place

-- a stored place that a state does not need
abbrev pub is_loose : State → List ℕ → Bool
is_loose state place = is_stored_place place && not (list_any (bytes_eq place) (needed state))

-- the files at loose places alone
abbrev pub loose : State → Files → Files
loose state files place = only_at (is_loose state) files place

-- the files that a purge leaves
abbrev pub purged : State → Files → Files
purged state files place = if is_loose state place then None else files place

-- Some loose places are gone, and nothing else has changed. Of one whose removal failed any part may be there.
pub record Clears (state : State) (files now : Files) : Type 0 where
  pub kept : (q : List ℕ) → is_loose state q ≡ false → now q ≡ files q
  pub gone_or : (q : List ℕ) → is_loose state q ≡ true → IsPartly (files q) None (now q)

-- how many of these places have a form, at most 2^32 - 1
abbrev pub counted : (List ℕ → Bool) → List (List ℕ) → ℕ
counted form places = min (length (filter form places)) (2 ^ 32 - 1)
