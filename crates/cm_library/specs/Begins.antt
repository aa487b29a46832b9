-- What a job asks that begins.
use Rattle.std.specs.Prelude.{◌≡◌, ℕ, ◌+◌, ◌<◌, ◌≤◌, ◌^◌, true, List, length, None}
use Rattle.cm_base.specs.Names.{is_package_id}
use Rattle.cm_pkglib.specs.Changes.{spelled}
use Rattle.cm_pkglib.specs.Rows.{opened_fault}
use Rattle.cm_tree.specs.declared.entry.Entry.{Entry}
use Rattle.cm_state.specs.State.{State, rows_of}
use Rattle.cm_state.specs.Changes.{Begun, record_of, changed}
use Rattle.cm_state.specs.Look.{has_room}
use Rattle.cm_state.specs.Sound.{AreNamed}

-- The next job may begin for a version with a manifest: its record names what a record can name, the rows take it, and a log that ends
-- there has room behind it.
pub record MayBegin (end : ℕ) (state : State) (job : ℕ) (id : List ℕ) (version : ℕ) (manifest : List Entry) : Type 0 where
  pub next : job ≡ state.next
  pub job_range : (1 ≤ job) × (job < 2 ^ 64)
  pub long : length id ≡ 8
  pub form : is_package_id id ≡ true
  pub version_range : (1 ≤ version) × (version < 2 ^ 32)
  pub named : AreNamed (rows_of state)
  pub free : opened_fault (rows_of state) job id version (length manifest) ≡ None
  pub room : has_room (end + 5 + length (spelled (record_of (Begun job id version manifest)))) (rows_of (changed (Begun job id version manifest) state)) ≡ true
