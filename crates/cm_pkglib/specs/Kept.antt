-- What the code keeps beside the rows.
use Rattle.std.specs.Prelude.{◌≡◌, ℕ, ◌+◌, ◌≤◌}
use Rattle.cm_pkglib.specs.Rows.{Rows, all_entries}
use Rattle.cm_pkglib.specs.Valid.{AreValid}

-- How many rows a list has, and for how many memory is taken.
pub record ListSize : Type 0 where
  pub len : ℕ
  pub capacity : ℕ

-- The three lists have room for so many further jobs and their packages, and for the versions of these and of all jobs there are.
pub record HasRoom (room : ℕ) (of_jobs of_lasts of_versions : ListSize) : Type 0 where
  pub jobs : of_jobs.len + room ≤ of_jobs.capacity
  pub lasts : of_lasts.len + room ≤ of_lasts.capacity
  pub versions : of_versions.len + of_jobs.len + room ≤ of_versions.capacity

-- The rows are those that a library can have, the sum of their entries is kept, and so is the room.
pub record AreKept (rows : Rows) (entries room : ℕ) (of_jobs of_lasts of_versions : ListSize) : Type 0 where
  pub valid : AreValid rows
  pub sum : entries ≡ all_entries rows
  pub has_room : HasRoom room of_jobs of_lasts of_versions
