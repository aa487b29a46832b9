-- Nothing is known of what a stop leaves.
use Rattle.std.specs.Prelude.{ℕ, ◌≤◌}
use Rattle.cm_disk.specs.Disk.{Files}

-- any files may have been left
pub record Unknown (t : ℕ) (files : Files) : Type 0 where
  pub any : 0 ≤ t
