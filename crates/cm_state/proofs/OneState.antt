-- Files open to one state at most.
use Rattle.std.proofs.Common.{◌≡◌, sym, ◌∙◌}
use Rattle.cm_disk.specs.Disk.{Files}
use Rattle.cm_state.specs.State.{State}
use Rattle.cm_state.specs.Look.{Opened}
use Rattle.cm_state.specs.Opens.{Opens}

pub same_state : (a b : State) → Opened a ≡ Opened b → a ≡ b
same_state a b e = cc

pub one_state : (files : Files) (a b : State) → Opens files a → Opens files b → a ≡ b
one_state files a b x y = same_state a b (sym x.stands ∙ y.stands)
