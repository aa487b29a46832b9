use Rattle.std.proofs.Common.{◌≡◌, ◌-◌, ◌≤◌, false, length}
use Rattle.std.specs.Option.{ForSome}
use Rattle.cm_disk.specs.Disk.{Files}
use Rattle.cm_filelib.specs.Writings.{is_spent, IsWriting}
use Rattle.store_tests.proofs.files.write_file.Given as goal

abbrev pub invariant-loop-at : goal.invariant-loop-at
invariant-loop-at g l = record {
  idle : is_spent l.writing ≡ false;
  stands : ForSome (g.D.Disk.reads l.disk) (λ (files : Files). IsWriting files l.writing);
  within : l.at ≤ length l.bytes;
}

abbrev pub decreases-loop-at : goal.decreases-loop-at
decreases-loop-at g l = length l.bytes - l.at
