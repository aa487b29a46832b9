use Rattle.std.proofs.Common.{◌≡◌, ◌-◌, ◌≤◌, length, take}
use Rattle.std.specs.Option.{ForSome}
use Rattle.cm_base.specs.Fed.{WasFed, count_of}
use Rattle.cm_disk.specs.Disk.{Files, bytes_of}
use Rattle.cm_disk.proofs.Quiet.{Quiet}
use Rattle.cm_disk.proofs.hashing.read_front.Given as goal

abbrev pub invariant-loop-at : goal.invariant-loop-at
invariant-loop-at g l = record {
  quiet : Quiet g.D.Disk.may_leave g.D.Disk.moment g.D.Disk.left_since l.fn.disk l.disk;
  same : g.D.Disk.reads l.disk ≡ g.D.Disk.reads l.fn.disk;
  later : g.D.Disk.faults l.fn.disk ≤ g.D.Disk.faults l.disk;
  within : l.at ≤ l.size;
  count : count_of l.hasher ≡ l.at;
  fed : ForSome (g.D.Disk.reads l.fn.disk) (λ (files : Files). l.size ≤ length (bytes_of (files l.place)) → WasFed l.hasher (take l.at (bytes_of (files l.place))));
}

abbrev pub decreases-loop-at : goal.decreases-loop-at
decreases-loop-at g l = l.size - l.at
