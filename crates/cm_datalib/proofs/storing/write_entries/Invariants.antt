use Rattle.std.proofs.Common.{◌≡◌, ◌≤◌, ◌+◌, ◌-◌, ◌*◌, ◌++◌, ℕ, List, length, take}
use Rattle.std.specs.List.{flat_map}
use Rattle.cm_base.specs.Fed.{WasFed, count_of}
use Rattle.cm_tree.specs.Manifests.{entry_bytes}
use Rattle.cm_datalib.proofs.Alone.{Alone}
use Rattle.cm_datalib.proofs.Writes.{Sent}
use Rattle.cm_datalib.proofs.storing.write_entries.Given as goal

abbrev pub invariant-loop-next : goal.invariant-loop-next
invariant-loop-next g l = record {
  alone : Alone g.D.Disk.may_leave g.D.Disk.moment g.D.Disk.left_since l.place l.fn.disk l.disk;
  sent : Sent (g.D.Disk.reads l.fn.disk) (g.D.Disk.reads l.disk) l.place 9 (flat_map entry_bytes (take l.next l.entries));
  later : g.D.Disk.faults l.fn.disk ≤ g.D.Disk.faults l.disk;
  within : l.next ≤ length l.entries;
  end : l.at ≡ 9 + length (flat_map entry_bytes (take l.next l.entries));
  most : l.at ≤ 9 + 277 * l.next;
  count : count_of l.hasher ≤ l.at;
  fed : (before : List ℕ) → WasFed l.fn.hasher before → WasFed l.hasher (before ++ flat_map entry_bytes (take l.next l.entries));
}

abbrev pub decreases-loop-next : goal.decreases-loop-next
decreases-loop-next g l = length l.entries - l.next
