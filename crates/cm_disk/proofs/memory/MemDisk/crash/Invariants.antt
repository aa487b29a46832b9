use Rattle.std.proofs.Common.{◌≡◌, ℕ, List, length, take}
use Rattle.std.specs.Ordering.{nat_cmp}
use Rattle.std.specs.Cmp.Lexicographic.{slice_cmp}
use Rattle.std.specs.Map.{lookup}
use Rattle.std.specs.BTreeMap.{is_at}
use Rattle.std.specs.Prelude.{false}
use Rattle.cm_disk.specs.Stands.{stand_after}
use Rattle.cm_disk.specs.Recorded.{is_failing, number_of, faults_of, short_of}
use Rattle.cm_disk.proofs.Picked.{rest_of}
use Rattle.cm_disk.proofs.memory.MemDisk.crash.Given as goal

abbrev pub invariant-loop-place : goal.invariant-loop-place
invariant-loop-place l = record {
  kept : (q : List ℕ) → stand_after l.disk.calls.items q ≡ rest_of l.pick (lookup (is_at (slice_cmp nat_cmp q)) (take (length l.yielded) l.self.slots.entries));
  listed : (number : ℕ) → is_failing l.disk number ≡ false;
  fresh : (number_of l.disk ≡ 0) × (faults_of l.disk ≡ 0) × (short_of l.disk ≡ 0);
}
