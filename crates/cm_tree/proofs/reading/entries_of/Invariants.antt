use Rattle.std.proofs.Common.{◌≡◌, ◌+◌, ◌-◌, ◌*◌, ◌≤◌, length, []}
use Rattle.cm_tree.specs.Manifests.{paths_of}
use Rattle.cm_tree.specs.Taking.{HasTaken}
use Rattle.cm_tree.specs.Reading.{entries_at}
use Rattle.cm_tree.proofs.reading.entries_of.Given as goal

abbrev pub invariant-loop : goal.invariant-loop
invariant-loop l = record {
  exact : entries_at (l.count - l.counter) l.total l.entries.items l.rest ≡ entries_at l.count l.total [] l.bytes;
  taken : HasTaken l.taken (paths_of l.entries.items);
  number : length l.entries.items ≡ l.counter;
  within : length l.rest ≤ l.total;
  least : length l.rest ≤ length l.bytes;
  low : l.total ≤ length l.rest + 9 + 277 * l.counter;
}
