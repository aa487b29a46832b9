use Rattle.std.proofs.Common.{◌≡◌, ◌≤◌, ◌-◌, ◌*◌, ◌++◌, length, take}
use Rattle.std.specs.List.{flat_map}
use Rattle.cm_tree.specs.Manifests.{entry_bytes}
use Rattle.cm_datalib.proofs.spelling.fill.Given as goal

abbrev pub invariant-loop-to : goal.invariant-loop-to
invariant-loop-to l = record {
  begins : l.from ≤ l.to;
  within : l.to ≤ length l.entries;
  first : l.to ≡ l.from → l.count ≡ 0;
  fits : l.count ≤ 65536;
  most : l.count ≤ 277 * (l.to - l.from);
  bytes : flat_map entry_bytes (take l.to l.entries) ≡ flat_map entry_bytes (take l.from l.entries) ++ take l.count l.piece;
}

abbrev pub decreases-loop-to : goal.decreases-loop-to
decreases-loop-to l = length l.entries - l.to
