use Rattle.std.proofs.Common.{◌≡◌, ◌+◌, ◌*◌, ◌≤◌, length, take}
use Rattle.std.specs.List.{flat_map}
use Rattle.cm_tree.specs.Manifests.{entry_bytes}
use Rattle.cm_tree.proofs.manifest.spelling_len.Given as goal

abbrev pub invariant-loop-entry : goal.invariant-loop-entry
invariant-loop-entry l = (l.total ≡ 9 + length (flat_map entry_bytes (take l.entry-index l.entries))) × (l.total ≤ 9 + 277 * l.entry-index)
