use Rattle.std.proofs.Common.{◌≡◌, ◌++◌, ◌∷◌, [], length, take}
use Rattle.std.specs.Int.{w32, to_le_bytes}
use Rattle.std.specs.List.{flat_map}
use Rattle.cm_tree.specs.Manifests.{entry_bytes, magic}
use Rattle.cm_tree.proofs.manifest.spelled.Given as goal

abbrev pub invariant-loop-entry : goal.invariant-loop-entry
invariant-loop-entry l = l.out.items ≡ magic ++ (1 ∷ []) ++ to_le_bytes w32 (length l.entries) ++ flat_map entry_bytes (take l.entry-index l.entries)
