use Rattle.std.proofs.Common.{◌≡◌, length, map, take, ◌≤◌}
use Rattle.cm_base.specs.Names.{fold_byte}
use Rattle.cm_tree.proofs.file_path.folded_bytes.Given as goal

abbrev pub invariant-loop-i : goal.invariant-loop-i
invariant-loop-i l = (l.i ≤ l.i-end) × (length l.bytes ≡ 240) × (l.i-end ≡ length l.text) × (take l.i l.bytes ≡ map fold_byte (take l.i l.text))
