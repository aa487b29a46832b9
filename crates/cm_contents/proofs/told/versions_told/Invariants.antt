use Rattle.std.proofs.Common.{◌≡◌, ◌≤◌, ◌+◌, take, length}
use Rattle.std.specs.Prelude.{map, vec_capacity}
use Rattle.cm_state.specs.State.{version_row}
use Rattle.cm_contents.specs.Contents.{held_with, manifest_in_map}
use Rattle.cm_contents.proofs.told.versions_told.Given as goal

abbrev pub invariant-loop-row : goal.invariant-loop-row
invariant-loop-row l = record {
  told : l.told.items ≡ map (λ row. version_row (held_with (manifest_in_map l.manifests) row)) (take l.row-index l.rows);
  room : length l.rows + l.more ≤ vec_capacity l.told;
}
