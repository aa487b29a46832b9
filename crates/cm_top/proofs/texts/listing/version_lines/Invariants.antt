use Rattle.std.proofs.Common.{◌≡◌, ◌++◌, drop}
use Rattle.std.specs.List.{flat_map}
use Rattle.cm_top.specs.Texts.{version_line}
use Rattle.cm_top.proofs.texts.listing.version_lines.Given as goal

abbrev pub invariant-loop-row : goal.invariant-loop-row
invariant-loop-row l = l.out.items ++ flat_map version_line (drop l.row-index l.rows) ≡ l.fn.out.items ++ flat_map version_line l.rows
