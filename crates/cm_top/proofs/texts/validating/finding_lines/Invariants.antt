use Rattle.std.proofs.Common.{◌≡◌, ◌++◌, drop}
use Rattle.std.specs.List.{flat_map}
use Rattle.cm_top.specs.Texts.{finding_line}
use Rattle.cm_top.proofs.texts.validating.finding_lines.Given as goal

abbrev pub invariant-loop-finding : goal.invariant-loop-finding
invariant-loop-finding l = l.out.items ++ flat_map finding_line (drop l.finding-index l.list) ≡ l.fn.out.items ++ flat_map finding_line l.list
