use Rattle.std.proofs.Common.{◌≡◌, ◌++◌, drop}
use Rattle.std.specs.List.{flat_map}
use Rattle.cm_top.specs.Texts.{place_line}
use Rattle.cm_top.proofs.texts.purging.place_lines.Given as goal

abbrev pub invariant-loop-place : goal.invariant-loop-place
invariant-loop-place l = l.out.items ++ flat_map place_line (drop l.place-index l.places) ≡ l.fn.out.items ++ flat_map place_line l.places
