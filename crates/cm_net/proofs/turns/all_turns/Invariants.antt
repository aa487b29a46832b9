use Rattle.std.proofs.Common.{◌≡◌, ◌∷◌, take}
use Rattle.std.specs.List.{flat_map}
use Rattle.cm_net.specs.Spans.{turns_of_span}
use Rattle.cm_net.proofs.turns.all_turns.Given as goal

abbrev pub invariant-loop-span : goal.invariant-loop-span
invariant-loop-span l = l.turns.items ≡ 0 ∷ flat_map turns_of_span (take l.span-index l.spans)
