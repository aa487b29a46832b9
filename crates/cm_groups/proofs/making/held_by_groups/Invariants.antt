use Rattle.std.proofs.Common.{◌≡◌, map, take}
use Rattle.cm_groups.specs.Groups.{held_by}
use Rattle.cm_groups.proofs.making.held_by_groups.Given as goal

abbrev pub invariant-loop-text : goal.invariant-loop-text
invariant-loop-text l = l.held.items ≡ map (λ text. held_by l.rows text) (take l.text-index l.texts)
